-- The elements of a document by their names, and where the document stops matching its type.
use Rattle.std.specs.Prelude.{List, None, Option, Some, [], ℕ, ◌∷◌}
use Rattle.std.specs.Borrow.{Bor}
use Rattle.ber_outline.specs.declared.event.Event.{Event}
use Rattle.ber_outline.specs.declared.event.Stop.{Stop}
use Rattle.pkix_shapes.specs.declared.shape.Shape.{Shape}
use Rattle.asn_names.specs.NamingSteps.{State, happened, stopped}
use Rattle.asn_names.specs.declared.element.NamedElement.{NamedElement}
use Rattle.asn_names.specs.declared.element.Mismatch.{Mismatch}

-- before the first event
abbrev pub start : State
start = record { elements = []; containers = [] }

-- one event after another, up to where the document stops matching its type
abbrev pub after_events : List ℕ → Bor Shape → List Event → State → State × Option Mismatch
after_events document root [] state = (state, None)
after_events document root (event ∷ events) state =
    let next = happened document root event state in
    elim next.1 [ None ↦ after_events document root events next.0 | Some mismatch ↦ next ]

-- the end of naming
abbrev pub finished : List ℕ → Bor Shape → Option Stop → State × Option Mismatch → State × Mismatch
finished document root stop next =
    elim next.1 [ None ↦ stopped document root stop next.0 | Some mismatch ↦ (next.0, mismatch) ]

-- what comes of all events
abbrev pub outcome : State × Mismatch → List NamedElement × Mismatch
outcome end = (end.0.elements, end.1)

-- The elements that the headers of a document are, by the type, and where the document stops matching its type.
abbrev pub named_by : List ℕ → List Event → Option Stop → Bor Shape → List NamedElement × Mismatch
named_by document events stop root = outcome (finished document root stop (after_events document root events start))
