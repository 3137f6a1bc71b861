-- The elements of a document by its outline, and those from one on.
use Rattle.std.proofs.Common.{Err, IfOk, List, Ok, Option, Result, ℕ, arith, drop, length, take, ◌-◌, ◌≡◌}
use Rattle.std.proofs.lemmas.List.{length-drop, take_all}
use Rattle.std.specs.Borrow.{Bor}
use Rattle.tlv_core.specs.Limits.{Limits}
use Rattle.asn_names.specs.Naming.{named_by}
use Rattle.asn_names.specs.declared.element.NamedElement.{NamedElement}
use Rattle.asn_names.specs.declared.naming.NamedElements.{NamedElements}
use Rattle.ber_outline.specs.Outlines.{IsOutline}
use Rattle.ber_outline.specs.declared.event.Event.{Event}
use Rattle.ber_outline.specs.declared.event.Stop.{Stop}
use Rattle.pkix_shapes.specs.declared.shape.Shape.{Shape}
use Rattle.explain.specs.Insides.{IsNamed}

pub by_outline : {E : Type 0} → (limits : Limits) (document : List ℕ) (root : Bor Shape) (events : List Event)
    (stop : Option Stop) (result : Result NamedElements E) → IsOutline limits document events stop
    → IfOk result (λ named. (named.elements.items, named.mismatch) ≡ named_by document events stop root)
    → IfOk result (λ named. IsNamed limits document root (named.elements.items, named.mismatch))
by_outline limits document root events stop (Ok named) outline names =
    record { events = events; stop = stop; outline = outline; names = names }
by_outline limits document root events stop (Err error) outline names = tt

-- all elements from a number on
pub rest_of : (number : ℕ) (elements : List NamedElement)
    → take (length elements - number) (drop number elements) ≡ drop number elements
rest_of number elements =
    take_all (length elements - number) (drop number elements) (omega (arith, length-drop number elements))
