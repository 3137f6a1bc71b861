-- The outline of a document: the headers that are in it, one after another, and where its containers end, by the
-- plain reading of headers.
use Rattle.std.specs.Prelude.{List, None, Option, Some, [], false, length, true, ℕ, ◌+◌, ◌∷◌, ◌≡◌}
use Rattle.tlv_core.specs.Limits.{Limits}
use Rattle.tlv_core.specs.declared.fault.Fault.{Fault}
use Rattle.x690.specs.Points.{Enclosing, outermost}
use Rattle.x690.specs.ReadHeaders.{ContainerEnds, ElementStands, in_container, next_tag, primitive_contents}
use Rattle.x690.specs.Reading.{Done, Halted, Took, run}
use Rattle.ber_outline.specs.Announced.{announced}
use Rattle.ber_outline.specs.declared.event.Event.{Event}
use Rattle.ber_outline.specs.declared.event.Event.TheVariants.{Begin, End, Primitive}
use Rattle.ber_outline.specs.declared.event.ElementHeader.{ElementHeader}
use Rattle.ber_outline.specs.declared.event.Stop.{Stop}

-- A point of a document: what encloses the members of each open container, the innermost first; the place, and the
-- octets from there on.
pub record Position : Type 0 where
  pub containers : List Enclosing
  pub place : ℕ
  pub octets : List ℕ

-- the start of a document
abbrev pub start : List ℕ → Position
start octets = record { containers = []; place = 0; octets = octets }

-- what encloses an element
abbrev pub innermost_of : List Enclosing → Enclosing
innermost_of [] = outermost
innermost_of (enclosing ∷ around) = enclosing

abbrev pub without_innermost : List Enclosing → List Enclosing
without_innermost [] = []
without_innermost (enclosing ∷ around) = around

-- The header is at the point: `after` is the place after its identifier, and `rest` follows there.
pub record HeaderAt (limits : Limits) (header : ElementHeader) (p : Position) (after : ℕ) (rest : List ℕ) : Type 0 where
  pub identifier : run (next_tag limits (innermost_of p.containers)) p.place p.octets
      ≡ Took (ElementStands header.at header.tag header.constructed) after rest
  pub depth : header.depth ≡ length p.containers
  pub announces : header.announced ≡ announced after rest

-- The event leads from one point to the next.
abbrev pub Happens : Limits → Event → Position → Position → Type 0
Happens limits (Primitive header begin end) p q =
    (after : ℕ) × (rest : List ℕ) × (contents : List ℕ)
    × HeaderAt limits header p after rest
    × (header.constructed ≡ false)
    × (run (primitive_contents limits (innermost_of p.containers) header.at) after rest
    ≡ Took contents q.place q.octets)
    × (begin + length contents ≡ end) × (end ≡ q.place) × (q.containers ≡ p.containers)
Happens limits (Begin header begin) p q =
    (after : ℕ) × (rest : List ℕ) × (inside : Enclosing)
    × HeaderAt limits header p after rest
    × (header.constructed ≡ true)
    × (run (in_container limits (innermost_of p.containers) header.at true Done) after rest
    ≡ Took inside q.place q.octets)
    × (begin ≡ q.place) × (q.containers ≡ inside ∷ p.containers)
Happens limits (End at) p q =
    (run (next_tag limits (innermost_of p.containers)) p.place p.octets ≡ Took (ContainerEnds at) q.place q.octets)
    × (q.containers ≡ without_innermost p.containers)

-- after the identifier of an element the fault is found in its length, or in its contents if it is primitive
abbrev pub StopsAfter : Limits → ElementHeader → Fault → Position → ℕ → List ℕ → Type 0
StopsAfter limits header fault p after rest =
    elim header.constructed [
      | false ↦ run (primitive_contents limits (innermost_of p.containers) header.at) after rest ≡ Halted fault
      | true ↦ run (in_container limits (innermost_of p.containers) header.at true Done) after rest ≡ Halted fault
    ]

-- What is at the point stops with the fault: in its identifier, or in the element of this header.
abbrev pub StopsWith : Limits → Fault → Option ElementHeader → Position → Type 0
StopsWith limits fault None p = run (next_tag limits (innermost_of p.containers)) p.place p.octets ≡ Halted fault
StopsWith limits fault (Some header) p =
    (after : ℕ) × (rest : List ℕ) × HeaderAt limits header p after rest
    × StopsAfter limits header fault p after rest

-- The events are all that happens from the point on, one after another: up to the end of the outermost element, or up
-- to where what comes next stops.
unfoldable pub Outlines : Limits → List Event → Option Stop → Position → Type 0
Outlines limits [] None p = ⊥
Outlines limits [] (Some stop) p = StopsWith limits stop.fault stop.element p
Outlines limits (event ∷ events) stop p =
    (q : Position) × Happens limits event p q
    × elim q.containers [
      | [] ↦ (events ≡ []) × (stop ≡ None)
      | enclosing ∷ around ↦ Outlines limits events stop q
    ]

-- They are the outline of the document.
abbrev pub IsOutline : Limits → List ℕ → List Event → Option Stop → Type 0
IsOutline limits document events stop = Outlines limits events stop (start document)
