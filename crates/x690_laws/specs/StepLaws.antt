-- What the laws on single steps of the plain reading say: what stands next, a container, a primitive element, the
-- segments of a string. The contracts of `Pull` cite these readings.
use Rattle.std.specs.Prelude.{Bool, List, [], length, true, ℕ, ◌++◌, ◌+◌, ◌<◌, ◌∷◌, ◌≡◌}
use Rattle.tlv_core.specs.Identifier.{Tag}
use Rattle.tlv_core.specs.Limits.{Limits}
use Rattle.tlv_core.specs.declared.fault.Fault.{Fault}
use Rattle.tlv_core.specs.declared.reason.Reason.TheVariants.{BadBits}
use Rattle.x690.specs.Contents.{AreBitSegments}
use Rattle.x690.specs.ContentsFaults.{After, PrimitiveStops, SegmentStands, SegmentStops, SegmentsStop}
use Rattle.x690.specs.HeaderFaults.{EndsHere, LengthStands, Opens, OpensThen, Stands, StopsInForm, StopsInTag}
use Rattle.x690.specs.Points.{Enclosing, fault}
use Rattle.x690.specs.ReadContents.{is_next_segment, read_segment}
use Rattle.x690.specs.ReadHeaders.{ContainerEnds, ElementStands, Ended, each_member, in_container, next_tag, primitive_contents}
use Rattle.x690.specs.Reading.{Done, Halted, Reading, Took, require, run, ◌>>=◌}

-- What stands next: an element, the end of the container, or a fault in its identifier.
pub record NextSteps : Type 0 where
  pub stands : (limits : Limits) (enclosing : Enclosing) (place : ℕ) (octets : List ℕ) (at : ℕ) (tag : Tag)
      (constructed : Bool) (behind : ℕ) (rest : List ℕ)
      → run (next_tag limits enclosing) place octets ≡ Took (ElementStands at tag constructed) behind rest
      → (at ≡ place) × Stands limits enclosing place octets tag constructed behind rest
  pub stands_so : (limits : Limits) (enclosing : Enclosing) (place : ℕ) (octets : List ℕ) (tag : Tag)
      (constructed : Bool) (behind : ℕ) (rest : List ℕ)
      → Stands limits enclosing place octets tag constructed behind rest
      → run (next_tag limits enclosing) place octets ≡ Took (ElementStands place tag constructed) behind rest
  pub ends : (limits : Limits) (enclosing : Enclosing) (place : ℕ) (octets : List ℕ) (at behind : ℕ) (rest : List ℕ)
      → run (next_tag limits enclosing) place octets ≡ Took (ContainerEnds at) behind rest
      → (at ≡ place) × EndsHere limits enclosing place octets
  pub ends_so : (limits : Limits) (enclosing : Enclosing) (place : ℕ) (octets : List ℕ)
      → EndsHere limits enclosing place octets
      → (behind : ℕ) × (rest : List ℕ)
      × (run (next_tag limits enclosing) place octets ≡ Took (ContainerEnds place) behind rest)
  pub stops : (limits : Limits) (enclosing : Enclosing) (place : ℕ) (octets : List ℕ) (found : Fault)
      → run (next_tag limits enclosing) place octets ≡ Halted found → StopsInTag limits enclosing place octets found
  pub stops_so : (limits : Limits) (enclosing : Enclosing) (place : ℕ) (octets : List ℕ) (found : Fault)
      → StopsInTag limits enclosing place octets found → run (next_tag limits enclosing) place octets ≡ Halted found

-- A container, after its identifier, which begins at `place`: it opens, or stops in its form or length.
pub record ContainerSteps : Type 0 where
  pub opens : (limits : Limits) (enclosing : Enclosing) (place : ℕ) (constructed : Bool) (here : ℕ) (octets : List ℕ)
      (inside : Enclosing) (behind : ℕ) (rest : List ℕ)
      → run (in_container limits enclosing place constructed Done) here octets ≡ Took inside behind rest
      → Opens limits enclosing constructed here octets inside behind rest
  pub opens_so : (limits : Limits) (enclosing : Enclosing) (place : ℕ) (constructed : Bool) (here : ℕ) (octets : List ℕ)
      (inside : Enclosing) (behind : ℕ) (rest : List ℕ)
      → Opens limits enclosing constructed here octets inside behind rest
      → run (in_container limits enclosing place constructed Done) here octets ≡ Took inside behind rest
  pub stops : (limits : Limits) (enclosing : Enclosing) (place : ℕ) (constructed : Bool) (here : ℕ) (octets : List ℕ)
      (found : Fault)
      → run (in_container limits enclosing place constructed Done) here octets ≡ Halted found
      → StopsInForm limits enclosing place constructed here octets found
  pub stops_so : (limits : Limits) (enclosing : Enclosing) (place : ℕ) (constructed : Bool) (here : ℕ) (octets : List ℕ)
      (found : Fault)
      → StopsInForm limits enclosing place constructed here octets found
      → run (in_container limits enclosing place constructed Done) here octets ≡ Halted found

-- A primitive element, after its identifier: its length stands at `here` and its contents from
-- `start` on, or it stops.
pub record PrimitiveSteps : Type 0 where
  pub stands : (limits : Limits) (enclosing : Enclosing) (place here : ℕ) (octets contents : List ℕ) (behind : ℕ)
      (rest : List ℕ)
      → run (primitive_contents limits enclosing place) here octets ≡ Took contents behind rest
      → (start : ℕ)
      × (behind ≡ start + length contents)
      × LengthStands limits enclosing.nearest_end here octets (length contents) start (contents ++ rest)
  pub stands_so : (limits : Limits) (enclosing : Enclosing) (place here : ℕ) (octets contents : List ℕ) (start : ℕ)
      (rest : List ℕ)
      → LengthStands limits enclosing.nearest_end here octets (length contents) start (contents ++ rest)
      → run (primitive_contents limits enclosing place) here octets ≡ Took contents (start + length contents) rest
  pub stops : (limits : Limits) (enclosing : Enclosing) (place here : ℕ) (octets : List ℕ) (found : Fault)
      → run (primitive_contents limits enclosing place) here octets ≡ Halted found
      → PrimitiveStops limits enclosing place here octets (λ contents. ⊥) found
  pub stops_so : (limits : Limits) (enclosing : Enclosing) (place here : ℕ) (octets : List ℕ) (found : Fault)
      → PrimitiveStops limits enclosing place here octets (λ contents. ⊥) found
      → run (primitive_contents limits enclosing place) here octets ≡ Halted found

-- the one segment of a primitive string
abbrev pub read_only_segment : ℕ → Limits → Enclosing → ℕ → Reading (List (List ℕ))
read_only_segment number limits enclosing place =
    primitive_contents limits enclosing place
    >>= λ contents. require (is_next_segment number [] contents) (fault place BadBits) (Done (contents ∷ []))

-- the segments of a constructed string
abbrev pub read_all_segments : ℕ → Limits → Enclosing → ℕ → Reading (Ended (List (List ℕ)))
read_all_segments number limits enclosing place =
    in_container limits enclosing place true
    (λ inside. each_member (read_segment limits.depth limits number inside) limits.octets limits inside [])

-- The contents of a primitive string are bad where it is a BIT STRING.
abbrev pub BadSegment : ℕ → ℕ → Fault → List ℕ → Type 0
BadSegment number place found contents =
    (number ≡ 3) × (AreBitSegments (contents ∷ []) → ⊥) × (found ≡ fault place BadBits)

-- A string of the universal tag of this number, after its identifier: its segments stand one after another up to the
-- end of the string, or it stops.
pub record StringSteps : Type 0 where
  pub one_stands : (number : ℕ) (limits : Limits) (enclosing : Enclosing) (place here : ℕ) (octets : List ℕ)
      (segments : List (List ℕ)) (behind : ℕ) (rest : List ℕ)
      → run (read_only_segment number limits enclosing place) here octets ≡ Took segments behind rest
      → (contents : List ℕ) × (start : ℕ) × (segments ≡ contents ∷ []) × (number ≡ 3 → AreBitSegments (contents ∷ []))
      × (behind ≡ start + length contents)
      × LengthStands limits enclosing.nearest_end here octets (length contents) start (contents ++ rest)
  pub one_stands_so : (number : ℕ) (limits : Limits) (enclosing : Enclosing) (place here : ℕ) (octets contents : List ℕ)
      (start : ℕ) (rest : List ℕ)
      → (number ≡ 3 → AreBitSegments (contents ∷ []))
      → LengthStands limits enclosing.nearest_end here octets (length contents) start (contents ++ rest)
      → run (read_only_segment number limits enclosing place) here octets
      ≡ Took (contents ∷ []) (start + length contents) rest
  pub one_stops : (number : ℕ) (limits : Limits) (enclosing : Enclosing) (place here : ℕ) (octets : List ℕ)
      (found : Fault)
      → run (read_only_segment number limits enclosing place) here octets ≡ Halted found
      → PrimitiveStops limits enclosing place here octets (BadSegment number place found) found
  pub one_stops_so : (number : ℕ) (limits : Limits) (enclosing : Enclosing) (place here : ℕ) (octets : List ℕ)
      (found : Fault)
      → PrimitiveStops limits enclosing place here octets (BadSegment number place found) found
      → run (read_only_segment number limits enclosing place) here octets ≡ Halted found
  pub all_stand : (number : ℕ) (limits : Limits) (enclosing : Enclosing) (place here : ℕ) (octets : List ℕ)
      (ended : Ended (List (List ℕ))) (behind : ℕ) (rest : List ℕ)
      → run (read_all_segments number limits enclosing place) here octets ≡ Took ended behind rest
      → (number ≡ 3 → AreBitSegments ended.all)
      × OpensThen limits enclosing true here octets (λ inside start contents.
      (many : ℕ)
      × After (SegmentStands limits inside number)
      (λ all place' octets'. EndsHere limits inside place' octets' × (all ≡ ended.all)) many [] start contents)
  pub all_stand_so : (number : ℕ) (limits : Limits) (enclosing : Enclosing) (place here : ℕ) (octets : List ℕ)
      (segments : List (List ℕ))
      → 0 < here
      → OpensThen limits enclosing true here octets (λ inside start contents.
      (many : ℕ)
      × After (SegmentStands limits inside number)
      (λ all place' octets'. EndsHere limits inside place' octets' × (all ≡ segments)) many [] start contents)
      → (ended : Ended (List (List ℕ))) × (behind : ℕ) × (rest : List ℕ) × (ended.all ≡ segments)
      × (run (read_all_segments number limits enclosing place) here octets ≡ Took ended behind rest)
  pub all_stop : (number : ℕ) (limits : Limits) (enclosing : Enclosing) (place here : ℕ) (octets : List ℕ)
      (found : Fault)
      → 0 < here
      → run (read_all_segments number limits enclosing place) here octets ≡ Halted found
      → SegmentsStop (λ inside before. SegmentStops limits.depth limits number inside before)
      limits number enclosing [] place here octets found
  pub all_stop_so : (number : ℕ) (limits : Limits) (enclosing : Enclosing) (place here : ℕ) (octets : List ℕ)
      (found : Fault)
      → 0 < here
      → SegmentsStop (λ inside before. SegmentStops limits.depth limits number inside before)
      limits number enclosing [] place here octets found
      → run (read_all_segments number limits enclosing place) here octets ≡ Halted found
