-- What is shown of a fault: the container that it is about, and how many octets an element has too many.
use Rattle.std.specs.Prelude.{Bool, List, None, Option, Some, cond, false, min, nat_le, suc, true, zero, ℕ, ◌+◌, ◌-◌, ◌^◌, ◌≡◌, ◌⊎◌}
use Rattle.std.specs.List.{slice_get}
use Rattle.std.specs.Option.{is_some, option_map}
use Rattle.asn_names.specs.declared.element.NamedElement.{NamedElement}
use Rattle.ber_outline.specs.declared.announced.Announced.{Announced}
use Rattle.tlv_core.specs.declared.reason.Reason.{Reason}
use Rattle.tlv_core.specs.declared.reason.Reason.TheVariants as reasons
use Rattle.explain.specs.FaultLocations.{IsPath, enclosed}
use Rattle.reports.specs.declared.report.FaultContainer.{FaultContainer}
use Rattle.reports.specs.declared.report.Found.{Found}
use Rattle.reports.specs.declared.report.Length.{Length}
use Rattle.reports.specs.declared.report.Line.{Line}
use Rattle.reports.specs.declared.report.Value.{Value}
use Rattle.reports.specs.declared.report.Value.TheVariants.{NotShown}

-- a sum, at most the largest number of 64 bits
abbrev pub saturating_sum : ℕ → ℕ → ℕ
saturating_sum one other = min (one + other) (2 ^ 64 - 1)

-- where an element of definite length ends by its header
abbrev pub end_by : Option Announced → Option ℕ
end_by None = None
end_by (Some announced) = option_map (saturating_sum announced.contents) announced.length

abbrev pub announced_end : NamedElement → Option ℕ
announced_end element = end_by element.header.announced

abbrev pub end_of : Option NamedElement → Option ℕ
end_of None = None
end_of (Some element) = announced_end element

-- The nearest container of definite length round the element of this number, over so many elements; there may be none.
abbrev pub NearestDefinite : ℕ → List NamedElement → ℕ → Option ℕ → Type 0
NearestDefinite zero elements number found = (enclosed elements number ≡ None) × (found ≡ None)
NearestDefinite (suc count) elements number found =
    (element : NamedElement) × (enclosed elements number ≡ Some element)
    × (((is_some (end_of (slice_get elements element.around)) ≡ true) × (found ≡ Some element.around))
    ⊎ ((is_some (end_of (slice_get elements element.around)) ≡ false)
    × NearestDefinite count elements element.around found))

abbrev pub IsNearest : List NamedElement → ℕ → Option ℕ → Type 0
IsNearest elements number found = (count : ℕ) × NearestDefinite count elements number found

-- what length octets say that the contents have, counted from the element's start
abbrev pub far_of : ℕ → Option Length → Option ℕ
far_of at None = None
far_of at (Some length) = option_map (saturating_sum (saturating_sum at length.header)) length.contents

abbrev pub reach_of : Option Found → Option ℕ
reach_of None = None
reach_of (Some found) = far_of found.at found.length

abbrev pub past_of : Option ℕ → Option ℕ → Option ℕ
past_of None reach = None
past_of (Some end) None = None
past_of (Some end) (Some reach) = cond (nat_le end reach) (Some (reach - end)) None

abbrev pub end_in : Option FaultContainer → Option ℕ
end_in None = None
end_in (Some container) = container.end

-- where an element has to end: with the file (Truncated), or with its container (PastEnd)
abbrev pub limit_of : Reason → ℕ → Option FaultContainer → Option ℕ
limit_of reasons.Truncated octets container = Some octets
limit_of reasons.PastEnd octets container = end_in container
limit_of _ octets container = None

-- how many octets the contents that an element announces have too many
abbrev pub over_of : Reason → ℕ → Option FaultContainer → Option Found → Option ℕ
over_of why octets container found = past_of (limit_of why octets container) (reach_of found)

-- The container that a fault is about has the path, the place and the end of this element.
abbrev pub IsContainerBy : List NamedElement → ℕ → Option NamedElement → Option FaultContainer → Type 0
IsContainerBy elements number None container = container ≡ None
IsContainerBy elements number (Some element) None = ⊥
IsContainerBy elements number (Some element) (Some container) =
    IsPath elements number container.path.items × (container.at ≡ element.header.at)
    × (container.end ≡ announced_end element)

abbrev pub IsContainerAt : List NamedElement → Option ℕ → Option FaultContainer → Type 0
IsContainerAt elements None container = container ≡ None
IsContainerAt elements (Some number) container =
    IsContainerBy elements number (slice_get elements number) container

-- Of Missing the one that has ended; of PastEnd the nearest one of definite length round the element.
abbrev pub IsNumberOf : List NamedElement → Reason → Option ℕ → Option ℕ → Option ℕ → Type 0
IsNumberOf elements reasons.Missing container element number = number ≡ container
IsNumberOf elements reasons.PastEnd None (Some element) number = IsNearest elements element number
IsNumberOf elements reasons.PastEnd None None number = number ≡ None
IsNumberOf elements reasons.PastEnd (Some container) element number = number ≡ None
IsNumberOf elements _ container element number = number ≡ None

abbrev pub IsContainerOf : List NamedElement → Reason → Option ℕ → Option ℕ → Option FaultContainer → Type 0
IsContainerOf elements why container element found =
    (number : Option ℕ) × IsNumberOf elements why container element number × IsContainerAt elements number found

abbrev pub is_not_shown : Value → Bool
is_not_shown NotShown = true
is_not_shown _ = false

-- the header that a line shows
abbrev pub found_in : Option Line → Option Found
found_in None = None
found_in (Some line) =
    cond (is_not_shown line.value) None
    (Some (record { at = line.at; tag = line.tag; constructed = line.constructed; length = line.length }))

abbrev pub found_of : List Line → Option ℕ → Option Found
found_of lines None = None
found_of lines (Some number) = found_in (slice_get lines number)
