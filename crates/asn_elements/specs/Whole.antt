-- An element by itself: at the start of what a source tells, or as all of some octets.
use Rattle.std.specs.Prelude.{Bool, List, MatchResult, None, Option, Result, Some, [], false, true, ℕ, ◌≡◌, ◌∷◌, ◌≤◌}
use Rattle.tlv_core.specs.Limits.{Limits}
use Rattle.tlv_core.specs.Faults.{InsideMatches}
use Rattle.tlv_core.specs.declared.fault.Fault.{Fault}
use Rattle.tlv_core.specs.declared.fault.ReadError.{ReadError}
use Rattle.tlv_core.specs.declared.fault.ReadError.TheVariants as errors
use Rattle.tlv_core.specs.declared.reason.Reason.TheVariants.{Trailing}
use Rattle.x690.specs.Points.{fault, outermost}
use Rattle.x690.specs.ReadTypes.{from_inside, read_element}
use Rattle.x690.specs.Reading.{Done, Halted, Outcome, Reading, Took, run}
use Rattle.x690.specs.Reads.{Said}
use Rattle.x690.specs.TypeTerms.{TypeTerm}
use Rattle.x690.specs.Values.{Same, Value}
use Rattle.ber_pull.specs.Hears.{Hears, heard_error}

-- the value that the octets are, as an element of the type and nothing else
abbrev pub read_inside : Limits → TypeTerm → List Value → ℕ → List ℕ → Reading Value
read_inside limits type earlier place octets =
    from_inside place (run (read_element limits type earlier outermost) 0 octets)

-- the octets are this value, up to the order of what stands in a SET OF
abbrev pub IsValueInside : Limits → TypeTerm → List ℕ → Value → Type 0
IsValueInside limits type octets value =
    (v : Value) × Same v value × ((place : ℕ) → read_inside limits type [] place octets ≡ Done v)

-- the fault of octets that aren't one element and nothing else, by what reading one at their start comes to
abbrev pub fault_inside : Outcome Value → Option Fault
fault_inside (Halted found) = Some found
fault_inside (Took value taken []) = None
fault_inside (Took value taken (octet ∷ more)) = Some (fault taken Trailing)

-- the octets have this fault; want of memory says nothing
abbrev pub HaltsInside : Limits → TypeTerm → List ℕ → ReadError → Type 0
HaltsInside limits type octets (errors.Fault found) =
    fault_inside (run (read_element limits type [] outermost) 0 octets) ≡ Some found
HaltsInside limits type octets (errors.Read at) = ⊥
HaltsInside limits type octets errors.Memory = Unit {0}

-- a failed read where the source failed, another error where it didn't
abbrev pub IsFailedRead : Bool → ReadError → Type 0
IsFailedRead failed (errors.Fault found) = failed ≡ false
IsFailedRead failed (errors.Read at) = failed ≡ true
IsFailedRead failed errors.Memory = failed ≡ false

-- What is inside a fault is there exactly where its reason is Inner, whether or not the source tells its octets.
abbrev pub TellsInsideOf : ReadError → Type 0
TellsInsideOf (errors.Fault found) = InsideMatches found
TellsInsideOf (errors.Read at) = Unit {0}
TellsInsideOf errors.Memory = Unit {0}

-- One element was read from the start of what was told, and so many octets were taken; or the reading of one stops, and
-- no more octets were taken than the limit.
abbrev pub ReadsElement : {A : Type 0} → Limits → TypeTerm → (A → Value) → Option (List ℕ) → Option (List ℕ)
    → Result (A × ℕ) ReadError → Type 0
ReadsElement limits type value before after result =
    MatchResult result
    (λ read.
    (v : Value) × Same v (value read.0) × Hears (read_element limits type [] outermost) 0 before (Said v) read.1 after)
    (λ error.
    (k : ℕ) × Hears (read_element limits type [] outermost) 0 before (heard_error error) k after × (k ≤ limits.octets))
