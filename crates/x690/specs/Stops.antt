-- The fault grammar of types: how an element of a type stops (which fault comes first: profile).
use Rattle.std.specs.Prelude.{Bool, List, Option, Some, [], false, true, ℕ, ◌++◌, ◌+◌, ◌<◌, ◌∷◌, ◌≡◌, ◌⊎◌}
use Rattle.tlv_core.specs.Identifier.{Tag}
use Rattle.tlv_core.specs.Limits.{Limits}
use Rattle.tlv_core.specs.declared.fault.Fault.{Fault}
use Rattle.tlv_core.specs.declared.reason.Reason.{Reason}
use Rattle.tlv_core.specs.declared.reason.Reason.TheVariants.{EmptySet, Extra, Inner, Missing, Trailing, WrongTag}
use Rattle.x690.specs.Contents.{OctetString}
use Rattle.x690.specs.ContentsFaults.{After, LeafStops, MemberStands, OpenStops, StopsHere}
use Rattle.x690.specs.HeaderFaults.{EndsHere, OpensThen, Stands, StandsThen, StopsInForm, StopsInTag}
use Rattle.x690.specs.Layouts.{same_tag}
use Rattle.x690.specs.Lists.{one_of}
use Rattle.x690.specs.Points.{Enclosing, fault, outermost}
use Rattle.x690.specs.Takes.{Takes, TakesThen}
use Rattle.x690.specs.TypeTerms.{ChoiceType, Chosen, ContainingType, Default, DefinedByType, EndOfFields, Fields, LeafType, OpenType, Optional, RefusedType, Required, RuledType, SequenceOfType, SequenceType, SetOfType, TypeTerm, fits_tag}
use Rattle.x690.specs.Values.{Leaf, Same, Value, leaf_at}

-- A container of members stops: it is primitive, its length stops, or after some of its members the next one stops, or
-- the container ends with too few.
abbrev pub MembersStop : Limits → TypeTerm → ℕ → Enclosing → ℕ → Bool → ℕ → List ℕ
    → (Enclosing → ℕ → Tag → Bool → ℕ → List ℕ → Fault → Type 0) → (ℕ → Fault) → Fault → Type 0
MembersStop limits type least enclosing place constructed here octets Member too_few found =
    StopsInForm limits enclosing place constructed here octets found
    ⊎ OpensThen limits enclosing constructed here octets (λ inside behind rest.
    ((many : ℕ)
    × After (MemberStands limits type inside)
    (λ before place' octets'. StopsHere limits inside (Member inside) place' octets' found) many tt behind rest)
    ⊎ ((many : ℕ) × (many < least)
    × After (MemberStands limits type inside)
    (λ before place' octets'. EndsHere limits inside place' octets' × (found ≡ too_few place')) many tt behind rest))

-- What stands in an OCTET STRING, its octets taken, is at fault: as a document of its own it stops, or octets are left
-- after it, or the rule refuses it.
abbrev pub ContainedStops : Limits → TypeTerm → List Value → (Value → Option Reason) → ℕ → List ℕ → (Fault → Type 0)
    → Fault → Type 0
ContainedStops limits type earlier rule place octets Inside found =
    ((inner : Fault) × Inside inner × (found ≡ record { at = place; why = Inner; inside = Some (inner.at, inner.why) }))
    ⊎ ((value : Value) × (taken : ℕ) × (octet : ℕ) × (rest : List ℕ)
    × Takes limits type earlier outermost 0 octets value taken (octet ∷ rest)
    × (found ≡ record { at = place; why = Inner; inside = Some (taken, Trailing) }))
    ⊎ ((value : Value) × (taken : ℕ) × (why : Reason) × Takes limits type earlier outermost 0 octets value taken []
    × (rule value ≡ Some why) × (found ≡ fault place why))

-- An optional field stops, or what follows it: it isn't there, as the container ends or another tag stands here; it is,
-- and stops; or it is taken, and the fields after it stop.
abbrev pub FieldStops : Limits → TypeTerm → List Value → Enclosing → ℕ → List ℕ
    → (ℕ → Tag → Bool → ℕ → List ℕ → Fault → Type 0) → Type 0 → (Value → ℕ → List ℕ → Type 0) → Fault → Type 0
FieldStops limits type earlier enclosing place octets Behind Without With found =
    StopsInTag limits enclosing place octets found
    ⊎ (EndsHere limits enclosing place octets × Without)
    ⊎ StandsThen limits enclosing place octets (λ tag constructed behind rest.
    ((fits_tag type tag ≡ false) × Without)
    ⊎ ((fits_tag type tag ≡ true) × Behind place tag constructed behind rest found))
    ⊎ TakesThen limits type earlier enclosing place octets With

-- Another tag than its own stands here, or its own, and then this.
abbrev pub UnderTag : Tag → Tag → ℕ → Fault → Type 0 → Type 0
UnderTag own tag place found Then =
    ((same_tag own tag ≡ false) × (found ≡ fault place WrongTag)) ⊎ ((same_tag own tag ≡ true) × Then)

unfoldable mutual
  -- An element whose identifier is taken stops after it, as one of the type; `earlier` are the values of the
  -- earlier fields of its container.
  pub StopsBehind : Limits → TypeTerm → List Value → Enclosing → ℕ → Tag → Bool → ℕ → List ℕ → Fault → Type 0
  StopsBehind limits (LeafType own kind) earlier enclosing place tag constructed here octets found =
      UnderTag own tag place found (LeafStops limits enclosing kind place tag constructed here octets found)
  StopsBehind limits OpenType earlier enclosing place tag constructed here octets found =
      OpenStops limits.depth limits enclosing place tag constructed here octets found
  StopsBehind limits (SequenceOfType own least type) earlier enclosing place tag constructed here octets found =
      UnderTag own tag place found
      (MembersStop limits type least enclosing place constructed here octets
      (λ inside. StopsBehind limits type [] inside) (λ end. fault end Missing) found)
  StopsBehind limits (SetOfType own least type) earlier enclosing place tag constructed here octets found =
      UnderTag own tag place found
      (MembersStop limits type least enclosing place constructed here octets
      (λ inside. StopsBehind limits type [] inside) (λ end. fault place EmptySet) found)
  StopsBehind limits (SequenceType own fields) earlier enclosing place tag constructed here octets found =
      UnderTag own tag place found
      (StopsInForm limits enclosing place constructed here octets found
      ⊎ OpensThen limits enclosing constructed here octets
      (λ inside behind rest. StopsFields limits fields [] inside behind rest found))
  -- the OCTET STRING stops, or it stands and what it contains is at fault
  StopsBehind limits (ContainingType own rule type) earlier enclosing place tag constructed here octets found =
      UnderTag own tag place found
      (LeafStops limits enclosing OctetString place tag constructed here octets found
      ⊎ ((stand : List ℕ) × (contained : List ℕ) × (taken : ℕ) × (rest : List ℕ)
      × Stands limits enclosing place stand tag constructed here octets
      × Takes limits (LeafType own OctetString) [] enclosing place stand (Leaf own contained) taken rest
      × ContainedStops limits type earlier (rule earlier) place contained
      (λ inner. StopsHere limits outermost (StopsBehind limits type earlier outermost) 0 contained inner) found))
  -- it stops as an element of the type, or is one, and the rule refuses its value
  StopsBehind limits (RuledType rule type) earlier enclosing place tag constructed here octets found =
      StopsBehind limits type earlier enclosing place tag constructed here octets found
      ⊎ ((stand : List ℕ) × (value : Value) × (taken : ℕ) × (rest : List ℕ) × (why : Reason)
      × Stands limits enclosing place stand tag constructed here octets
      × Takes limits type earlier enclosing place stand value taken rest
      × (rule earlier value ≡ Some why)
      × (found ≡ fault place why))
  StopsBehind limits (RefusedType own why) earlier enclosing place tag constructed here octets found =
      UnderTag own tag place found (found ≡ fault place why)
  StopsBehind limits
      (DefinedByType path identifiers first second) earlier enclosing place tag constructed here octets found =
      Chosen (one_of (leaf_at path earlier) identifiers)
      (StopsBehind limits first earlier enclosing place tag constructed here octets found)
      (StopsBehind limits second earlier enclosing place tag constructed here octets found)
  StopsBehind limits (ChoiceType first second) earlier enclosing place tag constructed here octets found =
      Chosen (fits_tag first tag) (StopsBehind limits first earlier enclosing place tag constructed here octets found)
      (StopsBehind limits second earlier enclosing place tag constructed here octets found)

  -- The fields from here on stop.
  pub StopsFields : Limits → Fields → List Value → Enclosing → ℕ → List ℕ → Fault → Type 0
  StopsFields limits EndOfFields earlier enclosing place octets found =
      StopsInTag limits enclosing place octets found
      ⊎ StandsThen limits enclosing place octets (λ tag constructed behind rest. found ≡ fault place Extra)
  StopsFields limits (Required type fields) earlier enclosing place octets found =
      StopsInTag limits enclosing place octets found
      ⊎ (EndsHere limits enclosing place octets × (found ≡ fault place Missing))
      ⊎ StandsThen limits enclosing place octets (λ tag constructed behind rest.
      ((fits_tag type tag ≡ false) × (found ≡ fault place WrongTag))
      ⊎ ((fits_tag type tag ≡ true)
      × StopsBehind limits type earlier enclosing place tag constructed behind rest found))
      ⊎ TakesThen limits type earlier enclosing place octets
      (λ value taken rest. StopsFields limits fields (earlier ++ (value ∷ [])) enclosing (place + taken) rest found)
  StopsFields limits (Optional type fields) earlier enclosing place octets found =
      FieldStops limits type earlier enclosing place octets (λ place' tag constructed behind rest.
      StopsBehind limits type earlier enclosing place' tag constructed behind rest)
      (StopsFields limits fields earlier enclosing place octets found)
      (λ value taken rest. StopsFields limits fields (earlier ++ (value ∷ [])) enclosing (place + taken) rest found)
      found
  StopsFields limits (Default own contents type fields) earlier enclosing place octets found =
      FieldStops limits type earlier enclosing place octets (λ place' tag constructed behind rest.
      StopsBehind limits type earlier enclosing place' tag constructed behind rest)
      (StopsFields limits fields earlier enclosing place octets found)
      (λ value taken rest.
      (Same value (Leaf own contents) × StopsFields limits fields earlier enclosing (place + taken) rest found)
      ⊎ ((Same value (Leaf own contents) → ⊥)
      × StopsFields limits fields (earlier ++ (value ∷ [])) enclosing (place + taken) rest found)) found

-- An element of the type, which has to stand here, stops: so does what stands here, or the container ends.
abbrev pub Stops : Limits → TypeTerm → List Value → Enclosing → ℕ → List ℕ → Fault → Type 0
Stops limits type earlier enclosing place octets found =
    StopsHere limits enclosing (StopsBehind limits type earlier enclosing) place octets found
    ⊎ (EndsHere limits enclosing place octets × (found ≡ fault place Missing))
