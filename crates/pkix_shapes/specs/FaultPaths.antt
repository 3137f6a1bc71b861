-- Which element in a document is at fault: the path to it, by the fields and members that it is in.
use Rattle.std.specs.Prelude.{Bool, List, Some, [], false, suc, true, zero, ℕ, ◌++◌, ◌+◌, ◌∷◌, ◌≡◌, ◌⊎◌}
use Rattle.tlv_core.specs.Identifier.{Tag}
use Rattle.tlv_core.specs.Limits.{Limits}
use Rattle.tlv_core.specs.declared.fault.Fault.{Fault}
use Rattle.tlv_core.specs.declared.reason.Reason.TheVariants.{Inner}
use Rattle.x690.specs.Contents.{OctetString}
use Rattle.x690.specs.ContentsFaults.{After, MemberStands}
use Rattle.x690.specs.HeaderFaults.{OpensThen, Stands, StandsThen}
use Rattle.x690.specs.Layouts.{same_tag}
use Rattle.x690.specs.Lists.{one_of}
use Rattle.x690.specs.Points.{Enclosing, outermost}
use Rattle.x690.specs.Stops.{StopsBehind}
use Rattle.x690.specs.Takes.{Takes, TakesThen}
use Rattle.x690.specs.TypeTerms.{ChoiceType, Chosen, ContainingType, Default, DefinedByType, EndOfFields, Fields, LeafType, OpenType, Optional, RefusedType, Required, RuledType, SequenceOfType, SequenceType, SetOfType, TypeTerm, fits_tag}
use Rattle.x690.specs.Values.{Leaf, Same, Value, leaf_at}
use Rattle.pkix_shapes.specs.Paths.{Path}

-- An element of a type, its identifier taken, has the fault: what this says of the enclosing containers, the place of
-- its identifier, its tag and form, and the octets after its identifier with the place where these begin.
abbrev pub AfterIdentifier : Type 1
AfterIdentifier = Enclosing → ℕ → Tag → Bool → ℕ → List ℕ → Type 0

-- The member of this number, of the type, is at fault: those before it are taken.
abbrev pub FaultyMember : Limits → TypeTerm → ℕ → Enclosing → Bool → ℕ → List ℕ → AfterIdentifier → Type 0
FaultyMember limits type number enclosing constructed here octets Member =
    OpensThen limits enclosing constructed here octets (λ inside after rest.
    After (MemberStands limits type inside)
    (λ before place' octets'. StandsThen limits inside place' octets' (Member inside place')) number tt after rest)

-- An element of the type, whose tag fits it, is here and is at fault.
abbrev pub FaultyHere : Limits → TypeTerm → Enclosing → ℕ → List ℕ → AfterIdentifier → Type 0
FaultyHere limits type enclosing place octets Field =
    StandsThen limits enclosing place octets (λ tag constructed after rest.
    (fits_tag type tag ≡ true) × Field enclosing place tag constructed after rest)

-- A field of the type isn't there, as another tag is here, and this holds.
abbrev pub PassesOver : Limits → TypeTerm → Enclosing → ℕ → List ℕ → Type 0 → Type 0
PassesOver limits type enclosing place octets Then =
    StandsThen limits enclosing place octets (λ tag constructed after rest. (fits_tag type tag ≡ false) × Then)

unfoldable mutual
  -- An element of the type, whose identifier is taken, has the fault, and the path leads from it to the element at
  -- fault: all that comes before it on the path is taken.
  pub Faulty : Limits → TypeTerm → Path → List Value → Enclosing → ℕ → Tag → Bool → ℕ → List ℕ → Fault → Type 0
  -- here
  Faulty limits type [] earlier enclosing place tag constructed here octets found =
      StopsBehind limits type earlier enclosing place tag constructed here octets found
  -- to a field, a member, or what the octets contain, whose fault is shown with its own place and reason
  Faulty limits (SequenceType own fields) (number ∷ path) earlier enclosing place tag constructed here octets found =
      (same_tag own tag ≡ true)
      × OpensThen limits enclosing constructed here octets
      (λ inside after rest. FaultyField limits fields number path [] inside after rest found)
  Faulty limits
      (SequenceOfType own least type) (number ∷ path) earlier enclosing place tag constructed here octets found =
      (same_tag own tag ≡ true)
      × FaultyMember limits type number enclosing constructed here octets
      (λ inside place' tag' form after rest. Faulty limits type path [] inside place' tag' form after rest found)
  Faulty limits (SetOfType own least type) (number ∷ path) earlier enclosing place tag constructed here octets found =
      (same_tag own tag ≡ true)
      × FaultyMember limits type number enclosing constructed here octets
      (λ inside place' tag' form after rest. Faulty limits type path [] inside place' tag' form after rest found)
  Faulty limits
      (ContainingType own rule type) (number ∷ path) earlier enclosing place tag constructed here octets found =
      (same_tag own tag ≡ true)
      × (number ≡ 0)
      × (stand : List ℕ)
      × (contained : List ℕ)
      × (taken : ℕ)
      × (rest : List ℕ)
      × (inner : Fault)
      × Stands limits enclosing place stand tag constructed here octets
      × Takes limits (LeafType own OctetString) [] enclosing place stand (Leaf own contained) taken rest
      × StandsThen limits outermost 0 contained
      (λ tag' form after rest'. Faulty limits type path earlier outermost 0 tag' form after rest' inner)
      × (found ≡ record { at = place; why = Inner; inside = Some (inner.at, inner.why) })
  -- a rule is no step, nor is the choice of a type
  Faulty limits (RuledType rule type) (number ∷ path) earlier enclosing place tag constructed here octets found =
      Faulty limits type (number ∷ path) earlier enclosing place tag constructed here octets found
  Faulty limits
      (DefinedByType leaf_path identifiers first second)
      (number ∷ path) earlier enclosing place tag constructed here octets
      found =
      Chosen (one_of (leaf_at leaf_path earlier) identifiers)
      (Faulty limits first (number ∷ path) earlier enclosing place tag constructed here octets found)
      (Faulty limits second (number ∷ path) earlier enclosing place tag constructed here octets found)
  Faulty limits (ChoiceType first second) (number ∷ path) earlier enclosing place tag constructed here octets found =
      Chosen (fits_tag first tag)
      (Faulty limits first (number ∷ path) earlier enclosing place tag constructed here octets found)
      (Faulty limits second (number ∷ path) earlier enclosing place tag constructed here octets found)
  -- no element of a type is in these
  Faulty limits (LeafType own kind) (number ∷ path) earlier enclosing place tag constructed here octets found = ⊥
  Faulty limits OpenType (number ∷ path) earlier enclosing place tag constructed here octets found = ⊥
  Faulty limits (RefusedType own why) (number ∷ path) earlier enclosing place tag constructed here octets found = ⊥

  -- The field of this number, of those from here on, has the fault: those before it are taken, or not there.
  pub FaultyField : Limits → Fields → ℕ → Path → List Value → Enclosing → ℕ → List ℕ → Fault → Type 0
  FaultyField limits EndOfFields number path earlier enclosing place octets found = ⊥
  FaultyField limits (Required type fields) zero path earlier enclosing place octets found =
      FaultyHere limits type enclosing place octets
      (λ inside place' tag form after rest. Faulty limits type path earlier inside place' tag form after rest found)
  FaultyField limits (Required type fields) (suc number) path earlier enclosing place octets found =
      TakesThen limits type earlier enclosing place octets (λ value taken rest.
      FaultyField limits fields number path (earlier ++ (value ∷ [])) enclosing (place + taken) rest found)
  FaultyField limits (Optional type fields) zero path earlier enclosing place octets found =
      FaultyHere limits type enclosing place octets
      (λ inside place' tag form after rest. Faulty limits type path earlier inside place' tag form after rest found)
  FaultyField limits (Optional type fields) (suc number) path earlier enclosing place octets found =
      TakesThen limits type earlier enclosing place octets (λ value taken rest.
      FaultyField limits fields number path (earlier ++ (value ∷ [])) enclosing (place + taken) rest found)
      ⊎ PassesOver limits type enclosing place octets
      (FaultyField limits fields number path earlier enclosing place octets found)
  FaultyField limits (Default own contents type fields) zero path earlier enclosing place octets found =
      FaultyHere limits type enclosing place octets
      (λ inside place' tag form after rest. Faulty limits type path earlier inside place' tag form after rest found)
  -- (a value that is the default is none of the earlier ones)
  FaultyField limits (Default own contents type fields) (suc number) path earlier enclosing place octets found =
      TakesThen limits type earlier enclosing place octets (λ value taken rest.
      (Same value (Leaf own contents)
      × FaultyField limits fields number path earlier enclosing (place + taken) rest found)
      ⊎ ((Same value (Leaf own contents) → ⊥)
      × FaultyField limits fields number path (earlier ++ (value ∷ [])) enclosing (place + taken) rest found))
      ⊎ PassesOver limits type enclosing place octets
      (FaultyField limits fields number path earlier enclosing place octets found)

-- The fault at the end of a path is the fault of the whole.
abbrev pub FaultPathsStop : Type 0
FaultPathsStop =
    (limits : Limits) (type : TypeTerm) (path : Path) (earlier : List Value) (enclosing : Enclosing) (place : ℕ)
    (tag : Tag) (constructed : Bool) (here : ℕ) (octets : List ℕ) (found : Fault)
    → Faulty limits type path earlier enclosing place tag constructed here octets found
    → StopsBehind limits type earlier enclosing place tag constructed here octets found
