-- The plain reading of a type: the value that octets say, and the place after it, or the first fault (profile).
-- Faults of an element as a whole stand at `place`, where its identifier begins.
use Rattle.std.specs.Prelude.{Bool, List, None, Option, Some, [], false, length, nat_le, ℕ, ◌&&◌, ◌++◌, ◌∷◌, ◌≡◌}
use Rattle.tlv_core.specs.Identifier.{Tag}
use Rattle.tlv_core.specs.Limits.{Limits}
use Rattle.tlv_core.specs.declared.reason.Reason.{Reason}
use Rattle.tlv_core.specs.declared.reason.Reason.TheVariants.{EmptySet, Extra, Inner, Missing, Trailing, WrongTag}
use Rattle.x690.specs.Contents.{OctetString}
use Rattle.x690.specs.DerTexts.{der}
use Rattle.x690.specs.Layouts.{same_tag}
use Rattle.x690.specs.Lists.{one_of, same_octets}
use Rattle.x690.specs.Points.{Enclosing, fault, outermost}
use Rattle.x690.specs.ReadContents.{all_members, read_leaf, read_open}
use Rattle.x690.specs.ReadHeaders.{ContainerEnds, ElementStands, Next, in_container, next_tag}
use Rattle.x690.specs.Reading.{Done, Fail, Halted, Outcome, Reading, Took, choose, require, run, ◌>>=◌}
use Rattle.x690.specs.TypeTerms.{ChoiceType, ContainingType, Default, DefinedByType, Fields, LeafType, EndOfFields, OpenType, Optional, RefusedType, Required, RuledType, SequenceOfType, SequenceType, SetOfType, TypeTerm, fits_tag}
use Rattle.x690.specs.Values.{Leaf, Sequence, SetOf, Value, leaf_at, leaf_contents, values_of}

-- what a rule says of a value
unfoldable pub apply_rule : ℕ → Option Reason → Value → Reading Value
apply_rule place refused value = elim refused [ None ↦ Done value | Some why ↦ Fail (fault place why) ]

-- What the octets that an OCTET STRING contains gave, read as a document of their own: its fault is inside, and so
-- are octets after the value.
unfoldable pub from_inside : ℕ → Outcome Value → Reading Value
from_inside place (Halted inner) = Fail (record { at = place; why = Inner; inside = Some (inner.at, inner.why) })
from_inside place (Took value taken []) = Done value
from_inside place (Took value taken (octet ∷ more)) =
    Fail (record { at = place; why = Inner; inside = Some (taken, Trailing) })

-- an element that has to stand here, by the reading of what follows its identifier
unfoldable pub due_element : Limits → Enclosing → (ℕ → Tag → Bool → Reading Value) → Reading Value
due_element limits enclosing one =
    next_tag limits enclosing
    >>= λ next. elim next [
      | ContainerEnds place ↦ Fail (fault place Missing)
      | ElementStands place tag constructed ↦ one place tag constructed
    ]

-- the value is this leaf
abbrev pub is_this_leaf : Tag → List ℕ → Value → Bool
is_this_leaf tag octets (Leaf own contents) = same_tag own tag && same_octets contents octets
is_this_leaf tag octets (Sequence own values) = false
is_this_leaf tag octets (SetOf own values) = false

unfoldable mutual
  -- An element whose identifier is taken, read as the type; `earlier` are the values of the
  -- earlier fields of its container.
  pub read_type : Limits → TypeTerm → List Value → Enclosing → ℕ → Tag → Bool → Reading Value
  read_type limits (LeafType own kind) earlier enclosing place tag constructed =
      require (same_tag own tag) (fault place WrongTag) (read_leaf limits enclosing kind place own constructed)
  read_type limits OpenType earlier enclosing place tag constructed =
      read_open limits.depth limits enclosing place tag constructed
  read_type limits (SequenceOfType own least type) earlier enclosing place tag constructed =
      require (same_tag own tag) (fault place WrongTag)
      (all_members limits enclosing place constructed (read_type limits type [])
      >>= λ ended.
      require (nat_le least (length ended.all)) (fault ended.at Missing) (Done (Sequence own (values_of ended.all))))
  read_type limits (SetOfType own least type) earlier enclosing place tag constructed =
      require (same_tag own tag) (fault place WrongTag)
      (all_members limits enclosing place constructed (read_type limits type [])
      >>= λ ended.
      require (nat_le least (length ended.all)) (fault place EmptySet) (Done (SetOf own (values_of ended.all))))
  read_type limits (SequenceType own rest) earlier enclosing place tag constructed =
      require (same_tag own tag) (fault place WrongTag)
      (in_container limits enclosing place constructed
      (λ inside. next_tag limits inside >>= λ next. read_fields limits rest [] inside next)
      >>= λ values. Done (Sequence own (values_of values)))
  read_type limits (ContainingType own rule type) earlier enclosing place tag constructed =
      require (same_tag own tag) (fault place WrongTag)
      (read_leaf limits enclosing OctetString place own constructed
      >>= λ value.
      from_inside place
      (run (due_element limits outermost (read_type limits type earlier outermost)) 0 (leaf_contents value))
      >>= λ contained. apply_rule place (rule earlier contained) (Leaf own (der contained)))
  read_type limits (RuledType rule type) earlier enclosing place tag constructed =
      read_type limits type earlier enclosing place tag constructed
      >>= λ value. apply_rule place (rule earlier value) value
  read_type limits (RefusedType own why) earlier enclosing place tag constructed =
      require (same_tag own tag) (fault place WrongTag) (Fail (fault place why))
  read_type limits (DefinedByType path octets first second) earlier enclosing place tag constructed =
      choose (one_of (leaf_at path earlier) octets) (read_type limits first earlier enclosing place tag constructed)
      (read_type limits second earlier enclosing place tag constructed)
  read_type limits (ChoiceType first second) earlier enclosing place tag constructed =
      choose (fits_tag first tag) (read_type limits first earlier enclosing place tag constructed)
      (read_type limits second earlier enclosing place tag constructed)

  -- The fields from here on, where `next` stands: the values of those that are there, but those that are their default.
  pub read_fields : Limits → Fields → List Value → Enclosing → Next → Reading (List Value)
  read_fields limits EndOfFields earlier enclosing (ContainerEnds place) = Done []
  read_fields limits EndOfFields earlier enclosing (ElementStands place tag constructed) = Fail (fault place Extra)
  read_fields limits (Required type rest) earlier enclosing (ContainerEnds place) = Fail (fault place Missing)
  read_fields limits (Required type rest) earlier enclosing (ElementStands place tag constructed) =
      require (fits_tag type tag) (fault place WrongTag)
      (read_type limits type earlier enclosing place tag constructed
      >>= λ value. next_tag limits enclosing
      >>= λ next. read_fields limits rest (earlier ++ (value ∷ [])) enclosing next >>= λ values. Done (value ∷ values))
  read_fields limits (Optional type rest) earlier enclosing (ContainerEnds place) =
      read_fields limits rest earlier enclosing (ContainerEnds place)
  read_fields limits (Optional type rest) earlier enclosing (ElementStands place tag constructed) =
      choose (fits_tag type tag)
      (read_type limits type earlier enclosing place tag constructed
      >>= λ value. next_tag limits enclosing
      >>= λ next. read_fields limits rest (earlier ++ (value ∷ [])) enclosing next >>= λ values. Done (value ∷ values))
      (read_fields limits rest earlier enclosing (ElementStands place tag constructed))
  read_fields limits (Default own octets type rest) earlier enclosing (ContainerEnds place) =
      read_fields limits rest earlier enclosing (ContainerEnds place)
  read_fields limits (Default own octets type rest) earlier enclosing (ElementStands place tag constructed) =
      choose (fits_tag type tag)
      (read_type limits type earlier enclosing place tag constructed >>= λ value. next_tag limits enclosing >>= λ next.
      choose (is_this_leaf own octets value) (read_fields limits rest earlier enclosing next)
      (read_fields limits rest (earlier ++ (value ∷ [])) enclosing next >>= λ values. Done (value ∷ values)))
      (read_fields limits rest earlier enclosing (ElementStands place tag constructed))

-- an element of the type that has to stand here
abbrev pub read_element : Limits → TypeTerm → List Value → Enclosing → Reading Value
read_element limits type earlier enclosing = due_element limits enclosing (read_type limits type earlier enclosing)

-- A document of the type, from place 0 on.
unfoldable pub read_document : Limits → TypeTerm → List ℕ → Outcome Value
read_document limits type octets = run (read_element limits type [] outermost) 0 octets

-- a type that doesn't look at the earlier fields of its container reads the same after any
abbrev pub IsClosed : TypeTerm → Type 0
IsClosed type =
    (limits : Limits) (earlier : List Value) (enclosing : Enclosing) (place : ℕ) (tag : Tag) (constructed : Bool)
    → read_type limits type earlier enclosing place tag constructed
    ≡ read_type limits type [] enclosing place tag constructed
