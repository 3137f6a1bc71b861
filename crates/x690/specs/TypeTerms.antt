-- Type terms: the types of ASN.1 that the documents use, as data.
use Rattle.std.specs.Prelude.{Bool, List, None, Option, [], false, true, ℕ, ◌||◌, ◌∷◌, ◌≡◌, ◌⊎◌}
use Rattle.tlv_core.specs.Identifier.{Tag}
use Rattle.tlv_core.specs.declared.reason.Reason.{Reason}
use Rattle.x690.specs.Contents.{LeafKind}
use Rattle.x690.specs.Layouts.{same_tag}
use Rattle.x690.specs.Values.{Value}

-- Why a value is refused, if it is, by the earlier fields of its container and itself.
abbrev pub Rule : Type 0
Rule = List Value → Value → Option Reason

-- nothing is refused
abbrev pub no_rule : Rule
no_rule earlier value = None

-- the first where the test holds, else the second
abbrev pub Chosen : Bool → Type 0 → Type 0 → Type 0
Chosen test First Second = ((test ≡ true) × First) ⊎ ((test ≡ false) × Second)

mutual
  -- Each type carries its tag: an IMPLICIT tag stands in the place of the type's own, an EXPLICIT one is that
  -- of a sequence of one field.
  pub data TypeTerm : Type 0 where
    LeafType : Tag → LeafKind → TypeTerm
    OpenType : TypeTerm
    -- with the least number of members, and their type
    SequenceOfType SetOfType : Tag → ℕ → TypeTerm → TypeTerm
    SequenceType : Tag → Fields → TypeTerm
    -- an OCTET STRING whose octets are one element of the type and nothing else, with a rule on
    -- the value of that element
    ContainingType : Tag → Rule → TypeTerm → TypeTerm
    -- the type, with a rule on its value
    RuledType : Rule → TypeTerm → TypeTerm
    -- no value at all: an element of the tag is refused, for the reason
    RefusedType : Tag → Reason → TypeTerm
    -- the first type where the leaf at the path among the earlier fields is one of these octets, else the second
    DefinedByType : List ℕ → List (List ℕ) → TypeTerm → TypeTerm → TypeTerm
    -- a CHOICE (X.680 29, X.690 8.13): the first type where its values may begin with the tag that
    -- stands here, else the second
    ChoiceType : TypeTerm → TypeTerm → TypeTerm

  pub data Fields : Type 0 where
    EndOfFields : Fields
    Required Optional : TypeTerm → Fields → Fields
    -- with a DEFAULT, which is a leaf: its tag and contents
    Default : Tag → List ℕ → TypeTerm → Fields → Fields

-- a CHOICE of several types
abbrev pub choice_of : TypeTerm → List TypeTerm → TypeTerm
choice_of first [] = first
choice_of first (second ∷ more) = ChoiceType first (choice_of second more)

-- A value of the type may begin with the tag.
unfoldable pub fits_tag : TypeTerm → Tag → Bool
fits_tag (LeafType own kind) tag = same_tag own tag
fits_tag OpenType tag = true
fits_tag (SequenceOfType own least type) tag = same_tag own tag
fits_tag (SetOfType own least type) tag = same_tag own tag
fits_tag (SequenceType own fields) tag = same_tag own tag
fits_tag (ContainingType own rule type) tag = same_tag own tag
fits_tag (RefusedType own why) tag = same_tag own tag
fits_tag (RuledType rule type) tag = fits_tag type tag
fits_tag (DefinedByType path octets first second) tag = fits_tag first tag || fits_tag second tag
fits_tag (ChoiceType first second) tag = fits_tag first tag || fits_tag second tag

-- The fields may begin with the tag.
unfoldable pub fields_fit_tag : Fields → Tag → Bool
fields_fit_tag EndOfFields tag = false
fields_fit_tag (Required type fields) tag = fits_tag type tag
fields_fit_tag (Optional type fields) tag = fits_tag type tag || fields_fit_tag fields tag
fields_fit_tag (Default own octets type fields) tag = fits_tag type tag || fields_fit_tag fields tag

unfoldable mutual
  -- No field that may be missing begins as what may follow it (X.680 25.6).
  pub Distinct : TypeTerm → Type 0
  Distinct (LeafType tag kind) = Unit {0}
  Distinct OpenType = Unit {0}
  Distinct (SequenceOfType tag least type) = Distinct type
  Distinct (SetOfType tag least type) = Distinct type
  Distinct (SequenceType tag fields) = DistinctFields fields
  Distinct (ContainingType tag rule type) = Distinct type
  Distinct (RefusedType tag why) = Unit {0}
  Distinct (RuledType rule type) = Distinct type
  Distinct (DefinedByType path octets first second) = Distinct first × Distinct second
  Distinct (ChoiceType first second) = Distinct first × Distinct second

  pub DistinctFields : Fields → Type 0
  DistinctFields EndOfFields = Unit {0}
  DistinctFields (Required type fields) = Distinct type × DistinctFields fields
  DistinctFields (Optional type fields) =
      Distinct type
      × DistinctFields fields
      × ((tag : Tag) → fits_tag type tag ≡ true → fields_fit_tag fields tag ≡ false)
  DistinctFields (Default own octets type fields) =
      Distinct type
      × DistinctFields fields
      × ((tag : Tag) → fits_tag type tag ≡ true → fields_fit_tag fields tag ≡ false)
