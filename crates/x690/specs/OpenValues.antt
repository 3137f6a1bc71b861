-- Open values: elements that stand where any type may, read by their tag alone (profile).
use Rattle.std.specs.Prelude.{Bool, List, [], false, nat_le, true, ℕ, ◌&&◌, ◌==◌, ◌||◌, ◌∷◌, ◌≡◌, ◌⊎◌}
use Rattle.tlv_core.specs.Identifier.{Tag}
use Rattle.x690.specs.Contents.{BitString, Boolean, Integer, LeafContents, LeafKind, Null, ObjectIdentifier, OctetString, Utf8String}
use Rattle.x690.specs.Layouts.{Constructed, FirstTree, NoTrees, Primitive, RawTree, RawTrees}
use Rattle.x690.specs.Lists.{Picked}
use Rattle.x690.specs.Values.{Leaf, Sequence, SetOf, Value, Values, members}

-- What an open value of a tag is read as. A plain one keeps its octets where it is primitive, and its elements in
-- order where it is constructed.
pub data OpenForm : Type 0 where
  OpenLeaf : LeafKind → OpenForm
  OpenSequence OpenSetOf OpenPlain OpenRefused : OpenForm

-- the strings and times that carry any octets: OCTET STRING, ObjectDescriptor, 18 to 28 (NumericString to
-- UniversalString), BMPString
abbrev pub is_octets_string : ℕ → Bool
is_octets_string number = (number == 4) || (number == 7) || (nat_le 18 number && nat_le number 28) || (number == 30)

abbrev pub universal_forms : List (ℕ × OpenForm)
universal_forms =
    (1, OpenLeaf Boolean) ∷ (2, OpenLeaf Integer) ∷ (3, OpenLeaf BitString) ∷ (5, OpenLeaf Null)
    ∷ (6, OpenLeaf ObjectIdentifier) ∷ (10, OpenLeaf Integer)
    ∷ (12, OpenLeaf Utf8String) ∷ (16, OpenSequence) ∷ (17, OpenSetOf) ∷ []

-- what the table says of the number, refused where it says nothing
abbrev pub form_in : List (ℕ × OpenForm) → ℕ → OpenForm
form_in [] number = OpenRefused
form_in (row ∷ rows) number = elim (number == row.0) [ true ↦ row.1 | false ↦ form_in rows number ]

-- Universal tags by their number, all other classes plain.
unfoldable pub open_form : Tag → OpenForm
open_form tag =
    elim (tag.class == 0) [
      | false ↦ OpenPlain
      | true ↦ elim (is_octets_string tag.number) [
        | true ↦ OpenLeaf OctetString
        | false ↦ form_in universal_forms tag.number
      ]
    ]

-- The tree is a leaf by its tag, and says the value.
pub record IsOpenLeaf (tag : Tag) (tree : RawTree) (value : Value) : Type 0 where
  pub kind : LeafKind
  pub octets : List ℕ
  pub taken : open_form tag ≡ OpenLeaf kind
  pub contents : LeafContents kind tree octets
  pub is : value ≡ Leaf tag octets

unfoldable mutual
  -- The tree is an open value, and says the value.
  pub FitsOpen : RawTree → Value → Type 0
  FitsOpen (Primitive tag contents) value =
      IsOpenLeaf tag (Primitive tag contents) value ⊎ ((open_form tag ≡ OpenPlain) × (value ≡ Leaf tag contents))
  FitsOpen (Constructed tag trees) value =
      IsOpenLeaf tag (Constructed tag trees) value
      ⊎ ((values : Values) × ((open_form tag ≡ OpenSequence) ⊎ (open_form tag ≡ OpenPlain))
      × (value ≡ Sequence tag values) × FitOpenInPlace trees (members values))
      ⊎ ((values : Values) × (open_form tag ≡ OpenSetOf) × (value ≡ SetOf tag values)
      × FitOpenPaired trees (members values))

  -- The trees are open values that say the values of the list, in order.
  pub FitOpenInPlace : RawTrees → List Value → Type 0
  FitOpenInPlace NoTrees list = list ≡ []
  FitOpenInPlace (FirstTree tree trees) list =
      (value : Value) × (rest : List Value) × (list ≡ value ∷ rest) × FitsOpen tree value × FitOpenInPlace trees rest

  -- The trees are open values that say the values of the list, paired one to one.
  pub FitOpenPaired : RawTrees → List Value → Type 0
  FitOpenPaired NoTrees list = list ≡ []
  FitOpenPaired (FirstTree tree trees) list =
      (value : Value) × (rest : List Value) × Picked value list rest × FitsOpen tree value × FitOpenPaired trees rest
