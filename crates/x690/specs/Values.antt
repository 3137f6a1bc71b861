-- Values, and when two are the same.
use Rattle.std.specs.Prelude.{List, [], max, suc, zero, ℕ, ◌+◌, ◌∷◌, ◌≡◌}
use Rattle.tlv_core.specs.Identifier.{Tag}
use Rattle.x690.specs.Lists.{Picked}

mutual
  -- What a tree says: a leaf with its DER contents, a sequence of values in order (SEQUENCE and SEQUENCE OF), or a SET
  -- OF, whose order says nothing.
  pub data Value : Type 0 where
    Leaf : Tag → List ℕ → Value
    Sequence : Tag → Values → Value
    SetOf : Tag → Values → Value

  pub data Values : Type 0 where
    NoMembers : Values
    FirstMember : Value → Values → Values

abbrev pub value_tag : Value → Tag
value_tag (Leaf tag contents) = tag
value_tag (Sequence tag values) = tag
value_tag (SetOf tag values) = tag

abbrev pub members : Values → List Value
members NoMembers = []
members (FirstMember value values) = value ∷ members values

abbrev pub values_of : List Value → Values
values_of [] = NoMembers
values_of (value ∷ list) = FirstMember value (values_of list)

abbrev mutual
  -- how deep the value is, 1 where nothing is in it
  pub value_depth : Value → ℕ
  value_depth (Leaf tag contents) = 1
  value_depth (Sequence tag values) = values_depth values + 1
  value_depth (SetOf tag values) = values_depth values + 1

  pub values_depth : Values → ℕ
  values_depth NoMembers = 0
  values_depth (FirstMember value values) = max (value_depth value) (values_depth values)

unfoldable mutual
  -- Two values are the same: a SET OF counts how often each member stands in it, in whatever order.
  pub Same : Value → Value → Type 0
  Same (Leaf tag contents) (Leaf tag' contents') = (tag ≡ tag') × (contents ≡ contents')
  Same (Leaf tag contents) (Sequence tag' values') = ⊥
  Same (Leaf tag contents) (SetOf tag' values') = ⊥
  Same (Sequence tag values) (Leaf tag' contents') = ⊥
  Same (Sequence tag values) (Sequence tag' values') = (tag ≡ tag') × SameInPlace values values'
  Same (Sequence tag values) (SetOf tag' values') = ⊥
  Same (SetOf tag values) (Leaf tag' contents') = ⊥
  Same (SetOf tag values) (Sequence tag' values') = ⊥
  Same (SetOf tag values) (SetOf tag' values') = (tag ≡ tag') × SamePaired values (members values')

  pub SameInPlace : Values → Values → Type 0
  SameInPlace NoMembers NoMembers = Unit {0}
  SameInPlace NoMembers (FirstMember value' values') = ⊥
  SameInPlace (FirstMember value values) NoMembers = ⊥
  SameInPlace (FirstMember value values) (FirstMember value' values') = Same value value' × SameInPlace values values'

  -- The values can be paired one to one with those of the list, each pair being the same.
  pub SamePaired : Values → List Value → Type 0
  SamePaired NoMembers list = list ≡ []
  SamePaired (FirstMember value values) list =
      (value' : Value) × (rest : List Value) × Picked value' list rest × Same value value' × SamePaired values rest

-- the contents of a leaf, none of other values
abbrev pub leaf_contents : Value → List ℕ
leaf_contents (Leaf tag contents) = contents
leaf_contents (Sequence tag values) = []
leaf_contents (SetOf tag values) = []

-- the members of a sequence, none of other values
abbrev pub sequence_members : Value → List Value
sequence_members (Leaf tag contents) = []
sequence_members (Sequence tag values) = members values
sequence_members (SetOf tag values) = []

-- the contents of the leaf at a path: the member at its first number, counted from 0, and on inside that member; no
-- octets where no leaf stands there
unfoldable pub leaf_at : List ℕ → List Value → List ℕ
leaf_at [] values = []
leaf_at (i ∷ path) [] = []
leaf_at (zero ∷ []) (value ∷ values) = leaf_contents value
leaf_at (zero ∷ j ∷ path) (value ∷ values) = leaf_at (j ∷ path) (sequence_members value)
leaf_at (suc i ∷ path) (value ∷ values) = leaf_at (i ∷ path) values
