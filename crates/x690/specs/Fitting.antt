-- The trees of a type, the values that they say, and the octets that spell a value.
use Rattle.std.specs.Prelude.{Bool, List, None, [], false, length, true, ℕ, ◌++◌, ◌∷◌, ◌≡◌, ◌≤◌, ◌⊎◌}
use Rattle.tlv_core.specs.Limits.{Limits}
use Rattle.x690.specs.Contents.{LeafContents, OctetString}
use Rattle.x690.specs.DerTexts.{der}
use Rattle.x690.specs.Layouts.{Constructed, LaidOut, RawTree, RawTrees, member_trees, tree_depth, tree_tag}
use Rattle.x690.specs.Lists.{Each, Paired, one_of}
use Rattle.x690.specs.OpenValues.{FitsOpen}
use Rattle.x690.specs.TypeTerms.{ChoiceType, Chosen, ContainingType, Default, DefinedByType, Fields, LeafType, EndOfFields, OpenType, Optional, RefusedType, Required, RuledType, SequenceOfType, SequenceType, SetOfType, TypeTerm, fits_tag}
use Rattle.x690.specs.Values.{Leaf, Same, Sequence, SetOf, Value, Values, leaf_at, members}

-- a tree is left, and begins as a value of the type may
abbrev pub next_fits : TypeTerm → List RawTree → Bool
next_fits type [] = false
next_fits type (tree ∷ trees) = fits_tag type (tree_tag tree)

unfoldable mutual
  -- The tree is of the type and says the value. `depth` is the limit of nesting for what an OCTET STRING contains,
  -- `earlier` the earlier fields of the tree's container.
  pub Fits : ℕ → TypeTerm → List Value → RawTree → Value → Type 0
  Fits depth (LeafType tag kind) earlier tree value =
      (tree_tag tree ≡ tag) × (octets : List ℕ) × LeafContents kind tree octets × (value ≡ Leaf tag octets)
  Fits depth OpenType earlier tree value = FitsOpen tree value
  Fits depth (SequenceOfType tag least type) earlier tree value =
      (trees : RawTrees) × (values : Values) × (tree ≡ Constructed tag trees) × (value ≡ Sequence tag values)
      × (least ≤ length (members values)) × Each (Fits depth type []) (member_trees trees) (members values)
  Fits depth (SetOfType tag least type) earlier tree value =
      (trees : RawTrees) × (values : Values) × (tree ≡ Constructed tag trees) × (value ≡ SetOf tag values)
      × (least ≤ length (members values)) × Paired (Fits depth type []) (member_trees trees) (members values)
  Fits depth (SequenceType tag fields) earlier tree value =
      (trees : RawTrees)
      × (values : Values)
      × (tree ≡ Constructed tag trees)
      × (value ≡ Sequence tag values)
      × FitsFields depth fields [] (member_trees trees) (members values)
  -- the octets are those of DER, however the element in them was laid out
  Fits depth (ContainingType tag rule type) earlier tree value =
      (tree_tag tree ≡ tag) × (octets : List ℕ) × LeafContents OctetString tree octets
      × (inner : RawTree)
      × (contained : Value)
      × (tree_depth inner ≤ depth)
      × LaidOut inner octets
      × Fits depth type earlier inner contained
      × (value ≡ Leaf tag (der contained)) × (rule earlier contained ≡ None)
  Fits depth (RuledType rule type) earlier tree value = (rule earlier value ≡ None) × Fits depth type earlier tree value
  Fits depth (RefusedType tag why) earlier tree value = ⊥
  Fits depth (DefinedByType path octets first second) earlier tree value =
      Chosen (one_of (leaf_at path earlier) octets) (Fits depth first earlier tree value)
      (Fits depth second earlier tree value)
  Fits depth (ChoiceType first second) earlier tree value =
      Chosen (fits_tag first (tree_tag tree)) (Fits depth first earlier tree value)
      (Fits depth second earlier tree value)

  -- The trees are those of the fields, in order, and say the values of those that are there.
  pub FitsFields : ℕ → Fields → List Value → List RawTree → List Value → Type 0
  FitsFields depth EndOfFields earlier trees values = (trees ≡ []) × (values ≡ [])
  FitsFields depth (Required type fields) earlier trees values =
      (tree : RawTree)
      × (trees' : List RawTree)
      × (value : Value)
      × (values' : List Value)
      × (trees ≡ tree ∷ trees')
      × (values ≡ value ∷ values')
      × Fits depth type earlier tree value × FitsFields depth fields (earlier ++ (value ∷ [])) trees' values'
  -- an optional field is there exactly where the next tree begins as it may
  FitsFields depth (Optional type fields) earlier trees values =
      ((next_fits type trees ≡ false) × FitsFields depth fields earlier trees values)
      ⊎ ((tree : RawTree) × (trees' : List RawTree) × (value : Value) × (values' : List Value) × (trees ≡ tree ∷ trees')
      × (values ≡ value ∷ values')
      × (next_fits type trees ≡ true)
      × Fits depth type earlier tree value
      × FitsFields depth fields (earlier ++ (value ∷ [])) trees' values')
  -- so is one with a default, and a value that is the default is left out (11.5)
  FitsFields depth (Default tag octets type fields) earlier trees values =
      ((next_fits type trees ≡ false) × FitsFields depth fields earlier trees values)
      ⊎ ((tree : RawTree) × (trees' : List RawTree) × (value : Value) × (trees ≡ tree ∷ trees')
      × (next_fits type trees ≡ true) × Fits depth type earlier tree value
      × (((Same value (Leaf tag octets)) × FitsFields depth fields earlier trees' values)
      ⊎ ((values' : List Value) × (values ≡ value ∷ values') × (Same value (Leaf tag octets) → ⊥)
      × FitsFields depth fields (earlier ++ (value ∷ [])) trees' values')))

-- The octets spell the value, as a document of the type within the limits.
pub record Spells (limits : Limits) (type : TypeTerm) (value : Value) (octets : List ℕ) : Type 0 where
  pub tree : RawTree
  pub depth_fits : tree_depth tree ≤ limits.depth
  pub laid_out : LaidOut tree octets
  pub fits : Fits limits.depth type [] tree value
  pub octets_fit : length octets ≤ limits.octets
  pub text_fits : length (der value) ≤ limits.octets
