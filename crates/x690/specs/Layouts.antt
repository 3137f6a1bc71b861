-- Raw trees, and the octets that lay them out (X.690 8.1).
use Rattle.std.specs.Prelude.{Bool, List, [], false, length, max, true, ℕ, ◌&&◌, ◌++◌, ◌+◌, ◌==◌, ◌∷◌, ◌≡◌, ◌⊎◌}
use Rattle.tlv_core.specs.Identifier.{IsTag, Tag, identifier}
use Rattle.tlv_core.specs.Length.{SpellsLength}

mutual
  -- What an element is, its lengths apart: a tag, and octets or elements.
  pub data RawTree : Type 0 where
    Primitive : Tag → List ℕ → RawTree
    Constructed : Tag → RawTrees → RawTree

  pub data RawTrees : Type 0 where
    NoTrees : RawTrees
    FirstTree : RawTree → RawTrees → RawTrees

abbrev mutual
  -- how deep elements are nested in each other, 1 where none is
  pub tree_depth : RawTree → ℕ
  tree_depth (Primitive tag contents) = 1
  tree_depth (Constructed tag trees) = 1 + trees_depth trees

  pub trees_depth : RawTrees → ℕ
  trees_depth NoTrees = 0
  trees_depth (FirstTree tree trees) = max (tree_depth tree) (trees_depth trees)

-- The octets are an identifier, a definite length and so many contents octets (8.1.3.3).
pub record Definite (tag : Tag) (constructed : Bool) (contents octets : List ℕ) : Type 0 where
  pub length_octets : List ℕ
  pub spells : SpellsLength (length contents) length_octets
  pub is : octets ≡ identifier tag constructed ++ (length_octets ++ contents)

-- The octets are an identifier, the octet 80, contents octets and the two end-of-contents octets 00 (8.1.3.6, 8.1.5).
pub record Indefinite (tag : Tag) (contents octets : List ℕ) : Type 0 where
  pub is : octets ≡ identifier tag true ++ (128 ∷ (contents ++ (0 ∷ 0 ∷ [])))

unfoldable mutual
  -- The octets lay out the tree: a primitive element has the definite form, a constructed one either form (8.1.3.2).
  pub LaidOut : RawTree → List ℕ → Type 0
  LaidOut (Primitive tag contents) octets = IsTag tag × Definite tag false contents octets
  LaidOut (Constructed tag trees) octets =
      IsTag tag
      × ((contents : List ℕ) × AllLaidOut trees contents
      × (Definite tag true contents octets ⊎ Indefinite tag contents octets))

  -- The octets lay out the trees, one after another.
  pub AllLaidOut : RawTrees → List ℕ → Type 0
  AllLaidOut NoTrees octets = octets ≡ []
  AllLaidOut (FirstTree tree trees) octets =
      (first : List ℕ) × (others : List ℕ) × LaidOut tree first × AllLaidOut trees others × (octets ≡ first ++ others)

abbrev pub tree_tag : RawTree → Tag
tree_tag (Primitive tag contents) = tag
tree_tag (Constructed tag trees) = tag

abbrev pub member_trees : RawTrees → List RawTree
member_trees NoTrees = []
member_trees (FirstTree tree trees) = tree ∷ member_trees trees

abbrev pub universal : ℕ → Tag
universal number = record { class = 0; number = number }

abbrev pub context_specific : ℕ → Tag
context_specific number = record { class = 2; number = number }

abbrev pub same_tag : Tag → Tag → Bool
same_tag tag other = (tag.class == other.class) && (tag.number == other.number)
