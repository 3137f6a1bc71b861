-- Octets at hand that are in DER as they stand.
use Rattle.std.specs.Prelude.{List, None, [], ℕ, ◌++◌, ◌+◌, ◌≡◌, ◌≤◌}
use Rattle.tlv_core.specs.Identifier.{Tag}
use Rattle.x690.specs.DerTexts.{der}
use Rattle.x690.specs.Fitting.{Fits}
use Rattle.x690.specs.Layouts.{LaidOut, RawTree, tree_depth}
use Rattle.x690.specs.TypeTerms.{ContainingType, Rule, TypeTerm}
use Rattle.x690.specs.Values.{Leaf, Value}

-- The octets begin with the DER text of the value, which is of the type after these earlier fields of its container;
-- `rest` stands after it. No more than `left` containers are nested in each other there; `limit` is the limit of
-- nesting for what an OCTET STRING contains.
pub record StandsInDer (limit left : ℕ) (type : TypeTerm) (earlier : List Value) (value : Value)
    (octets rest : List ℕ) : Type 0 where
  pub is : octets ≡ der value ++ rest
  pub tree : RawTree
  pub laid_out : LaidOut tree (der value)
  pub depth_fits : tree_depth tree ≤ left + 1
  pub fits : Fits limit type earlier tree value

-- The text lays out the tree, in which no more than `left` containers are nested in each other.
abbrev pub LaidOutWithin : ℕ → RawTree → List ℕ → Type 0
LaidOutWithin left tree text = LaidOut tree text × (tree_depth tree ≤ left + 1)

-- They begin with the DER text of some value of the type, whatever the earlier fields are.
abbrev pub BeginsInDer : ℕ → ℕ → TypeTerm → List ℕ → List ℕ → Type 0
BeginsInDer limit left type octets rest =
    (value : Value) × ((earlier : List Value) → StandsInDer limit left type earlier value octets rest)

-- They begin with the DER text of the value, of the type after these earlier fields, however deep it is.
abbrev pub BeginsWithText : ℕ → TypeTerm → List Value → Value → List ℕ → List ℕ → Type 0
BeginsWithText limit type earlier value octets rest =
    (tree : RawTree) × (octets ≡ der value ++ rest) × Fits limit type earlier tree value

-- They begin with an OCTET STRING in DER whose contents are one element in DER of the type and nothing else, whatever
-- rule lets it pass.
pub record ContainsInDer (limit : ℕ) (own : Tag) (type : TypeTerm) (octets contents rest : List ℕ) : Type 0 where
  pub contained : Value
  pub inner : ℕ
  pub stands : (earlier : List Value) → StandsInDer limit inner type earlier contained contents []
  pub string : (rule : Rule) (left : ℕ) (earlier : List Value) → rule earlier contained ≡ None
      → StandsInDer limit left (ContainingType own rule type) earlier (Leaf own (der contained)) octets rest
