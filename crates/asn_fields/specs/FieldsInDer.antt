-- Fields of a container in DER, in octets at hand.
use Rattle.std.specs.Prelude.{Bool, List, [], map, ℕ, ◌++◌, ◌∷◌, ◌≡◌}
use Rattle.tlv_core.specs.Identifier.{identifier}
use Rattle.x690.specs.DerTexts.{der, texts_of}
use Rattle.x690.specs.Fitting.{FitsFields}
use Rattle.x690.specs.Layouts.{RawTree, tree_tag}
use Rattle.x690.specs.Lists.{Each}
use Rattle.x690.specs.TypeTerms.{EndOfFields, Fields}
use Rattle.x690.specs.Values.{Value}
use Rattle.asn_elements.specs.InDer.{LaidOutWithin}

-- The trees may stand where these octets are: the octets begin with the identifier of the first one, if there is any.
abbrev pub MayStand : List RawTree → List ℕ → Type 0
MayStand [] octets = Unit {0}
MayStand (tree ∷ trees) octets =
    (constructed : Bool) × (behind : List ℕ) × (octets ≡ identifier (tree_tag tree) constructed ++ behind)

-- The octets begin with the DER texts of these values, and `rest` stands after them. No more than `left` containers are
-- nested in each other there; `limit` is the limit of nesting for what an OCTET STRING contains.
pub record FieldsStand (limit left : ℕ) (types : Fields → Fields) (earlier values : List Value)
    (octets rest : List ℕ) : Type 0 where
  pub is : octets ≡ texts_of values ++ rest
  pub trees : List RawTree
  pub laid_out : Each (LaidOutWithin left) trees (map der values)
  -- after the earlier fields, and whatever fields stand in `rest`, they are of these types
  pub fit : (more : Fields) (trees' : List RawTree) (values' : List Value) → MayStand trees' rest
      → FitsFields limit more (earlier ++ values) trees' values'
      → FitsFields limit (types more) earlier (trees ++ trees') (values ++ values')

-- The octets begin with the DER texts of fields of these types, whatever the earlier fields are,
abbrev pub FieldsBegin : ℕ → ℕ → (Fields → Fields) → List ℕ → List ℕ → Type 0
FieldsBegin limit left types octets rest =
    (values : List Value) × ((earlier : List Value) → FieldsStand limit left types earlier values octets rest)

-- or where they are the first ones of their container.
abbrev pub FirstFieldsBegin : ℕ → ℕ → (Fields → Fields) → List ℕ → List ℕ → Type 0
FirstFieldsBegin limit left types octets rest =
    (values : List Value) × FieldsStand limit left types [] values octets rest

-- The octets begin with the DER texts of these values, which are all fields of a container of these types; `behind`
-- stands after them.
abbrev pub AreFields : ℕ → (Fields → Fields) → List Value → List ℕ → List ℕ → Type 0
AreFields limit types values octets behind =
    (trees : List RawTree)
    × (octets ≡ texts_of values ++ behind)
    × FitsFields limit (types EndOfFields) [] trees values
