-- The parts of an ECPrivateKey in octets in DER.
use Rattle.std.specs.Prelude.{List, [], get_or, ℕ, ◌++◌, ◌∷◌, ◌≡◌, ◌⊎◌, false, true}
use Rattle.x690.specs.DerTexts.{der_element}
use Rattle.x690.specs.Layouts.{context_specific, universal}
use Rattle.x690.specs.TypeTerms.{Fields, Optional, Required}
use Rattle.x690.specs.UniversalTypes.{bit_string, explicit, object_identifier, octet_string}
use Rattle.x690.specs.Values.{Value, leaf_at, sequence_members}
use Rattle.pkix_definitions.specs.DocumentTypes.{version}
use Rattle.pkix_definitions.specs.Paths.{second_field, version_1}
use Rattle.pkix_definitions.specs.Rules.{own_curve}

-- the fields of an ECPrivateKey, in front of others
abbrev pub ec_types : Fields → Fields
ec_types more =
    Required (version (version_1 ∷ []))
    (Required octet_string (Optional (explicit 0 object_identifier) (Optional (explicit 1 bit_string) more)))

-- The octets begin with parameters [0] that name the curve; where they begin with another tag it has no octets.
abbrev pub NamesCurve : List ℕ → List ℕ → Type 0
NamesCurve octets curve =
    ((contents : List ℕ) × (rest : List ℕ) × (more : List ℕ)
    × (octets ≡ der_element (context_specific 0) true contents ++ rest)
    × (contents ≡ der_element (universal 6) false curve ++ more))
    ⊎ ((curve ≡ []) × (get_or octets 0 0 ≡ 160 → ⊥))

-- An ECPrivateKey has this key and names this curve, no octets where it names none.
abbrev pub HasParts : Value → List ℕ → List ℕ → Type 0
HasParts value key curve = (leaf_at second_field (sequence_members value) ≡ key) × (own_curve value ≡ curve)
