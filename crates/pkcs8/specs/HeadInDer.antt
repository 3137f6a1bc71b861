-- version and privateKeyAlgorithm of a OneAsymmetricKey, in octets in DER.
use Rattle.std.specs.Prelude.{List, [], ℕ, ◌++◌, ◌∷◌, ◌≡◌, false}
use Rattle.x690.specs.DerTexts.{der_element}
use Rattle.x690.specs.Layouts.{context_specific, universal}
use Rattle.x690.specs.TypeTerms.{EndOfFields, Fields, Optional, Required, RuledType, SetOfType}
use Rattle.x690.specs.Values.{Value, leaf_at}
use Rattle.pkix_definitions.specs.DocumentTypes.{AlgorithmIdentifier, Attribute, private_key, version}
use Rattle.pkix_definitions.specs.Paths.{algorithm_of_key, curve_of_key, first_field, version_0, version_1}
use Rattle.pkix_definitions.specs.Rules.{ec_parameters_rule}

-- the fields of a key: these two, and others after them
abbrev pub key_types : Fields → Fields
key_types more =
    Required (version (version_0 ∷ version_1 ∷ [])) (Required (RuledType ec_parameters_rule AlgorithmIdentifier) more)

-- A key with these fields has this version and algorithm; an OBJECT IDENTIFIER that its parameters begin with are these.
abbrev pub HasHead : List Value → List ℕ → List ℕ → List ℕ → Type 0
HasHead fields version algorithm parameters =
    (leaf_at first_field fields ≡ version)
    × (leaf_at algorithm_of_key fields ≡ algorithm)
    × ((identifier rest : List ℕ) → parameters ≡ der_element (universal 6) false identifier ++ rest
    → leaf_at curve_of_key fields ≡ identifier)

-- the fields of a key after these two, but for publicKey
abbrev pub behind_head : Fields
behind_head = Required private_key (Optional (SetOfType (context_specific 0) 0 Attribute) EndOfFields)
