-- The rules over the types of documents: each says why a value is refused, by the earlier fields of
-- its container and itself.
use Rattle.std.specs.Prelude.{Bool, List, None, Option, Some, [], false, length, not, suc, true, zero, ℕ, ◌&&◌, ◌-◌, ◌==◌, ◌||◌, ◌∷◌}
use Rattle.tlv_core.specs.Identifier.{Tag}
use Rattle.tlv_core.specs.declared.reason.Reason.TheVariants.{Curve, KeyLength, Parameters, Version, VersionRule}
use Rattle.tlv_core.specs.declared.reason.Reason.{Reason}
use Rattle.x690.specs.Layouts.{context_specific, same_tag, universal}
use Rattle.x690.specs.Lists.{one_of, same_octets}
use Rattle.x690.specs.TypeTerms.{Rule}
use Rattle.x690.specs.Values.{Leaf, Sequence, SetOf, Value, leaf_at, leaf_contents, sequence_members, value_tag}
use Rattle.pkix_definitions.specs.Identifiers.{curve_lengths, ec_public_key, entry_under, rfc8410_algorithms, rfc8410_lengths}
use Rattle.pkix_definitions.specs.Paths.{algorithm_of_key, curve_of_key, first_field, second_field, under_tag, version_0}

-- a length that a table gives, if it gives one
abbrev pub has_length : Option ℕ → ℕ → Bool
has_length None number = true
has_length (Some due) number = due == number

abbrev pub else_refused : Bool → Reason → Option Reason
else_refused test why = elim test [ true ↦ None | false ↦ Some why ]

-- the contents of the leaf at the path are one of these
abbrev pub leaf_is_one_of : List ℕ → List (List ℕ) → List Value → Bool
leaf_is_one_of path octets values = one_of (leaf_at path values) octets

-- the values with the tag
abbrev pub with_tag : Tag → List Value → List Value
with_tag tag [] = []
with_tag tag (value ∷ values) =
    elim (same_tag tag (value_tag value)) [ true ↦ value ∷ with_tag tag values | false ↦ with_tag tag values ]

-- whether it is an OBJECT IDENTIFIER
abbrev pub is_identifier : Value → Bool
is_identifier (Leaf tag contents) = same_tag (universal 6) tag
is_identifier (Sequence tag values) = false
is_identifier (SetOf tag values) = false

-- whether the value at a place, counted from 0, is there and is an OBJECT IDENTIFIER
abbrev pub nth_is_identifier : ℕ → List Value → Bool
nth_is_identifier number [] = false
nth_is_identifier zero (value ∷ values) = is_identifier value
nth_is_identifier (suc number) (value ∷ values) = nth_is_identifier number values

-- A version is one of those that its type has.
abbrev pub version_rule : List (List ℕ) → Rule
version_rule allowed earlier value = else_refused (one_of (leaf_contents value) allowed) Version

-- An AlgorithmIdentifier with an algorithm of RFC 8410 has no parameters.
abbrev pub parameters_rule : Rule
parameters_rule earlier value =
    else_refused (not (leaf_is_one_of first_field rfc8410_algorithms (sequence_members value))
    || (length (sequence_members value) == 1)) Parameters

-- In a OneAsymmetricKey, id-ecPublicKey has parameters, and they are an OBJECT IDENTIFIER: the curve (profile).
abbrev pub ec_parameters_rule : Rule
ec_parameters_rule earlier value =
    else_refused (not (leaf_is_one_of first_field (ec_public_key ∷ []) (sequence_members value))
    || nth_is_identifier 1 (sequence_members value)) Parameters

-- the contents of a BIT STRING, without unused bits
abbrev pub no_unused : List ℕ → Bool
no_unused [] = false
no_unused (unused ∷ octets) = unused == 0

-- Under an algorithm of RFC 8410, which stands at the path, a public key has the table's length and no unused bits.
abbrev pub key_bits_rule : List ℕ → Rule
key_bits_rule path earlier value =
    else_refused (not (leaf_is_one_of path rfc8410_algorithms earlier)
    || (has_length (entry_under rfc8410_lengths (leaf_at path earlier)) (length (leaf_contents value) - 1)
    && no_unused (leaf_contents value))) KeyLength

-- Under an algorithm of RFC 8410, a private key has the table's length.
abbrev pub inner_curve_rule : Rule
inner_curve_rule earlier value =
    else_refused
    (has_length (entry_under rfc8410_lengths (leaf_at algorithm_of_key earlier)) (length (leaf_contents value)))
    KeyLength

-- the curve that an ECPrivateKey names, no octets where it names none
abbrev pub own_curve : Value → List ℕ
own_curve value = leaf_at under_tag (with_tag (context_specific 0) (sequence_members value))

-- On a curve of the table the private key has its length.
abbrev pub ec_length : List ℕ → Value → Bool
ec_length curve value =
    has_length (entry_under curve_lengths curve) (length (leaf_at second_field (sequence_members value)))

-- An ECPrivateKey has the length of the curve that it names.
abbrev pub ec_rule : Rule
ec_rule earlier value = else_refused (ec_length (own_curve value) value) KeyLength

-- the curve that a container names: under id-ecPublicKey its parameters, no octets under another algorithm
abbrev pub container_curve : List Value → List ℕ
container_curve earlier = elim (leaf_is_one_of algorithm_of_key (ec_public_key ∷ []) earlier) [
  | true ↦ leaf_at curve_of_key earlier
  | false ↦ []
]

-- An ECPrivateKey in a container names the container's curve (profile), or none, and then has the
-- length of the container's.
abbrev pub inner_ec_rule : Rule
inner_ec_rule earlier value =
    elim (length (own_curve value) == 0) [
      | false ↦ else_refused (same_octets (own_curve value) (container_curve earlier)) Curve
      | true ↦ else_refused (ec_length (container_curve earlier) value) KeyLength
    ]

-- A OneAsymmetricKey of version 1 has a public key.
abbrev pub key_version_rule : Rule
key_version_rule earlier value =
    else_refused (leaf_is_one_of first_field (version_0 ∷ []) (sequence_members value)
    || not (length (with_tag (context_specific 1) (sequence_members value)) == 0)) VersionRule

-- An RSAPrivateKey of version 1 has otherPrimeInfos, the tenth of its fields.
abbrev pub rsa_version_rule : Rule
rsa_version_rule earlier value =
    else_refused
    (leaf_is_one_of first_field (version_0 ∷ []) (sequence_members value) || length (sequence_members value) == 10)
    VersionRule
