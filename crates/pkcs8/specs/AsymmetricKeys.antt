-- What clauses see of a OneAsymmetricKey, by the names of its fields (RFC 5958 section 2).
use Rattle.std.specs.Prelude.{Option, ℕ}
use Rattle.std.specs.Option.{option_map}
use Rattle.asn_lists.specs.declared.set_of.SetOf.{SetOf}
use Rattle.asn_elements.specs.Implicits.{value_under}
use Rattle.asn_elements.specs.declared.bits.Bits.{Bits}
use Rattle.pkix_values.specs.VersionNumbers.{version_number}
use Rattle.pkix_values.specs.Attributes.{Attribute, attribute_text}
use Rattle.pkix_values.specs.declared.algorithm.AlgorithmIdentifier.{AlgorithmIdentifier}
use Rattle.pkcs8.specs.Seen.{AnyKey, bits_of, key_in}
use Rattle.pkcs8.specs.declared.one_asymmetric_key.OneAsymmetricKey.{OneAsymmetricKey}

-- version
abbrev pub key_version_of : OneAsymmetricKey → ℕ
key_version_of it = version_number it.0.value.fields.0.earlier.0.0.earlier.0.0.0

-- privateKeyAlgorithm
abbrev pub key_algorithm_of : OneAsymmetricKey → AlgorithmIdentifier
key_algorithm_of it = it.0.value.fields.0.earlier.0.0.earlier.0.1.0.value

-- privateKey, by what its octets contain
abbrev pub private_key_of : OneAsymmetricKey → AnyKey
private_key_of it = key_in it.0.value.fields.0.earlier.0.0.field

-- attributes, where they are there
abbrev pub key_attributes_of : OneAsymmetricKey → Option (SetOf Attribute attribute_text)
key_attributes_of it = option_map value_under it.0.value.fields.0.earlier.0.1.0

-- publicKey, where it is there
abbrev pub public_key_of : OneAsymmetricKey → Option Bits
public_key_of it = bits_of it.0.value.fields.0.field
