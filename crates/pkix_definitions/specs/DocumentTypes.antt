-- The types of private keys, alone, encrypted and in packages, of certification requests, and of their parts, each
-- in the order of its ASN.1.
use Rattle.std.specs.Prelude.{List, [], ℕ, ◌∷◌}
use Rattle.tlv_core.specs.declared.reason.Reason.TheVariants.{VersionRule}
use Rattle.x690.specs.Contents.{BitString, Boolean}
use Rattle.x690.specs.Layouts.{context_specific, universal}
use Rattle.x690.specs.TypeTerms.{ContainingType, Default, DefinedByType, EndOfFields, Fields, LeafType, OpenType, Optional, RefusedType, Required, RuledType, SequenceOfType, SetOfType, TypeTerm, no_rule}
use Rattle.x690.specs.UniversalTypes.{bit_string, explicit, integer, object_identifier, octet_string, sequence, sequence_of, set_of_some, ◌⨾◌}
use Rattle.pkix_definitions.specs.Identifiers.{ec_public_key, extension_request, rfc8410_algorithms, rsa_encryption}
use Rattle.pkix_definitions.specs.Paths.{algorithm_of_key, algorithm_of_public_key, first_field, version_0, version_1}
use Rattle.pkix_definitions.specs.Rules.{ec_parameters_rule, ec_rule, inner_curve_rule, inner_ec_rule, key_bits_rule, key_version_rule, parameters_rule, rsa_version_rule, version_rule}

-- an INTEGER that is one of these numbers, each below 128
abbrev pub version : List (List ℕ) → TypeTerm
version allowed = RuledType (version_rule allowed) integer

-- RFC 5280 section 4.1.1.2; without parameters under the algorithms of RFC 8410 (its section 3).
unfoldable pub AlgorithmIdentifier : TypeTerm
AlgorithmIdentifier =
    RuledType parameters_rule (sequence (Required object_identifier ⨾ Optional OpenType ⨾ EndOfFields))

-- AttributeTypeAndValue of RFC 5280 section 4.1.2.4.
abbrev pub name_item_fields : Fields
name_item_fields = Required object_identifier ⨾ Required OpenType ⨾ EndOfFields

unfoldable pub NameItem : TypeTerm
NameItem = sequence name_item_fields

-- RFC 5280 section 4.1.2.4.
unfoldable pub Name : TypeTerm
Name = sequence_of (set_of_some NameItem)

-- RFC 5280 section 4.1.2.7; under the algorithms of RFC 8410 the key has the length that goes with it.
abbrev pub public_key_info_fields : Fields
public_key_info_fields =
    Required AlgorithmIdentifier
    ⨾ Required (RuledType (key_bits_rule algorithm_of_public_key) bit_string)
    ⨾ EndOfFields

unfoldable pub SubjectPublicKeyInfo : TypeTerm
SubjectPublicKeyInfo = sequence public_key_info_fields

-- RFC 2986 section 4.1; at least one value (in keys: profile).
abbrev pub attribute_fields : Fields
attribute_fields = Required object_identifier ⨾ Required (set_of_some OpenType) ⨾ EndOfFields

unfoldable pub Attribute : TypeTerm
Attribute = sequence attribute_fields

-- RFC 5280 section 4.1: `critical` is FALSE by default.
abbrev pub extension_fields : Fields
extension_fields =
    Required object_identifier
    ⨾ Default (universal 1) (0 ∷ []) (LeafType (universal 1) Boolean)
    ⨾ Required octet_string
    ⨾ EndOfFields

unfoldable pub Extension : TypeTerm
Extension = sequence extension_fields

-- An attribute of a request: extensionRequest has lists of extensions (RFC 2985 section 5.4.2, which has one list of at
-- least one; several of them and empty ones: profile), any other one open values.
abbrev pub request_attribute_fields : Fields
request_attribute_fields =
    Required object_identifier
    ⨾ Required (DefinedByType first_field (extension_request ∷ []) (set_of_some (sequence_of Extension)) (set_of_some OpenType))
    ⨾ EndOfFields

unfoldable pub RequestAttribute : TypeTerm
RequestAttribute = sequence request_attribute_fields

-- RFC 5915 section 3. The parameters may be absent (profile), and are a named curve.
unfoldable pub ECPrivateKey : TypeTerm
ECPrivateKey =
    RuledType ec_rule
    (sequence (Required (version (version_1 ∷ []))
    ⨾ Required octet_string
    ⨾ Optional (explicit 0 object_identifier)
    ⨾ Optional (explicit 1 bit_string)
    ⨾ EndOfFields))

-- RFC 8017 A.1.2: prime, exponent, coefficient.
abbrev pub other_prime_fields : Fields
other_prime_fields = Required integer ⨾ Required integer ⨾ Required integer ⨾ EndOfFields

unfoldable pub OtherPrimeInfo : TypeTerm
OtherPrimeInfo = sequence other_prime_fields

-- otherPrimeInfos of an RSAPrivateKey: at least one, and none under version 0 (RFC 8017 A.1.2).
abbrev pub other_prime_infos : TypeTerm
other_prime_infos =
    DefinedByType first_field (version_0 ∷ []) (RefusedType (universal 16) VersionRule)
    (SequenceOfType (universal 16) 1 OtherPrimeInfo)

-- RFC 8017 A.1.2: version, modulus, both exponents, both primes, both exponents of these, coefficient, otherPrimeInfos.
unfoldable pub RSAPrivateKey : TypeTerm
RSAPrivateKey =
    RuledType rsa_version_rule
    (sequence (Required (version (version_0 ∷ version_1 ∷ []))
    ⨾ Required integer ⨾ Required integer ⨾ Required integer ⨾ Required integer
    ⨾ Required integer ⨾ Required integer ⨾ Required integer ⨾ Required integer
    ⨾ Optional other_prime_infos
    ⨾ EndOfFields))

-- privateKey of a OneAsymmetricKey: what its octets contain goes by the algorithm, which stands second in the container
-- (RFC 5915 section 3, RFC 8410 section 7, RFC 8017 A.1). Under all other algorithms the octets are carried.
abbrev pub private_key : TypeTerm
private_key =
    DefinedByType algorithm_of_key (ec_public_key ∷ []) (ContainingType (universal 4) inner_ec_rule ECPrivateKey)
    (DefinedByType algorithm_of_key rfc8410_algorithms (ContainingType (universal 4) inner_curve_rule octet_string)
    (DefinedByType algorithm_of_key (rsa_encryption ∷ [])
    (ContainingType (universal 4) no_rule RSAPrivateKey) octet_string))

-- publicKey of a OneAsymmetricKey: [1] may not stand in one of version 0 (RFC 5958 section 2).
abbrev pub public_key : TypeTerm
public_key =
    DefinedByType first_field (version_0 ∷ []) (RefusedType (context_specific 1) VersionRule)
    (RuledType (key_bits_rule algorithm_of_key) (LeafType (context_specific 1) BitString))

-- RFC 5958 section 2, closed (profile).
unfoldable pub OneAsymmetricKey : TypeTerm
OneAsymmetricKey =
    RuledType key_version_rule
    (sequence (Required (version (version_0 ∷ version_1 ∷ []))
    ⨾ Required (RuledType ec_parameters_rule AlgorithmIdentifier)
    ⨾ Required private_key
    ⨾ Optional (SetOfType (context_specific 0) 0 Attribute)
    ⨾ Optional public_key
    ⨾ EndOfFields))

-- RFC 5958 section 2: at least one key.
unfoldable pub AsymmetricKeyPackage : TypeTerm
AsymmetricKeyPackage = SequenceOfType (universal 16) 1 OneAsymmetricKey

-- RFC 5958 section 3; the octets are carried.
abbrev pub encrypted_key_fields : Fields
encrypted_key_fields = Required AlgorithmIdentifier ⨾ Required octet_string ⨾ EndOfFields

unfoldable pub EncryptedPrivateKeyInfo : TypeTerm
EncryptedPrivateKeyInfo = sequence encrypted_key_fields

-- RFC 2986 section 4.1. The attributes may be absent (profile).
abbrev pub info_fields : Fields
info_fields =
    Required (version (version_0 ∷ []))
    ⨾ Required Name
    ⨾ Required SubjectPublicKeyInfo
    ⨾ Optional (SetOfType (context_specific 0) 0 RequestAttribute)
    ⨾ EndOfFields

unfoldable pub CertificationRequestInfo : TypeTerm
CertificationRequestInfo = sequence info_fields

-- RFC 2986 section 4.2.
abbrev pub request_fields : Fields
request_fields = Required CertificationRequestInfo ⨾ Required AlgorithmIdentifier ⨾ Required bit_string ⨾ EndOfFields

unfoldable pub CertificationRequest : TypeTerm
CertificationRequest = sequence request_fields
