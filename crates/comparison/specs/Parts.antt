-- What makes a private key, by its algorithm.
use Rattle.std.specs.Prelude.{List, None, Option, Some, [], slice_get, ℕ}
use Rattle.asn_elements.specs.Leaves.{octets_of}
use Rattle.asn_fields.specs.declared.either.Either.TheVariants.{First, Second}
use Rattle.pkix_definitions.specs.Identifiers.{ec_public_key}
use Rattle.pkix_values.specs.Algorithms.{algorithm_of, parameters_of}
use Rattle.private_keys.specs.CurveKeys.{curve_key_of}
use Rattle.private_keys.specs.EcParts.{ec_curve_of, ec_key_of}
use Rattle.private_keys.specs.RsaParts.{rsa_numbers_of}
use Rattle.private_keys.specs.declared.ec_private_key.EcPrivateKey.{EcPrivateKey}
use Rattle.private_keys.specs.RsaParts.{RsaPrivateKey}
use Rattle.pkcs8.specs.AsymmetricKeys.{key_algorithm_of, private_key_of}
use Rattle.pkcs8.specs.Keys.{curve_octets, identifier_of}
use Rattle.pkcs8.specs.Seen.{AnyKey}
use Rattle.pkcs8.specs.declared.one_asymmetric_key.OneAsymmetricKey.{OneAsymmetricKey}
use Rattle.pk_documents.specs.declared.document.Document.{Document}
use Rattle.pk_documents.specs.declared.document.Document.TheVariants as documents
use Rattle.comparison.specs.declared.parts.KeyParts.{KeyParts}
use Rattle.comparison.specs.declared.parts.KeyParts.TheVariants as seen

-- What makes a private key: of EC (RFC 5915) and RFC 8410 the algorithm, the curve and the private octets; of RSA (RFC
-- 8017 A.1.2) the modulus and publicExponent; of another algorithm, whose octets are carried, it isn't known.
pub data Parts : Type 0 where
  Scalar : List ℕ → List ℕ → List ℕ → Parts
  Rsa : List ℕ → List ℕ → Parts
  Carried : List ℕ → Parts

abbrev pub parts_seen : KeyParts → Parts
parts_seen (seen.Scalar algorithm curve key) = Scalar algorithm.now curve.now key.now
parts_seen (seen.Rsa modulus exponent) = Rsa modulus.now exponent.now
parts_seen (seen.Carried algorithm) = Carried algorithm.now

-- the contents octets of a number, where it is there
abbrev pub number_octets : Option (List ℕ) → List ℕ
number_octets None = []
number_octets (Some contents) = contents

-- modulus and publicExponent
abbrev pub rsa_parts : RsaPrivateKey → Parts
rsa_parts key =
    Rsa (number_octets (slice_get (rsa_numbers_of key.value.fields) 0))
    (number_octets (slice_get (rsa_numbers_of key.value.fields) 1))

-- by the algorithm, the curve that its parameters name, and what privateKey contains
abbrev pub parts_by : List ℕ → List ℕ → AnyKey → Parts
parts_by algorithm curve (First ec) = Scalar algorithm curve (octets_of (ec_key_of ec))
parts_by algorithm curve (Second (First key)) = Scalar algorithm [] (octets_of (curve_key_of key))
parts_by algorithm curve (Second (Second (First rsa))) = rsa_parts rsa
parts_by algorithm curve (Second (Second (Second octets))) = Carried algorithm

abbrev pub asymmetric_parts : OneAsymmetricKey → Parts
asymmetric_parts key =
    parts_by (algorithm_of (key_algorithm_of key))
    (curve_octets (identifier_of (parameters_of (key_algorithm_of key)))) (private_key_of key)

-- an ECPrivateKey by itself is one of id-ecPublicKey
abbrev pub ec_parts : EcPrivateKey → Parts
ec_parts key = Scalar ec_public_key (curve_octets (ec_curve_of key)) (octets_of (ec_key_of key))

-- what makes the private key that a document is
abbrev pub document_parts : Document → Option Parts
document_parts (documents.Key key) = Some (asymmetric_parts key)
document_parts (documents.Ec key) = Some (ec_parts key)
document_parts (documents.Request request) = None
document_parts (documents.Public key) = None
document_parts (documents.Encrypted key) = None
document_parts (documents.Package keys) = None
