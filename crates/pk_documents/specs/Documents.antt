-- The kind and the value of a document.
use Rattle.x690.specs.Values.{Value}
use Rattle.pkcs8.specs.declared.key_package.KeyPackage.{KeyPackage}
use Rattle.pkcs8.specs.declared.one_asymmetric_key.OneAsymmetricKey.{OneAsymmetricKey}
use Rattle.private_keys.specs.declared.ec_private_key.EcPrivateKey.{EcPrivateKey}
use Rattle.pkcs8.specs.EncryptedKeys.{EncryptedKey}
use Rattle.pkcs10.specs.Requests.{CertificationRequest}
use Rattle.pkix_values.specs.PublicKeys.{SubjectPublicKeyInfo}
use Rattle.pk_documents.specs.declared.document.Document.{Document}
use Rattle.pk_documents.specs.declared.document.Document.TheVariants as documents
use Rattle.pk_documents.specs.declared.kind.Kind.{Kind}
use Rattle.pk_documents.specs.declared.kind.Kind.TheVariants as kinds

abbrev pub kind_of : Document → Kind
kind_of (documents.Key key) = kinds.Key
kind_of (documents.Ec key) = kinds.Ec
kind_of (documents.Request request) = kinds.Request
kind_of (documents.Public key) = kinds.Public
kind_of (documents.Encrypted key) = kinds.Encrypted
kind_of (documents.Package keys) = kinds.Package

-- by the values of what stands in it
abbrev pub value_by : (OneAsymmetricKey → Value) → (EcPrivateKey → Value) → (CertificationRequest → Value)
    → (SubjectPublicKeyInfo → Value) → (EncryptedKey → Value) → (KeyPackage → Value) → Document → Value
value_by key ec request public encrypted keys (documents.Key it) = key it
value_by key ec request public encrypted keys (documents.Ec it) = ec it
value_by key ec request public encrypted keys (documents.Request it) = request it
value_by key ec request public encrypted keys (documents.Public it) = public it
value_by key ec request public encrypted keys (documents.Encrypted it) = encrypted it
value_by key ec request public encrypted keys (documents.Package it) = keys it
