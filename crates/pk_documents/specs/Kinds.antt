-- The type of the documents of each kind.
use Rattle.std.specs.Prelude.{List, ℕ, ◌≡◌}
use Rattle.tlv_core.specs.Limits.{Limits}
use Rattle.x690.specs.Answers.{Spelled, answer}
use Rattle.x690.specs.Premises.{Lawful}
use Rattle.x690.specs.TypeTerms.{TypeTerm}
use Rattle.pkix_definitions.specs.DocumentTypes.{AsymmetricKeyPackage, CertificationRequest, ECPrivateKey, EncryptedPrivateKeyInfo, OneAsymmetricKey, SubjectPublicKeyInfo}
use Rattle.pk_documents.specs.declared.kind.Kind.{Kind}
use Rattle.pk_documents.specs.declared.kind.Kind.TheVariants.{Ec, Encrypted, Key, Package, Public, Request}

abbrev pub type_of : Kind → TypeTerm
type_of Key = OneAsymmetricKey
type_of Ec = ECPrivateKey
type_of Request = CertificationRequest
type_of Public = SubjectPublicKeyInfo
type_of Encrypted = EncryptedPrivateKeyInfo
type_of Package = AsymmetricKeyPackage

-- They are as the laws ask of a type.
abbrev pub KindsAreLawful : Type 0
KindsAreLawful = (kind : Kind) → Lawful (type_of kind)

-- No octets are of two kinds: where documents of two kinds are spelled at their start, within whatever limits and
-- whatever follows, the kinds are one.
abbrev pub KindsAreApart : Type 0
KindsAreApart =
    (kind kind' : Kind) (limits limits' : Limits) (octets text text' : List ℕ) (taken taken' : ℕ)
    → answer limits (type_of kind) octets ≡ Spelled text taken
    → answer limits' (type_of kind') octets ≡ Spelled text' taken' → kind ≡ kind'
