-- The answer to a document of these types, with all that it stands on open to computation.
use Rattle.std.proofs.Common.{List, ℕ}
use Rattle.tlv_core.specs.Limits.{Limits}
use Rattle.x690.specs.Answers.{Answer, answer}
use Rattle.x690.specs.TypeTerms.{TypeTerm}
use Rattle.x690_laws.proofs.AnswersComputed as laws
use Rattle.pkix_definitions.specs.DocumentTypes.{AlgorithmIdentifier, AsymmetricKeyPackage, Attribute, CertificationRequest, CertificationRequestInfo, ECPrivateKey, EncryptedPrivateKeyInfo, Extension, Name, NameItem, OneAsymmetricKey, OtherPrimeInfo, RSAPrivateKey, RequestAttribute, SubjectPublicKeyInfo}

unfoldable pub computed : Limits → TypeTerm → List ℕ → Answer
unfolding laws.computed AlgorithmIdentifier Attribute CertificationRequest CertificationRequestInfo ECPrivateKey
    Extension Name NameItem OneAsymmetricKey RequestAttribute SubjectPublicKeyInfo AsymmetricKeyPackage
    EncryptedPrivateKeyInfo OtherPrimeInfo RSAPrivateKey
computed limits type octets = answer limits type octets
