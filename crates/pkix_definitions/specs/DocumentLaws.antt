-- What the law on the types of documents says.
use Rattle.x690.specs.Premises.{Lawful}
use Rattle.pkix_definitions.specs.DocumentTypes.{AlgorithmIdentifier, AsymmetricKeyPackage, Attribute, CertificationRequest, CertificationRequestInfo, ECPrivateKey, EncryptedPrivateKeyInfo, Extension, Name, NameItem, OneAsymmetricKey, OtherPrimeInfo, RSAPrivateKey, RequestAttribute, SubjectPublicKeyInfo}

pub record DocumentsAreLawful : Type 0 where
  pub key : Lawful OneAsymmetricKey
  pub ec : Lawful ECPrivateKey
  pub rsa : Lawful RSAPrivateKey
  pub other_prime_info : Lawful OtherPrimeInfo
  pub encrypted_key : Lawful EncryptedPrivateKeyInfo
  pub key_package : Lawful AsymmetricKeyPackage
  pub public_key_info : Lawful SubjectPublicKeyInfo
  pub request : Lawful CertificationRequest
  pub request_info : Lawful CertificationRequestInfo
  pub algorithm : Lawful AlgorithmIdentifier
  pub name_item : Lawful NameItem
  pub name : Lawful Name
  pub attribute : Lawful Attribute
  pub request_attribute : Lawful RequestAttribute
  pub extension : Lawful Extension
