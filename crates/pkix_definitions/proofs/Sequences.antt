-- The types that are SEQUENCEs, by their fields.
use Rattle.std.specs.Prelude.{refl, ◌≡◌}
use Rattle.x690.specs.UniversalTypes.{sequence}
use Rattle.pkix_definitions.specs.DocumentTypes.{Attribute, CertificationRequest, CertificationRequestInfo, EncryptedPrivateKeyInfo, Extension, NameItem, OtherPrimeInfo, RequestAttribute, SubjectPublicKeyInfo, attribute_fields, encrypted_key_fields, extension_fields, info_fields, name_item_fields, other_prime_fields, public_key_info_fields, request_attribute_fields, request_fields}

pub name_item_is : NameItem ≡ sequence name_item_fields
unfolding NameItem
name_item_is = refl

pub public_key_info_is : SubjectPublicKeyInfo ≡ sequence public_key_info_fields
unfolding SubjectPublicKeyInfo
public_key_info_is = refl

pub attribute_is : Attribute ≡ sequence attribute_fields
unfolding Attribute
attribute_is = refl

pub extension_is : Extension ≡ sequence extension_fields
unfolding Extension
extension_is = refl

pub request_attribute_is : RequestAttribute ≡ sequence request_attribute_fields
unfolding RequestAttribute
request_attribute_is = refl

pub other_prime_is : OtherPrimeInfo ≡ sequence other_prime_fields
unfolding OtherPrimeInfo
other_prime_is = refl

pub encrypted_key_is : EncryptedPrivateKeyInfo ≡ sequence encrypted_key_fields
unfolding EncryptedPrivateKeyInfo
encrypted_key_is = refl

pub info_is : CertificationRequestInfo ≡ sequence info_fields
unfolding CertificationRequestInfo
info_is = refl

pub request_is : CertificationRequest ≡ sequence request_fields
unfolding CertificationRequest
request_is = refl
