-- Two documents that are equal in all that is public; of what is private each has as many octets as the other.
use Rattle.std.specs.Prelude.{length, map, take, ◌≡◌}
use Rattle.asn_elements.specs.Leaves.{octets_of}
use Rattle.asn_elements.specs.declared.octets.Octets.{Octets}
use Rattle.asn_fields.specs.declared.either.Either.TheVariants.{First, Second}
use Rattle.asn_lists.specs.Containers.{list_items}
use Rattle.pk_documents.specs.declared.document.Document.{Document}
use Rattle.pk_documents.specs.declared.document.Document.TheVariants as documents
use Rattle.pk_show.specs.Shown.{document_lines}
use Rattle.pkcs8.specs.AsymmetricKeys.{key_algorithm_of, key_attributes_of, key_version_of, private_key_of, public_key_of}
use Rattle.pkcs8.specs.EncryptedKeys.{EncryptedKey, encrypted_data_of, encryption_algorithm_of}
use Rattle.pkcs8.specs.KeyPackages.{keys_of}
use Rattle.pkcs8.specs.Seen.{AnyKey}
use Rattle.pkcs8.specs.declared.one_asymmetric_key.OneAsymmetricKey.{OneAsymmetricKey}
use Rattle.private_keys.specs.CurveKeys.{curve_key_of}
use Rattle.private_keys.specs.EcParts.{ec_curve_of, ec_key_of, ec_public_key_of}
use Rattle.private_keys.specs.RsaParts.{RsaPrivateKey, rsa_numbers_of, rsa_value_of, rsa_version_of}
use Rattle.private_keys.specs.declared.ec_private_key.EcPrivateKey.{EcPrivateKey}
use Rattle.x690.specs.Lists.{Each}
use Rattle.x690.specs.Values.{FirstMember, Leaf, NoMembers, Sequence, SetOf, Value, Values}

-- private octets
abbrev pub AreAsMany : Octets → Octets → Type 0
AreAsMany one other = length (octets_of one) ≡ length (octets_of other)

-- an ECPrivateKey: privateKey is private
abbrev pub EcFieldsAre : EcPrivateKey → EcPrivateKey → Type 0
EcFieldsAre one other =
    AreAsMany (ec_key_of one) (ec_key_of other) × (ec_curve_of one ≡ ec_curve_of other)
    × (ec_public_key_of one ≡ ec_public_key_of other)

abbrev mutual
  -- a value with an octet 0 in the place of each octet
  pub blank : Value → Value
  blank (Leaf tag contents) = Leaf tag (map (λ octet. 0) contents)
  blank (Sequence tag values) = Sequence tag (blanks values)
  blank (SetOf tag values) = SetOf tag (blanks values)

  pub blanks : Values → Values
  blanks NoMembers = NoMembers
  blanks (FirstMember value values) = FirstMember (blank value) (blanks values)

-- an RSAPrivateKey: all after modulus and publicExponent is private
abbrev pub RsaFieldsAre : RsaPrivateKey → RsaPrivateKey → Type 0
RsaFieldsAre one other =
    (rsa_version_of one.value.fields ≡ rsa_version_of other.value.fields)
    × (take 2 (rsa_numbers_of one.value.fields) ≡ take 2 (rsa_numbers_of other.value.fields))
    × (blank (rsa_value_of one) ≡ blank (rsa_value_of other))

-- privateKey: an ECPrivateKey, a CurvePrivateKey, an RSAPrivateKey, or carried octets
abbrev pub PrivateFieldsAre : AnyKey → AnyKey → Type 0
PrivateFieldsAre (First one) (First other) = EcFieldsAre one other
PrivateFieldsAre (Second (First one)) (Second (First other)) = AreAsMany (curve_key_of one) (curve_key_of other)
PrivateFieldsAre (Second (Second (First one))) (Second (Second (First other))) = RsaFieldsAre one other
PrivateFieldsAre (Second (Second (Second one))) (Second (Second (Second other))) = AreAsMany one other
PrivateFieldsAre one other = ⊥

-- a OneAsymmetricKey
abbrev pub KeyFieldsAre : OneAsymmetricKey → OneAsymmetricKey → Type 0
KeyFieldsAre one other =
    (key_version_of one ≡ key_version_of other) × (key_algorithm_of one ≡ key_algorithm_of other)
    × PrivateFieldsAre (private_key_of one) (private_key_of other)
    × (key_attributes_of one ≡ key_attributes_of other) × (public_key_of one ≡ public_key_of other)

-- an EncryptedPrivateKeyInfo
abbrev pub EncryptedFieldsAre : EncryptedKey → EncryptedKey → Type 0
EncryptedFieldsAre one other =
    (encryption_algorithm_of one.fields ≡ encryption_algorithm_of other.fields)
    × AreAsMany (encrypted_data_of one.fields) (encrypted_data_of other.fields)

-- Two documents of one kind; in requests and public keys nothing is private.
abbrev pub PublicFieldsAre : Document → Document → Type 0
PublicFieldsAre (documents.Key one) (documents.Key other) = KeyFieldsAre one other
PublicFieldsAre (documents.Ec one) (documents.Ec other) = EcFieldsAre one other
PublicFieldsAre (documents.Request one) (documents.Request other) = one ≡ other
PublicFieldsAre (documents.Public one) (documents.Public other) = one ≡ other
PublicFieldsAre (documents.Encrypted one) (documents.Encrypted other) = EncryptedFieldsAre one other
PublicFieldsAre (documents.Package one) (documents.Package other) =
    Each KeyFieldsAre (list_items (keys_of one)) (list_items (keys_of other))
PublicFieldsAre one other = ⊥

-- Private octets change nothing in the text of a document but the numbers of octets.
abbrev pub TellsNoPrivateOctets : Type 0
TellsNoPrivateOctets = (one other : Document) → PublicFieldsAre one other → document_lines one ≡ document_lines other
