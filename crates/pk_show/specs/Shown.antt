-- The lines of keys and requests, and of what is in them.
use Rattle.std.specs.Prelude.{List, None, Option, Some, codes, cond, decimal, flat_map, length, ℕ, ◌++◌}
use Rattle.std.specs.Option.{option_map}
use Rattle.tlv_core.specs.Texts.{oid_text}
use Rattle.asn_lists.specs.Containers.{list_items, set_items}
use Rattle.asn_fields.specs.declared.either.Either.{Either}
use Rattle.asn_fields.specs.declared.either.Either.TheVariants.{First, Second}
use Rattle.asn_elements.specs.Leaves.{octets_of}
use Rattle.asn_open_values.specs.declared.any.Any.{Any}
use Rattle.pkix_values.specs.Algorithms.{algorithm_of, parameters_of}
use Rattle.pkix_values.specs.Attributes.{attribute_type_of, attribute_values_of}
use Rattle.pkix_values.specs.Extensions.{extension_id_of, extension_value_of, is_critical}
use Rattle.pkix_values.specs.Names.{item_type_of, item_value_of}
use Rattle.pkix_values.specs.PublicKeys.{public_key_algorithm_of, subject_public_key_of}
use Rattle.pkix_values.specs.RequestAttributes.{request_attribute_type_of, request_attribute_values_of}
use Rattle.pkix_values.specs.declared.algorithm.AlgorithmIdentifier.{AlgorithmIdentifier}
use Rattle.pkix_values.specs.Attributes.{Attribute}
use Rattle.pkix_values.specs.Extensions.{Extension}
use Rattle.pkix_values.specs.declared.name.Name.{Name}
use Rattle.pkix_values.specs.Names.{NameItem}
use Rattle.pkix_values.specs.PublicKeys.{SubjectPublicKeyInfo}
use Rattle.pkix_values.specs.RequestAttributes.{RequestAttribute}
use Rattle.private_keys.specs.CurveKeys.{curve_key_of}
use Rattle.private_keys.specs.EcParts.{ec_curve_of, ec_key_of, ec_public_key_of}
use Rattle.pkcs8.specs.EncryptedKeys.{encrypted_data_of, encryption_algorithm_of}
use Rattle.private_keys.specs.declared.ec_private_key.EcPrivateKey.{EcPrivateKey}
use Rattle.pkcs8.specs.EncryptedKeys.{EncryptedKey}
use Rattle.pkcs8.specs.AsymmetricKeys.{key_algorithm_of, key_attributes_of, key_version_of, private_key_of, public_key_of}
use Rattle.pkcs8.specs.KeyPackages.{keys_of}
use Rattle.pkcs8.specs.Seen.{AnyKey}
use Rattle.pkcs8.specs.declared.key_package.KeyPackage.{KeyPackage}
use Rattle.pkcs8.specs.declared.one_asymmetric_key.OneAsymmetricKey.{OneAsymmetricKey}
use Rattle.pkcs10.specs.Infos.{request_attributes_of, subject_key_of, subject_of}
use Rattle.pkcs10.specs.Requests.{request_info_of, signature_algorithm_of, signature_of}
use Rattle.pkcs10.specs.Infos.{CertificationRequestInfo}
use Rattle.pkcs10.specs.Requests.{CertificationRequest}
use Rattle.pk_documents.specs.Documents.{kind_of}
use Rattle.pk_documents.specs.KindRows.{word_of}
use Rattle.pk_documents.specs.declared.document.Document.{Document}
use Rattle.pk_documents.specs.declared.document.Document.TheVariants as documents
use Rattle.pk_show.specs.Lines.{any_text, bits_said, line, octets_line, optional, parameters_text}
use Rattle.pk_show.specs.Parts.{name_items, rsa_key_text, values_in}
use Rattle.pk_show.specs.Texts.{hex_text}

-- An AlgorithmIdentifier, by these labels.
unfoldable pub algorithm_lines : List ℕ → List ℕ → AlgorithmIdentifier → List ℕ
algorithm_lines label parameters_label it =
    line label (oid_text (algorithm_of it)) ++ line parameters_label (parameters_text (parameters_of it))

-- one value of an attribute
unfoldable pub value_line : Any → List ℕ
value_line value = line (codes "  value ") (any_text value)

-- the type of an attribute, and the number of its values
unfoldable pub attribute_line : List ℕ → ℕ → List ℕ
attribute_line id count = codes "attribute " ++ oid_text id ++ line (codes ": ") (decimal count)

-- An Attribute, its values in the order of their texts.
unfoldable pub attribute_lines : Attribute → List ℕ
attribute_lines it =
    attribute_line (attribute_type_of it.fields) (length (set_items (attribute_values_of it.fields)))
    ++ flat_map value_line (set_items (attribute_values_of it.fields))

-- An Extension.
unfoldable pub extension_line : Extension → List ℕ
extension_line it =
    codes "    " ++ oid_text (extension_id_of it.fields)
    ++ line (cond (is_critical it.fields) (codes ", critical: ") (codes ": ")) (hex_text (octets_of (extension_value_of it.fields)))

-- one value of extensionRequest
unfoldable pub extensions_lines : List Extension → List ℕ
extensions_lines extensions =
    line (codes "  extensions: ") (decimal (length extensions)) ++ flat_map extension_line extensions

-- an attribute of this type by its values
unfoldable pub values_lines : List ℕ → Either (List (List Extension)) (List Any) → List ℕ
values_lines id (First lists) = attribute_line id (length lists) ++ flat_map extensions_lines lists
values_lines id (Second values) = attribute_line id (length values) ++ flat_map value_line values

-- An attribute of a request.
unfoldable pub request_attribute_lines : RequestAttribute → List ℕ
request_attribute_lines it = values_lines (request_attribute_type_of it.fields) (values_in (request_attribute_values_of it.fields))

-- attributes in the order of their texts, each by its lines
unfoldable pub attributes_lines : {A : Type 0} → (A → List ℕ) → Option (List A) → List ℕ
attributes_lines lines None = line (codes "attributes: ") (codes "absent")
attributes_lines lines (Some attributes) =
    line (codes "attributes: ") (decimal (length attributes)) ++ flat_map lines attributes

-- An AttributeTypeAndValue.
unfoldable pub item_line : NameItem → List ℕ
item_line it = codes "    " ++ oid_text (item_type_of it.fields) ++ line (codes ": ") (any_text (item_value_of it.fields))

unfoldable pub rdn_lines : List NameItem → List ℕ
rdn_lines items = line (codes "  rdn: ") (decimal (length items)) ++ flat_map item_line items

-- A Name.
unfoldable pub subject_lines : Name → List ℕ
subject_lines it = line (codes "subject: ") (decimal (length (name_items it))) ++ flat_map rdn_lines (name_items it)

-- A SubjectPublicKeyInfo, its algorithm by these labels.
unfoldable pub public_key_lines : List ℕ → List ℕ → SubjectPublicKeyInfo → List ℕ
public_key_lines label parameters_label it =
    algorithm_lines label parameters_label (public_key_algorithm_of it.fields)
    ++ line (codes "public key: ") (bits_said (subject_public_key_of it.fields))

-- An ECPrivateKey, by these labels.
unfoldable pub ec_lines : List ℕ → List ℕ → List ℕ → EcPrivateKey → List ℕ
ec_lines key_label curve_label public_key_label it =
    octets_line key_label (length (octets_of (ec_key_of it)))
    ++ line curve_label (optional oid_text (ec_curve_of it))
    ++ line public_key_label (optional bits_said (ec_public_key_of it))

-- what a privateKey contains: an ECPrivateKey, a CurvePrivateKey, an RSAPrivateKey, or carried octets
unfoldable pub private_key_lines : AnyKey → List ℕ
private_key_lines (First key) =
    ec_lines (codes "private key: ec, ") (codes "inner curve: ") (codes "inner public key: ") key
private_key_lines (Second (First key)) =
    octets_line (codes "private key: curve, ") (length (octets_of (curve_key_of key)))
private_key_lines (Second (Second (First key))) = octets_line (codes "private key: rsa, ") (length (rsa_key_text key))
private_key_lines (Second (Second (Second octets))) =
    octets_line (codes "private key: carried, ") (length (octets_of octets))

-- A OneAsymmetricKey.
unfoldable pub key_lines : OneAsymmetricKey → List ℕ
key_lines it =
    line (codes "version: ") (decimal (key_version_of it))
    ++ algorithm_lines (codes "algorithm: ") (codes "parameters: ") (key_algorithm_of it)
    ++ private_key_lines (private_key_of it)
    ++ attributes_lines attribute_lines (option_map (λ set. set_items set) (key_attributes_of it))
    ++ line (codes "public key: ") (optional bits_said (public_key_of it))

-- A CertificationRequestInfo.
unfoldable pub info_lines : CertificationRequestInfo → List ℕ
info_lines it =
    subject_lines (subject_of it.fields)
    ++ public_key_lines (codes "key algorithm: ") (codes "key parameters: ") (subject_key_of it.fields)
    ++ attributes_lines request_attribute_lines (option_map (λ set. set_items set) (request_attributes_of it.fields))

-- A CertificationRequest.
unfoldable pub request_lines : CertificationRequest → List ℕ
request_lines it =
    info_lines (request_info_of it.fields)
    ++ algorithm_lines (codes "signature algorithm: ") (codes "signature parameters: ") (signature_algorithm_of it.fields)
    ++ line (codes "signature: ") (bits_said (signature_of it.fields))

-- An EncryptedPrivateKeyInfo.
unfoldable pub encrypted_lines : EncryptedKey → List ℕ
encrypted_lines it =
    algorithm_lines (codes "algorithm: ") (codes "parameters: ") (encryption_algorithm_of it.fields)
    ++ octets_line (codes "encrypted key: ") (length (octets_of (encrypted_data_of it.fields)))

-- An AsymmetricKeyPackage.
unfoldable pub package_lines : KeyPackage → List ℕ
package_lines it =
    line (codes "keys: ") (decimal (length (list_items (keys_of it)))) ++ flat_map key_lines (list_items (keys_of it))

-- what a document is, but for its kind
abbrev pub part_lines : Document → List ℕ
part_lines (documents.Key key) = key_lines key
part_lines (documents.Ec key) = ec_lines (codes "private key: ") (codes "curve: ") (codes "public key: ") key
part_lines (documents.Request request) = request_lines request
part_lines (documents.Public key) = public_key_lines (codes "algorithm: ") (codes "parameters: ") key
part_lines (documents.Encrypted key) = encrypted_lines key
part_lines (documents.Package keys) = package_lines keys

-- A document: its kind, and the lines of what it is.
abbrev pub document_lines : Document → List ℕ
document_lines document = line (codes "kind: ") (word_of (kind_of document)) ++ part_lines document
