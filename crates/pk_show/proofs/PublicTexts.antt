-- Private octets change nothing in the text of a document but the numbers of octets.
use Rattle.std.proofs.Common.{◌≡◌, ℕ, Bool, false, true, List, Option, [], ◌∷◌, ◌++◌, ap, ap₂, arith, codes, decimal, flat_map, length, map, refl, sym, ◌∙◌}
use Rattle.std.proofs.lemmas.List.{length-append, length-map}
use Rattle.std.specs.Option.{option_map}
use Rattle.asn_lists.specs.Containers.{list_items, set_items}
use Rattle.asn_lists.specs.declared.set_of.SetOf.{SetOf as AttributeSet}
use Rattle.asn_fields.specs.declared.either.Either.TheVariants.{First, Second}
use Rattle.pk_documents.specs.Documents.{kind_of}
use Rattle.pk_documents.specs.KindRows.{word_of}
use Rattle.pk_documents.specs.declared.document.Document.{Document}
use Rattle.pk_documents.specs.declared.document.Document.TheVariants as documents
use Rattle.pk_show.specs.Lines.{bits_said, line, octets_line, optional}
use Rattle.pk_show.specs.Parts.{rsa_key_text}
use Rattle.pk_show.specs.PublicFields.{EcFieldsAre, EncryptedFieldsAre, KeyFieldsAre, PrivateFieldsAre, PublicFieldsAre, RsaFieldsAre, TellsNoPrivateOctets, blank, blanks}
use Rattle.pk_show.specs.Shown.{algorithm_lines, attribute_lines, attributes_lines, ec_lines, encrypted_lines, key_lines, package_lines, part_lines, private_key_lines}
use Rattle.pkcs8.specs.AsymmetricKeys.{private_key_of}
use Rattle.pkcs8.specs.EncryptedKeys.{EncryptedKey}
use Rattle.pkcs8.specs.KeyPackages.{keys_of}
use Rattle.pkcs8.specs.Seen.{AnyKey}
use Rattle.pkcs8.specs.declared.key_package.KeyPackage.{KeyPackage}
use Rattle.pkcs8.specs.declared.one_asymmetric_key.OneAsymmetricKey.{OneAsymmetricKey}
use Rattle.pkix_values.specs.Attributes.{Attribute, attribute_text}
use Rattle.private_keys.specs.RsaParts.{RsaPrivateKey, rsa_value_of}
use Rattle.private_keys.specs.declared.ec_private_key.EcPrivateKey.{EcPrivateKey}
use Rattle.tlv_core.specs.Identifier.{Tag, identifier}
use Rattle.tlv_core.specs.Length.{shortest_length}
use Rattle.tlv_core.specs.Texts.{oid_text}
use Rattle.x690.specs.DerTexts.{der, der_element, der_texts}
use Rattle.x690.specs.Lists.{Each, join}
use Rattle.x690.specs.Values.{FirstMember, Leaf, NoMembers, Sequence, SetOf, Value, Values}
use Rattle.x690_laws.proofs.LengthsOfContents.{arranged_length}

-- Texts with other octets in the leaves are as long.

framed : (tag : Tag) (constructed : Bool) (x y : List ℕ) → length x ≡ length y
    → length (der_element tag constructed x) ≡ length (der_element tag constructed y)
unfolding der_element
framed tag constructed x y e = omega (
  arith,
  length-append (identifier tag constructed) (shortest_length (length x) ++ x),
  length-append (shortest_length (length x)) x,
  length-append (identifier tag constructed) (shortest_length (length y) ++ y),
  length-append (shortest_length (length y)) y,
  ap (λ n. length (shortest_length n)) e,
  e,
)

mutual
  unfolding der

  blank_length : (v : Value) → length (der (blank v)) ≡ length (der v)
  blank_length (Leaf tag contents) =
      framed tag false (map (λ octet. 0) contents) contents (length-map contents (λ octet. 0))
  blank_length (Sequence tag vs) =
      framed tag true (join (der_texts (blanks vs))) (join (der_texts vs)) (blanks_length vs)
  blank_length (SetOf tag vs) =
      framed tag true _ _
      (arranged_length (der_texts (blanks vs)) ∙ blanks_length vs ∙ sym (arranged_length (der_texts vs)))

  blanks_length : (vs : Values) → length (join (der_texts (blanks vs))) ≡ length (join (der_texts vs))
  blanks_length NoMembers = refl
  blanks_length (FirstMember v vs) = omega (
    arith,
    length-append (der (blank v)) (join (der_texts (blanks vs))),
    length-append (der v) (join (der_texts vs)),
    blank_length v,
    blanks_length vs,
  )

rsa_length : (one other : RsaPrivateKey) → RsaFieldsAre one other
    → length (rsa_key_text one) ≡ length (rsa_key_text other)
rsa_length one other h =
    sym (blank_length (rsa_value_of one)) ∙ ap (λ v. length (der v)) h.2 ∙ blank_length (rsa_value_of other)

-- The lines of each type.

both : {a b c d : List ℕ} → a ≡ b → c ≡ d → a ++ c ≡ b ++ d
both e f = ap₂ (λ x y. x ++ y) e f

ec_alike : (label curve public : List ℕ) (one other : EcPrivateKey) → EcFieldsAre one other
    → ec_lines label curve public one ≡ ec_lines label curve public other
unfolding ec_lines
ec_alike label curve public one other h =
    both (both (ap (octets_line label) h.0) (ap (λ c. line curve (optional oid_text c)) h.1))
    (ap (λ k. line public (optional bits_said k)) h.2)

private_alike : (one other : AnyKey) → PrivateFieldsAre one other → private_key_lines one ≡ private_key_lines other
unfolding private_key_lines
private_alike (First one) (First other) h =
    ec_alike (codes "private key: ec, ") (codes "inner curve: ") (codes "inner public key: ") one other h
private_alike (Second (First one)) (Second (First other)) h = ap (octets_line (codes "private key: curve, ")) h
private_alike (Second (Second (First one))) (Second (Second (First other))) h =
    ap (octets_line (codes "private key: rsa, ")) (rsa_length one other h)
private_alike (Second (Second (Second one))) (Second (Second (Second other))) h =
    ap (octets_line (codes "private key: carried, ")) h
private_alike one other h = absurd h

abbrev own_attributes : Option (AttributeSet Attribute attribute_text) → List ℕ
own_attributes attributes = attributes_lines attribute_lines (option_map (λ set. set_items set) attributes)

key_alike : (one other : OneAsymmetricKey) → KeyFieldsAre one other → key_lines one ≡ key_lines other
unfolding key_lines
key_alike one other h =
    let version = ap (λ n. line (codes "version: ") (decimal n)) h.0 in
    let algorithm = ap (algorithm_lines (codes "algorithm: ") (codes "parameters: ")) h.1 in
    let private = private_alike (private_key_of one) (private_key_of other) h.2 in
    let attributes = ap own_attributes h.3 in
    let public = ap (λ bits. line (codes "public key: ") (optional bits_said bits)) h.4 in
    both (both (both (both version algorithm) private) attributes) public

encrypted_alike : (one other : EncryptedKey) → EncryptedFieldsAre one other
    → encrypted_lines one ≡ encrypted_lines other
unfolding encrypted_lines
encrypted_alike one other h =
    both (ap (algorithm_lines (codes "algorithm: ") (codes "parameters: ")) h.0)
    (ap (octets_line (codes "encrypted key: ")) h.1)

keys_counted : (keys others : List OneAsymmetricKey) → Each KeyFieldsAre keys others → length keys ≡ length others
keys_counted [] [] h = refl
keys_counted [] (other ∷ others) h = absurd h
keys_counted (key ∷ keys) [] h = absurd h
keys_counted (key ∷ keys) (other ∷ others) h = omega (arith, keys_counted keys others h.1)

keys_alike : (keys others : List OneAsymmetricKey) → Each KeyFieldsAre keys others
    → flat_map key_lines keys ≡ flat_map key_lines others
keys_alike [] [] h = refl
keys_alike [] (other ∷ others) h = absurd h
keys_alike (key ∷ keys) [] h = absurd h
keys_alike (key ∷ keys) (other ∷ others) h = both (key_alike key other h.0) (keys_alike keys others h.1)

package_alike : (one other : KeyPackage) → Each KeyFieldsAre (list_items (keys_of one)) (list_items (keys_of other))
    → package_lines one ≡ package_lines other
unfolding package_lines
package_alike one other h =
    let keys = list_items (keys_of one) in
    let others = list_items (keys_of other) in
    both (ap (λ n. line (codes "keys: ") (decimal n)) (keys_counted keys others h)) (keys_alike keys others h)

-- Documents.

parts_alike : (one other : Document) → PublicFieldsAre one other → part_lines one ≡ part_lines other
parts_alike (documents.Key one) (documents.Key other) h = key_alike one other h
parts_alike (documents.Ec one) (documents.Ec other) h =
    ec_alike (codes "private key: ") (codes "curve: ") (codes "public key: ") one other h
parts_alike (documents.Request one) (documents.Request other) h = ap (λ it. part_lines (documents.Request it)) h
parts_alike (documents.Public one) (documents.Public other) h = ap (λ it. part_lines (documents.Public it)) h
parts_alike (documents.Encrypted one) (documents.Encrypted other) h = encrypted_alike one other h
parts_alike (documents.Package one) (documents.Package other) h = package_alike one other h
parts_alike one other h = absurd h

kinds_alike : (one other : Document) → PublicFieldsAre one other → kind_of one ≡ kind_of other
kinds_alike (documents.Key one) (documents.Key other) h = refl
kinds_alike (documents.Ec one) (documents.Ec other) h = refl
kinds_alike (documents.Request one) (documents.Request other) h = refl
kinds_alike (documents.Public one) (documents.Public other) h = refl
kinds_alike (documents.Encrypted one) (documents.Encrypted other) h = refl
kinds_alike (documents.Package one) (documents.Package other) h = refl
kinds_alike one other h = absurd h

pub documents_alike : TellsNoPrivateOctets
documents_alike one other h =
    both (ap (λ kind. line (codes "kind: ") (word_of kind)) (kinds_alike one other h)) (parts_alike one other h)
