-- The types of extensions and of parameters meet what laws ask of a type.
use Rattle.std.proofs.Common.{List, [], false, refl, true, ℕ, ◌∷◌, ◌≡◌}
use Rattle.tlv_core.specs.Identifier.{Tag}
use Rattle.x690.specs.Contents.{BitString, Boolean, Integer, LeafKind, ObjectIdentifier, OctetString, Utf8String}
use Rattle.x690.specs.Layouts.{context_specific, universal}
use Rattle.x690.specs.Premises.{Fair, FairFields, Honest, HonestFields, Lawful}
use Rattle.x690.specs.TypeTerms.{ChoiceType, Default, Distinct, DistinctFields, EndOfFields, Fields, LeafType, OpenType, Optional, Required, SequenceOfType, SequenceType, SetOfType, TypeTerm, fields_fit_tag, fits_tag}
use Rattle.x690.specs.UniversalTypes.{explicit, integer, object_identifier}
use Rattle.pkix_definitions.specs.DocumentTypes.{NameItem}
use Rattle.pkix_definitions.specs.ExtensionLaws.{AreLawful, ExtensionsAreLawful}
use Rattle.pkix_definitions.specs.ExtensionTypes.{AuthorityKeyIdentifier, BasicConstraints, CRLDistributionPoints, CertificatePolicies, CertificateTemplate, DirectoryString, DistributionPoint, EDIPartyName, ExtKeyUsageSyntax, Features, GeneralName, GeneralNames, GeneralSubtree, InfoAccessSyntax, NameConstraints, OtherName, PolicyConstraints, PolicyInformation, PolicyMappings, certificate_extensions, general_names, other_extensions}
use Rattle.pkix_definitions.specs.ParameterTypes.{PBKDF2-params, RSASSA-PSS-params, inner_algorithm, scrypt-params}
use Rattle.pkix_definitions.proofs.LawfulTypes.{apart, name, name_item, neither}

-- the same of fields
record LawfulFields (fields : Fields) : Type 0 where
  fair : FairFields fields
  honest : HonestFields fields
  distinct : DistinctFields fields

leaf : (tag : Tag) (kind : LeafKind) → Lawful (LeafType tag kind)
unfolding Fair Honest Distinct
leaf tag kind = record { fair = tt; honest = tt; distinct = tt }

any : Lawful OpenType
unfolding Fair Honest Distinct
any = record { fair = tt; honest = tt; distinct = tt }

list : (tag : Tag) (least : ℕ) (type : TypeTerm) → Lawful type → Lawful (SequenceOfType tag least type)
unfolding Fair Honest Distinct
list tag least type it = record { fair = it.fair; honest = it.honest; distinct = it.distinct }

set : (tag : Tag) (least : ℕ) (type : TypeTerm) → Lawful type → Lawful (SetOfType tag least type)
unfolding Fair Honest Distinct
set tag least type it = record { fair = it.fair; honest = it.honest; distinct = it.distinct }

or : {first second : TypeTerm} → Lawful first → Lawful second → Lawful (ChoiceType first second)
unfolding Fair Honest Distinct
or one other = record {
  fair = (one.fair, other.fair);
  honest = (one.honest, other.honest);
  distinct = (one.distinct, other.distinct);
}

with_fields : (tag : Tag) (fields : Fields) → LawfulFields fields → Lawful (SequenceType tag fields)
unfolding Fair Honest Distinct
with_fields tag fields all = record { fair = all.fair; honest = all.honest; distinct = all.distinct }

end : LawfulFields EndOfFields
unfolding Fair Honest Distinct
end = record { fair = tt; honest = tt; distinct = tt }

required : {type : TypeTerm} {fields : Fields} → Lawful type → LawfulFields fields
    → LawfulFields (Required type fields)
unfolding Fair Honest Distinct
required it all = record {
  fair = (it.fair, all.fair);
  honest = (it.honest, all.honest);
  distinct = (it.distinct, all.distinct);
}

-- no value of the type begins as these fields may
Apart : TypeTerm → Fields → Type 0
Apart type fields = (tag : Tag) → fits_tag type tag ≡ true → fields_fit_tag fields tag ≡ false

optional : {type : TypeTerm} {fields : Fields} → Lawful type → LawfulFields fields → Apart type fields
    → LawfulFields (Optional type fields)
unfolding Fair Honest Distinct Apart
optional it all other = record {
  fair = (it.fair, all.fair);
  honest = (it.honest, all.honest);
  distinct = (it.distinct, all.distinct, other);
}

default : {type : TypeTerm} {fields : Fields} (tag : Tag) (octets : List ℕ) → Lawful type → LawfulFields fields
    → Apart type fields → LawfulFields (Default tag octets type fields)
unfolding Fair Honest Distinct Apart
default tag octets it all other = record {
  fair = (it.fair, all.fair);
  honest = (it.honest, all.honest);
  distinct = (it.distinct, all.distinct, other);
}

-- nothing follows
last : (type : TypeTerm) → Apart type EndOfFields
unfolding Apart fields_fit_tag
last type tag on = refl

string : (number : ℕ) → Lawful (LeafType (universal number) OctetString)
string number = leaf (universal number) OctetString

identifier : Lawful object_identifier
identifier = leaf (universal 6) ObjectIdentifier

whole : Lawful integer
whole = leaf (universal 2) Integer

under : (number : ℕ) (type : TypeTerm) → Lawful type → Lawful (explicit number type)
under number type it = with_fields (context_specific number) _ (required it end)

directory_string : Lawful DirectoryString
directory_string =
    or (string 20) (or (string 19) (or (string 28) (or (leaf (universal 12) Utf8String) (string 30))))

other_name : Lawful OtherName
other_name = with_fields (context_specific 0) _ (required identifier (required (under 0 OpenType any) end))

party : Lawful EDIPartyName
unfolding Apart fits_tag fields_fit_tag
party =
    with_fields (context_specific 5) _
    (optional (under 0 DirectoryString directory_string) (required (under 1 DirectoryString directory_string) end)
    (λ u on. apart (context_specific 0) (context_specific 1) u refl on))

general_name : Lawful GeneralName
unfolding GeneralName
general_name =
    or other_name
    (or (leaf (context_specific 1) OctetString)
    (or (leaf (context_specific 2) OctetString)
    (or (list (context_specific 3) 1 OpenType any)
    (or (under 4 _ name)
    (or party
    (or (leaf (context_specific 6) OctetString)
    (or (leaf (context_specific 7) OctetString) (leaf (context_specific 8) ObjectIdentifier))))))))

names : Lawful GeneralNames
names = list (universal 16) 1 GeneralName general_name

names_under : (number : ℕ) → Lawful (general_names number)
names_under number = list (context_specific number) 1 GeneralName general_name

authority : Lawful AuthorityKeyIdentifier
unfolding Apart fits_tag fields_fit_tag
authority =
    with_fields (universal 16) _
    (optional (leaf (context_specific 0) OctetString)
    (optional (names_under 1)
    (optional (leaf (context_specific 2) Integer) end (λ u on. refl))
    (λ u on. neither _ _ (apart (context_specific 1) (context_specific 2) u refl on) refl))
    (λ u on. neither _ _ (apart (context_specific 0) (context_specific 1) u refl on)
    (neither _ _ (apart (context_specific 0) (context_specific 2) u refl on) refl)))

policy : Lawful PolicyInformation
policy =
    with_fields (universal 16) _
    (required identifier
    (optional (list (universal 16) 1 _ (with_fields (universal 16) _ (required identifier (required any end)))) end
    (last _)))

policies : Lawful CertificatePolicies
policies = list (universal 16) 1 PolicyInformation policy

mappings : Lawful PolicyMappings
mappings = list (universal 16) 1 _ (with_fields (universal 16) _ (required identifier (required identifier end)))

basic : Lawful BasicConstraints
unfolding Apart fits_tag fields_fit_tag
basic =
    with_fields (universal 16) _
    (default (universal 1) (0 ∷ []) (leaf (universal 1) Boolean) (optional whole end (λ u on. refl))
    (λ u on. neither _ _ (apart (universal 1) (universal 2) u refl on) refl))

subtree : Lawful GeneralSubtree
unfolding Apart fits_tag fields_fit_tag
subtree =
    with_fields (universal 16) _
    (required general_name
    (default (context_specific 0) (0 ∷ []) (leaf (context_specific 0) Integer)
    (optional (leaf (context_specific 1) Integer) end (λ u on. refl))
    (λ u on. neither _ _ (apart (context_specific 0) (context_specific 1) u refl on) refl)))

constraints : Lawful NameConstraints
unfolding Apart fits_tag fields_fit_tag
constraints =
    with_fields (universal 16) _
    (optional (list (context_specific 0) 1 GeneralSubtree subtree)
    (optional (list (context_specific 1) 1 GeneralSubtree subtree) end (λ u on. refl))
    (λ u on. neither _ _ (apart (context_specific 0) (context_specific 1) u refl on) refl))

policy_constraints : Lawful PolicyConstraints
unfolding Apart fits_tag fields_fit_tag
policy_constraints =
    with_fields (universal 16) _
    (optional (leaf (context_specific 0) Integer)
    (optional (leaf (context_specific 1) Integer) end (λ u on. refl))
    (λ u on. neither _ _ (apart (context_specific 0) (context_specific 1) u refl on) refl))

usages : Lawful ExtKeyUsageSyntax
usages = list (universal 16) 1 object_identifier identifier

point : Lawful DistributionPoint
unfolding Apart fits_tag fields_fit_tag
point =
    with_fields (universal 16) _
    (optional (under 0 _ (or (names_under 0) (set (context_specific 1) 1 NameItem name_item)))
    (optional (leaf (context_specific 1) BitString)
    (optional (names_under 2) end (λ u on. refl))
    (λ u on. neither _ _ (apart (context_specific 1) (context_specific 2) u refl on) refl))
    (λ u on. neither _ _ (apart (context_specific 0) (context_specific 1) u refl on)
    (neither _ _ (apart (context_specific 0) (context_specific 2) u refl on) refl)))

points : Lawful CRLDistributionPoints
points = list (universal 16) 1 DistributionPoint point

accesses : Lawful InfoAccessSyntax
accesses = list (universal 16) 1 _ (with_fields (universal 16) _ (required identifier (required general_name end)))

features : Lawful Features
features = list (universal 16) 0 integer whole

template : Lawful CertificateTemplate
template =
    with_fields (universal 16) _ (required identifier (required whole (optional whole end (last _))))

inner : Lawful inner_algorithm
inner = with_fields (universal 16) _ (required identifier (optional any end (last _)))

pss_parameters : Lawful RSASSA-PSS-params
unfolding Apart fits_tag fields_fit_tag
pss_parameters =
    with_fields (universal 16) _
    (optional (under 0 inner_algorithm inner)
    (optional (under 1 inner_algorithm inner)
    (optional (under 2 integer whole)
    (optional (under 3 integer whole) end (λ u on. refl))
    (λ u on. neither _ _ (apart (context_specific 2) (context_specific 3) u refl on) refl))
    (λ u on. neither _ _ (apart (context_specific 1) (context_specific 2) u refl on)
    (neither _ _ (apart (context_specific 1) (context_specific 3) u refl on) refl)))
    (λ u on. neither _ _ (apart (context_specific 0) (context_specific 1) u refl on)
    (neither _ _ (apart (context_specific 0) (context_specific 2) u refl on)
    (neither _ _ (apart (context_specific 0) (context_specific 3) u refl on) refl))))

pbkdf2_parameters : Lawful PBKDF2-params
unfolding Apart fits_tag fields_fit_tag
pbkdf2_parameters =
    with_fields (universal 16) _
    (required (or (string 4) inner)
    (required whole
    (optional whole
    (optional inner end (λ u on. refl))
    (λ u on. neither _ _ (apart (universal 2) (universal 16) u refl on) refl))))

scrypt_parameters : Lawful scrypt-params
scrypt_parameters =
    with_fields (universal 16) _
    (required (string 4) (required whole (required whole (required whole (optional whole end (last _))))))

certificate : AreLawful certificate_extensions
certificate = (
  string 4,
  (
    leaf (universal 3) BitString,
    (
      names,
      (
        names,
        (
          basic,
          (
            constraints,
            (
              points,
              (policies, (mappings, (authority, (policy_constraints, (usages, (points, (whole, tt))))))),
            ),
          ),
        ),
      ),
    ),
  ),
)

other : AreLawful other_extensions
other = (accesses, (accesses, (features, (directory_string, (template, (policies, (names, tt)))))))

pub extensions_are_lawful : ExtensionsAreLawful
extensions_are_lawful = record {
  certificate = certificate;
  other = other;
  rsa_public_key = with_fields (universal 16) _ (required whole (required whole end));
  pss = pss_parameters;
  pbes2 = with_fields (universal 16) _ (required inner (required inner end));
  pbkdf2 = pbkdf2_parameters;
  scrypt = scrypt_parameters;
}
