-- The types of what stands in extensions of requests: RFC 5280 section 4.2, RFC 7633, Microsoft's enrolment. Without
-- rules: sizes and numbers that have an upper or a lower limit aren't looked at, and of strings other than UTF8String
-- no characters (X.690 8.23).
use Rattle.std.specs.Prelude.{List, [], ℕ, ◌∷◌}
use Rattle.x690.specs.Contents.{BitString, Boolean, Integer, ObjectIdentifier, OctetString, Utf8String}
use Rattle.x690.specs.Layouts.{context_specific, universal}
use Rattle.x690.specs.TypeTerms.{ChoiceType, Default, EndOfFields, LeafType, OpenType, Optional, Required, SequenceOfType, SequenceType, SetOfType, TypeTerm, choice_of}
use Rattle.x690.specs.UniversalTypes.{bit_string, explicit, integer, object_identifier, octet_string, sequence, ◌⨾◌}
use Rattle.pkix_definitions.specs.DocumentTypes.{Name, NameItem}
use Rattle.pkix_definitions.specs.Identifiers as identifiers

-- a list of at least one
abbrev pub list_of_some : TypeTerm → TypeTerm
list_of_some type = SequenceOfType (universal 16) 1 type

-- a string of the universal type of this number, other than UTF8String (X.680 8.4)
abbrev pub string : ℕ → TypeTerm
string number = LeafType (universal number) OctetString

-- RFC 5280 section 4.1.2.4: TeletexString, PrintableString, UniversalString, UTF8String, BMPString
abbrev pub DirectoryString : TypeTerm
DirectoryString =
    choice_of (string 20) (string 19 ∷ string 28 ∷ LeafType (universal 12) Utf8String ∷ string 30 ∷ [])

-- RFC 5280 section 4.2.1.6: otherName; any type stands under its [0].
abbrev pub OtherName : TypeTerm
OtherName =
    SequenceType (context_specific 0) (Required object_identifier ⨾ Required (explicit 0 OpenType) ⨾ EndOfFields)

-- ediPartyName of the same section
abbrev pub EDIPartyName : TypeTerm
EDIPartyName =
    SequenceType (context_specific 5)
    (Optional (explicit 0 DirectoryString) ⨾ Required (explicit 1 DirectoryString) ⨾ EndOfFields)

-- RFC 5280 section 4.2.1.6, in the order of its tags; of an x400Address the elements alone are read.
unfoldable pub GeneralName : TypeTerm
GeneralName =
    choice_of OtherName
    (LeafType (context_specific 1) OctetString
    ∷ LeafType (context_specific 2) OctetString
    ∷ SequenceOfType (context_specific 3) 1 OpenType
    ∷ explicit 4 Name
    ∷ EDIPartyName
    ∷ LeafType (context_specific 6) OctetString
    ∷ LeafType (context_specific 7) OctetString
    ∷ LeafType (context_specific 8) ObjectIdentifier
    ∷ [])

-- subjectAltName, issuerAltName
abbrev pub GeneralNames : TypeTerm
GeneralNames = list_of_some GeneralName

-- under an IMPLICIT tag
abbrev pub general_names : ℕ → TypeTerm
general_names number = SequenceOfType (context_specific number) 1 GeneralName

-- RFC 5280 section 4.2.1.1
abbrev pub AuthorityKeyIdentifier : TypeTerm
AuthorityKeyIdentifier =
    sequence (Optional (LeafType (context_specific 0) OctetString)
    ⨾ Optional (general_names 1)
    ⨾ Optional (LeafType (context_specific 2) Integer)
    ⨾ EndOfFields)

-- RFC 5280 section 4.2.1.4: a policy, with qualifiers of any type.
abbrev pub PolicyInformation : TypeTerm
PolicyInformation =
    sequence (Required object_identifier
    ⨾ Optional (list_of_some (sequence (Required object_identifier ⨾ Required OpenType ⨾ EndOfFields)))
    ⨾ EndOfFields)

-- certificatePolicies; Microsoft's application policies have the same type.
abbrev pub CertificatePolicies : TypeTerm
CertificatePolicies = list_of_some PolicyInformation

-- RFC 5280 section 4.2.1.5
abbrev pub PolicyMappings : TypeTerm
PolicyMappings = list_of_some (sequence (Required object_identifier ⨾ Required object_identifier ⨾ EndOfFields))

-- RFC 5280 section 4.2.1.9: `cA` is FALSE by default.
abbrev pub BasicConstraints : TypeTerm
BasicConstraints =
    sequence (Default (universal 1) (0 ∷ []) (LeafType (universal 1) Boolean) ⨾ Optional integer ⨾ EndOfFields)

-- RFC 5280 section 4.2.1.10: `minimum` is 0 by default.
abbrev pub GeneralSubtree : TypeTerm
GeneralSubtree =
    sequence (Required GeneralName
    ⨾ Default (context_specific 0) (0 ∷ []) (LeafType (context_specific 0) Integer)
    ⨾ Optional (LeafType (context_specific 1) Integer)
    ⨾ EndOfFields)

abbrev pub NameConstraints : TypeTerm
NameConstraints =
    sequence (Optional (SequenceOfType (context_specific 0) 1 GeneralSubtree)
    ⨾ Optional (SequenceOfType (context_specific 1) 1 GeneralSubtree)
    ⨾ EndOfFields)

-- RFC 5280 section 4.2.1.11
abbrev pub PolicyConstraints : TypeTerm
PolicyConstraints =
    sequence (Optional (LeafType (context_specific 0) Integer)
    ⨾ Optional (LeafType (context_specific 1) Integer)
    ⨾ EndOfFields)

-- RFC 5280 section 4.2.1.12
abbrev pub ExtKeyUsageSyntax : TypeTerm
ExtKeyUsageSyntax = list_of_some object_identifier

-- RFC 5280 section 4.2.1.13: fullName or nameRelativeToCRLIssuer
abbrev pub DistributionPointName : TypeTerm
DistributionPointName = ChoiceType (general_names 0) (SetOfType (context_specific 1) 1 NameItem)

abbrev pub DistributionPoint : TypeTerm
DistributionPoint =
    sequence (Optional (explicit 0 DistributionPointName)
    ⨾ Optional (LeafType (context_specific 1) BitString)
    ⨾ Optional (general_names 2)
    ⨾ EndOfFields)

-- cRLDistributionPoints, freshestCRL
abbrev pub CRLDistributionPoints : TypeTerm
CRLDistributionPoints = list_of_some DistributionPoint

-- RFC 5280 sections 4.2.2.1 and 4.2.2.2: authorityInfoAccess, subjectInfoAccess
abbrev pub InfoAccessSyntax : TypeTerm
InfoAccessSyntax = list_of_some (sequence (Required object_identifier ⨾ Required GeneralName ⨾ EndOfFields))

-- RFC 7633 section 4.1
abbrev pub Features : TypeTerm
Features = SequenceOfType (universal 16) 0 integer

-- Microsoft's template of a certificate: its identifier, its version, and the smaller part of that
abbrev pub CertificateTemplate : TypeTerm
CertificateTemplate = sequence (Required object_identifier ⨾ Required integer ⨾ Optional integer ⨾ EndOfFields)

-- the types of extensions, by the last arc under 2.5.29
abbrev pub certificate_extensions : List (List ℕ × TypeTerm)
certificate_extensions =
    (identifiers.certificate_extension 14, octet_string)
    ∷ (identifiers.certificate_extension 15, bit_string)
    ∷ (identifiers.certificate_extension 17, GeneralNames)
    ∷ (identifiers.certificate_extension 18, GeneralNames)
    ∷ (identifiers.certificate_extension 19, BasicConstraints)
    ∷ (identifiers.certificate_extension 30, NameConstraints)
    ∷ (identifiers.certificate_extension 31, CRLDistributionPoints)
    ∷ (identifiers.certificate_extension 32, CertificatePolicies)
    ∷ (identifiers.certificate_extension 33, PolicyMappings)
    ∷ (identifiers.certificate_extension 35, AuthorityKeyIdentifier)
    ∷ (identifiers.certificate_extension 36, PolicyConstraints)
    ∷ (identifiers.certificate_extension 37, ExtKeyUsageSyntax)
    ∷ (identifiers.certificate_extension 46, CRLDistributionPoints)
    ∷ (identifiers.certificate_extension 54, integer)
    ∷ []

-- and of others: authorityInfoAccess, subjectInfoAccess, TLS feature; of Microsoft the name of a template, a template,
-- application policies and the security identifier of an account
abbrev pub other_extensions : List (List ℕ × TypeTerm)
other_extensions =
    (identifiers.private_extension 1, InfoAccessSyntax)
    ∷ (identifiers.private_extension 11, InfoAccessSyntax)
    ∷ (identifiers.private_extension 24, Features)
    ∷ (identifiers.enrolment 20 2, DirectoryString)
    ∷ (identifiers.enrolment 21 7, CertificateTemplate)
    ∷ (identifiers.enrolment 21 10, CertificatePolicies)
    ∷ (identifiers.enrolment 25 2, GeneralNames)
    ∷ []
