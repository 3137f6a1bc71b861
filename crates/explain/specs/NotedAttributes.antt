-- What is remarked on the values of attributes in names: their types and upper bounds (RFC 5280 appendix A.1), and what
-- a reader doesn't see.
use Rattle.std.specs.Prelude.{Bool, List, None, Option, Some, [], cond, count_by, length, nat_le, nat_lt, not, true, ℕ, ◌&&◌, ◌/◌, ◌==◌, ◌||◌, ◌∷◌}
use Rattle.std.specs.Borrow.{Bor}
use Rattle.std.specs.List.{list_all}
use Rattle.std.specs.Option.{option_or}
use Rattle.tlv_core.specs.Identifier.{Tag}
use Rattle.x690.specs.Lists.{one_of, same_octets}
use Rattle.pkix_definitions.specs.Identifiers.{entry_under}
use Rattle.pkix_shapes.specs.declared.identifiers.Identifier.{Identifier}
use Rattle.explain.specs.HostNames.{is_let_dig}
use Rattle.explain.specs.Remarks.{remark_if}
use Rattle.reports.specs.Letters.{has_hidden, is_string}
use Rattle.reports.specs.declared.report.AttributeRemark.TheVariants.{Blank, Country, EmailType, Long, OtherType}
use Rattle.reports.specs.declared.report.Line.{Line}
use Rattle.reports.specs.declared.report.NameRemark.TheVariants.{Hidden, PrintableString}
use Rattle.reports.specs.declared.report.Remark.{Remark}
use Rattle.reports.specs.declared.report.Remark.TheVariants.{Attribute, Name}
use Rattle.reports.specs.declared.report.Value.{Value}
use Rattle.reports.specs.declared.report.Value.TheVariants.{Characters}

-- 2.5.4.NUMBER: attributes of X.520
abbrev pub x520 : ℕ → List ℕ
x520 number = 0x55 ∷ 0x04 ∷ number ∷ []

-- 1.2.840.113549.1.9.1
abbrev pub email_address : List ℕ
email_address = 0x2A ∷ 0x86 ∷ 0x48 ∷ 0x86 ∷ 0xF7 ∷ 0x0D ∷ 0x01 ∷ 0x09 ∷ 0x01 ∷ []

-- 0.9.2342.19200300.100.1.25
abbrev pub domain_component : List ℕ
domain_component = 0x09 ∷ 0x92 ∷ 0x26 ∷ 0x89 ∷ 0x93 ∷ 0xF2 ∷ 0x2C ∷ 0x64 ∷ 0x01 ∷ 0x19 ∷ []

-- how many characters there are at most: commonName, serialNumber, localityName, stateOrProvinceName, organizationName,
-- organizationalUnitName, title, emailAddress
abbrev pub upper_bounds : List (List ℕ × ℕ)
upper_bounds =
    (x520 3, 64) ∷ (x520 5, 64) ∷ (x520 7, 128) ∷ (x520 8, 128) ∷ (x520 10, 64) ∷ (x520 11, 64) ∷ (x520 12, 64)
    ∷ (email_address, 255) ∷ []

abbrev pub bound_of : Option (Bor Identifier) → Option ℕ
bound_of None = None
bound_of (Some identifier) = entry_under upper_bounds identifier.now.contents.now

-- commonName, localityName, stateOrProvinceName, organizationName, organizationalUnitName, title
abbrev pub has_directory_string : List ℕ → Bool
has_directory_string attribute = one_of attribute (x520 3 ∷ x520 7 ∷ x520 8 ∷ x520 10 ∷ x520 11 ∷ x520 12 ∷ [])

-- TeletexString (20), PrintableString (19), UniversalString (28), UTF8String (12), BMPString (30): RFC 5280 section
-- 4.1.2.4
abbrev pub is_directory_string : Tag → Bool
is_directory_string tag =
    is_string 20 tag || (is_string 19 tag || (is_string 28 tag || (is_string 12 tag || is_string 30 tag)))

-- The value is of a type that its attribute has: of serialNumber a PrintableString (19), of domainComponent an
-- IA5String (22). Of attributes that have other types nothing is said.
abbrev pub is_of_type : List ℕ → Tag → Bool
is_of_type attribute tag =
    cond (has_directory_string attribute) (is_directory_string tag)
    (cond (same_octets attribute (x520 5)) (is_string 19 tag)
    (not (same_octets attribute domain_component) || is_string 22 tag))

-- two octets, as far as they are in the line
abbrev pub is_of_two : Value → Bool
is_of_two (Characters octets) = length octets.items == 2
is_of_two _ = true

-- A countryName is a PrintableString (19) of two characters.
abbrev pub is_country : Line → Bool
is_country line = is_string 19 line.tag && is_of_two line.value

abbrev pub remark_on_type : List ℕ → Line → Option Remark
remark_on_type attribute line =
    cond (same_octets attribute (x520 6)) (remark_if (not (is_country line)) (Attribute Country))
    (cond (same_octets attribute email_address) (remark_if (not (is_string 22 line.tag)) (Attribute EmailType))
    (remark_if (not (is_of_type attribute line.tag)) (Attribute OtherType)))

abbrev pub remark_on_kind : Option (Bor Identifier) → Line → Option Remark
remark_on_kind None line = None
remark_on_kind (Some identifier) line = remark_on_type identifier.now.contents.now line

-- an octet of UTF-8 that doesn't go on with a character (RFC 3629 section 3)
abbrev pub begins_character : ℕ → Bool
begins_character octet = nat_lt octet 128 || nat_lt 191 octet

-- how many characters a string has: a UTF8String (12), a BMPString (30), a UniversalString (28), or one of an octet
-- each
abbrev pub characters_of : Tag → List ℕ → ℕ
characters_of tag octets =
    cond (is_string 12 tag) (count_by begins_character octets)
    (cond (is_string 30 tag) (length octets / 2)
    (cond (is_string 28 tag) (length octets / 4) (length octets)))

abbrev pub remark_on_length : Option ℕ → ℕ → Option Remark
remark_on_length None characters = None
remark_on_length (Some most) characters = remark_if (nat_lt most characters) (Attribute (Long characters most))

-- a BMPString or a UniversalString, of whose characters each has two octets or four
abbrev pub is_wide : Tag → Bool
is_wide tag = is_string 30 tag || is_string 28 tag

abbrev pub are_blanks : List ℕ → Bool
are_blanks octets = list_all (λ octet. octet == 32) octets

-- A reader sees nothing: there is no octet, or blanks (32) alone. A character of several octets isn't a blank by them.
abbrev pub is_blank : Tag → List ℕ → Bool
is_blank tag octets = cond (is_wide tag) (length octets == 0) (are_blanks octets)

-- a character of a PrintableString (X.680 41.4): a letter, a digit, the blank, or ' ( ) + , - . / : = ?
abbrev pub is_printable_octet : ℕ → Bool
is_printable_octet octet =
    is_let_dig octet
    || ((octet == 32)
    || ((nat_le 39 octet && nat_le octet 41)
    || ((nat_le 43 octet && nat_le octet 47) || ((octet == 58) || ((octet == 61) || (octet == 63))))))

abbrev pub are_printable : List ℕ → Bool
are_printable octets = list_all is_printable_octet octets

-- A string that has so many characters at most; a PrintableString (19) has characters of its own alone.
abbrev pub remark_on_string : Option ℕ → Tag → List ℕ → Option Remark
remark_on_string most tag octets =
    option_or (remark_on_length most (characters_of tag octets))
    (cond (is_string 19 tag && not (are_printable octets)) (Some (Name PrintableString))
    (remark_if (is_blank tag octets) (Attribute Blank)))

abbrev pub remark_on_content : Option (Bor Identifier) → Line → Option Remark
remark_on_content attribute line = elim line.value [
  | Characters octets ↦ remark_on_string (bound_of attribute) line.tag octets.items
  | _ ↦ None
]

-- A name has no character that controls or formats text. In a UniversalString (28), whose characters have four octets
-- each, none is looked for.
abbrev pub remark_on_hidden : Line → Option Remark
remark_on_hidden line = elim line.value [
  | Characters octets ↦ remark_if (not (is_string 28 line.tag) && has_hidden line.tag octets.items) (Name Hidden)
  | _ ↦ None
]

-- What is remarked on the value of an attribute of this type, where it has a usual name: the first that applies.
abbrev pub remark_on_attribute : Option (Bor Identifier) → Line → Option Remark
remark_on_attribute attribute line =
    option_or (remark_on_hidden line) (option_or (remark_on_kind attribute line) (remark_on_content attribute line))
