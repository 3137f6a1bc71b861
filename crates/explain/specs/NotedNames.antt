-- What is remarked on names that extensions have, and in subjectAltName on their syntax.
use Rattle.std.specs.Prelude.{Bool, List, None, Option, Some, codes, cond, false, length, not, ℕ, ◌&&◌, ◌==◌, ◌||◌}
use Rattle.std.specs.Borrow.{Bor}
use Rattle.x690.specs.Lists.{same_octets}
use Rattle.pkix_shapes.specs.declared.identifiers.Identifier.{Identifier}
use Rattle.explain.specs.GeneralNames.{has_scheme, is_ipv4_address, is_mailbox}
use Rattle.explain.specs.HostNames.{has_star, is_host_name}
use Rattle.explain.specs.Remarks.{remark_if}
use Rattle.reports.specs.Letters.{has_hidden}
use Rattle.reports.specs.declared.report.Line.{Line}
use Rattle.reports.specs.declared.report.NameRemark.TheVariants.{AddressAsDns, AddressLength, DnsSyntax, Hidden, MailSyntax, UriSyntax, Wildcard}
use Rattle.reports.specs.declared.report.Remark.{Remark}
use Rattle.reports.specs.declared.report.Remark.TheVariants.{Name}
use Rattle.reports.specs.declared.report.Value.TheVariants.{Characters, Octets}

abbrev pub is_subject_alt_name : Option (Bor Identifier) → Bool
is_subject_alt_name None = false
is_subject_alt_name (Some identifier) = same_octets identifier.now.name.now (codes "subjectAltName")

-- A name of this type is a string, which a reader takes for a name.
abbrev pub is_string_name : List ℕ → Bool
is_string_name type_name =
    same_octets type_name (codes "dNSName")
    || (same_octets type_name (codes "rfc822Name")
    || same_octets type_name (codes "uniformResourceIdentifier"))

-- A name of this type is one element, whose contents are the name.
abbrev pub is_one_element : List ℕ → Bool
is_one_element type_name =
    is_string_name type_name
    || (same_octets type_name (codes "iPAddress") || same_octets type_name (codes "registeredID"))

-- An address of IP version 4 or 6 has 4 octets or 16.
abbrev pub is_address_length : ℕ → Bool
is_address_length octets = (octets == 4) || (octets == 16)

-- An address in subjectAltName has them (RFC 5280 section 4.2.1.6).
abbrev pub remark_on_address : Option (Bor Identifier) → Line → ℕ → Option Remark
remark_on_address extension line octets =
    remark_if
    (same_octets line.type_name.now (codes "iPAddress")
    && (is_subject_alt_name extension && not (is_address_length octets)))
    (Name (AddressLength octets))

-- A DNS name in subjectAltName is in the preferred name syntax (RFC 5280 section 4.2.1.6), where its first label isn't
-- a wildcard; a wildcard is nowhere else (RFC 9525 section 6.3); an address is no DNS name.
abbrev pub remark_on_dns_name : List ℕ → Option Remark
remark_on_dns_name name =
    cond (has_star name) (Some (Name Wildcard))
    (cond (not (is_host_name name)) (Some (Name DnsSyntax)) (remark_if (is_ipv4_address name) (Name AddressAsDns)))

-- A name in subjectAltName has the syntax of its type (RFC 5280 section 4.2.1.6).
abbrev pub remark_on_syntax : List ℕ → List ℕ → Option Remark
remark_on_syntax type_name name =
    cond (same_octets type_name (codes "dNSName")) (remark_on_dns_name name)
    (cond (same_octets type_name (codes "rfc822Name")) (remark_if (not (is_mailbox name)) (Name MailSyntax))
    (remark_if
    (same_octets type_name (codes "uniformResourceIdentifier") && not (has_scheme name))
    (Name UriSyntax)))

-- A name has no character that controls or formats text.
abbrev pub remark_on_characters : Option (Bor Identifier) → Line → List ℕ → Option Remark
remark_on_characters extension line octets =
    cond (is_string_name line.type_name.now && has_hidden line.tag octets) (Some (Name Hidden))
    (cond (is_subject_alt_name extension) (remark_on_syntax line.type_name.now octets) None)

-- What is remarked on a name, in the extension of this usual name or elsewhere.
abbrev pub remark_on_name : Option (Bor Identifier) → Line → Option Remark
remark_on_name extension line = elim line.value [
  | Characters octets ↦ remark_on_characters extension line octets.items
  | Octets octets ↦ remark_on_address extension line (length octets.items)
  | _ ↦ None
]
