-- What certificates of TLS servers may not have, in a request or a public key: the Baseline Requirements of the
-- CA/Browser Forum, and where the subject is empty RFC 5280.
use Rattle.std.specs.Prelude.{Bool, List, None, Option, Some, [], codes, cond, false, length, nat_le, nat_lt, not, slice_get, take, true, ℕ, ◌%◌, ◌&&◌, ◌+◌, ◌++◌, ◌/◌, ◌==◌, ◌||◌, ◌∷◌}
use Rattle.std.specs.Borrow.{Bor}
use Rattle.std.specs.List.{list_all, list_any}
use Rattle.std.specs.Option.{is_some, option_or}
use Rattle.x690.specs.Lists.{one_of, same_octets}
use Rattle.pkix_shapes.specs.declared.identifiers.Identifier.{Identifier}
use Rattle.explain.specs.GeneralNames.{is_ipv4_address}
use Rattle.explain.specs.NotedAttributes.{is_wide, x520}
use Rattle.explain.specs.NotedKeys.{arcs_in}
use Rattle.explain.specs.NotedNames.{is_subject_alt_name}
use Rattle.explain.specs.NotedUsages.{is_named_alt, says_true}
use Rattle.explain.specs.Notes.{identifier_in, is_member}
use Rattle.explain.specs.Public.{is_field}
use Rattle.explain.specs.Reach.{is_internal, is_reserved}
use Rattle.explain.specs.Remarks.{remark_if}
use Rattle.explain.specs.declared.notes.tls.TlsContext.{TlsContext}
use Rattle.reports.specs.Keys.{bit_length, integer_bits, is_below_zero}
use Rattle.reports.specs.declared.report.Carried.{Carried}
use Rattle.reports.specs.declared.report.Carried.TheVariants as carried
use Rattle.reports.specs.declared.report.Line.{Line}
use Rattle.reports.specs.declared.report.Remark.{Remark}
use Rattle.reports.specs.declared.report.Remark.TheVariants.{Tls}
use Rattle.reports.specs.declared.report.TlsRemark.TheVariants.{AnyUsage, CommonName, Curve, Exponent, InternalName, KeyAlgorithm, ModulusBits, NamesNotCritical, ReservedAddress}
use Rattle.reports.specs.declared.report.Value.{Value}
use Rattle.reports.specs.declared.report.Value.TheVariants.{Characters, Number, Octets}

-- A name in subjectAltName is one of the Internet's (Baseline Requirements section 7.1.2.7.12).
abbrev pub remark_on_reach : List ℕ → Value → Option Remark
remark_on_reach type_name (Characters octets) =
    remark_if (same_octets type_name (codes "dNSName") && is_internal octets.items) (Tls InternalName)
remark_on_reach type_name (Octets octets) =
    remark_if (same_octets type_name (codes "iPAddress") && is_reserved octets.items) (Tls ReservedAddress)
remark_on_reach type_name _ = None

abbrev pub are_arcs : List ℕ → Option (List ℕ) → Bool
are_arcs word None = false
are_arcs word (Some arcs) = same_octets arcs word

abbrev pub is_extended_usage : Option (Bor Identifier) → Bool
is_extended_usage None = false
is_extended_usage (Some identifier) = same_octets identifier.now.name.now (codes "extKeyUsage")

-- anyExtendedKeyUsage, 2.5.29.37.0
abbrev pub is_any_usage : Value → Bool
is_any_usage value = are_arcs (codes "2.5.29.37.0") (arcs_in value)

-- A member of an extension is a name of the Internet's, and no usage for anything (section 7.1.2.7.10).
abbrev pub remark_on_inner : Option (Bor Identifier) → Line → Option Remark
remark_on_inner extension line =
    cond (not (is_member line.step)) None
    (cond (is_subject_alt_name extension) (remark_on_reach line.type_name.now line.value)
    (remark_if (is_extended_usage extension && is_any_usage line.value) (Tls AnyUsage)))

-- the element is the algorithm of a public key
abbrev pub is_of_key : Option Line → Bool
is_of_key None = false
is_of_key (Some around) = is_field around.step (codes "algorithm")

abbrev pub is_one_of_arcs : List (List ℕ) → Option (List ℕ) → Bool
is_one_of_arcs words None = false
is_one_of_arcs words (Some arcs) = one_of arcs words

-- rsaEncryption, id-ecPublicKey
abbrev pub server_algorithms : List (List ℕ)
server_algorithms = codes "1.2.840.113549.1.1.1" ∷ codes "1.2.840.10045.2.1" ∷ []

-- P-256, P-384, P-521
abbrev pub server_curves : List (List ℕ)
server_curves = codes "1.2.840.10045.3.1.7" ∷ codes "1.3.132.0.34" ∷ codes "1.3.132.0.35" ∷ []

-- A public key is of RSA, or on a named curve (Baseline Requirements section 7.1.3.1).
abbrev pub remark_on_key_algorithm : Option Line → Value → Option Remark
remark_on_key_algorithm around value =
    remark_if (is_of_key around && not (is_one_of_arcs server_algorithms (arcs_in value))) (Tls KeyAlgorithm)

-- the algorithm is id-ecPublicKey
abbrev pub is_of_curves : Option (Bor Identifier) → Bool
is_of_curves None = false
is_of_curves (Some identifier) = same_octets identifier.now.arcs.now (codes "1.2.840.10045.2.1")

-- The curve of a public key is P-256, P-384 or P-521 (section 6.1.5).
abbrev pub remark_on_key_curve : Option (Bor Identifier) → Option Line → Value → Option Remark
remark_on_key_curve algorithm around value =
    remark_if
    (is_of_key around
    && (is_of_curves algorithm
    && (is_some (arcs_in value) && not (is_one_of_arcs server_curves (arcs_in value)))))
    (Tls Curve)

-- A modulus has 2048 bits at least, and 8 divide their number (section 6.1.5). One below 0 has no size.
abbrev pub remark_on_modulus_bits : ℕ → Option Remark
remark_on_modulus_bits bits = remark_if (nat_lt bits 2048 || not ((bits % 8) == 0)) (Tls (ModulusBits bits))

abbrev pub remark_on_server_modulus : Value → Option Remark
remark_on_server_modulus (Number number) = remark_on_modulus_bits (bit_length number)
remark_on_server_modulus (Octets octets) =
    cond (is_below_zero octets.items) None (remark_on_modulus_bits (integer_bits octets.items))
remark_on_server_modulus _ = None

-- A public exponent is from 65537 up to 2^256 - 1 (section 6.1.6); one that is shown by its octets is below 0 or large.
abbrev pub remark_on_server_exponent : Value → Option Remark
remark_on_server_exponent (Number number) = remark_if (nat_lt number 65537) (Tls Exponent)
remark_on_server_exponent (Octets octets) =
    remark_if (is_below_zero octets.items || nat_lt 256 (integer_bits octets.items)) (Tls Exponent)
remark_on_server_exponent _ = None

-- the line after an extension's identifier says that it is critical
abbrev pub is_critical : List Line → Bool
is_critical [] = false
is_critical (line ∷ lines) = is_field line.step (codes "critical") && says_true line.value

-- Where the subject is empty, subjectAltName is critical (RFC 5280 section 4.2.1.6).
abbrev pub remark_on_criticality : Bool → Line → List Line → Option Remark
remark_on_criticality is_empty line after =
    remark_if (is_empty && (is_named_alt line && not (is_critical after))) (Tls NamesNotCritical)

-- What is in an extension that isn't in DER has no lines, and may have any name.
abbrev pub is_unread : Option Carried → Bool
is_unread None = false
is_unread (Some carried.Der) = false
is_unread (Some carried.NotDer) = true
is_unread (Some (carried.Refused at why)) = true

abbrev pub has_text : List ℕ → Value → Bool
has_text name (Characters octets) = same_octets octets.items name
has_text name _ = false

-- the line is this DNS name, or may have it inside
abbrev pub may_name : List ℕ → Line → Bool
may_name name line =
    is_unread line.carries || (same_octets line.type_name.now (codes "dNSName") && has_text name line.value)

-- the extension that the next line is in
abbrev pub extension_after : Option (Bor Identifier) → Line → Option (Bor Identifier)
extension_after extension line = cond (is_field line.step (codes "extnID")) (identifier_in line.value) extension

-- A line in subjectAltName is this DNS name, or may have it inside: of lines from one in this extension on.
abbrev pub is_named_in : List ℕ → Option (Bor Identifier) → List Line → Bool
is_named_in name extension [] = false
is_named_in name extension (line ∷ lines) =
    (is_subject_alt_name extension && may_name name line)
    || is_named_in name (extension_after extension line) lines

abbrev pub has_colon : List ℕ → Bool
has_colon name = list_any (λ octet. octet == 58) name

-- an octet of an address of IP version 6 in its usual text: a hexadecimal figure, : or .
abbrev pub is_address_octet : ℕ → Bool
is_address_octet octet =
    (nat_le 48 octet && nat_le octet 57)
    || ((nat_le 65 octet && nat_le octet 70)
    || ((nat_le 97 octet && nat_le octet 102) || ((octet == 58) || (octet == 46))))

abbrev pub are_address_octets : List ℕ → Bool
are_address_octets name = list_all is_address_octet name

-- an address in its usual text, by its form: of IP version 4 in decimal numbers, of version 6 with a colon (58)
abbrev pub is_address_text : List ℕ → Bool
is_address_text name = is_ipv4_address name || (has_colon name && are_address_octets name)

-- There is a subjectAltName, and the name isn't in it. Of addresses nothing is said: they stand there in octets.
abbrev pub is_left_out : List ℕ → List Line → Bool
is_left_out name lines =
    not (is_address_text name) && (list_any (λ line. is_named_alt line) lines && not (is_named_in name None lines))

-- commonName
abbrev pub is_common_name : Option (Bor Identifier) → Bool
is_common_name None = false
is_common_name (Some identifier) = same_octets identifier.now.contents.now (x520 3)

-- the value is that of the first commonName of the subject
abbrev pub is_first_common_name : TlsContext → Bool
is_first_common_name context =
    not context.has_common_name && (not (is_some context.extension) && is_common_name context.attribute)

abbrev pub remark_on_text : TlsContext → List Line → Value → Option Remark
remark_on_text context lines (Characters octets) =
    remark_if (is_first_common_name context && is_left_out octets.items lines) (Tls CommonName)
remark_on_text context lines _ = None

-- A commonName is one of the names in subjectAltName (Baseline Requirements section 7.1.4.3), which is said of the first
-- one in the subject, where its characters are of an octet each or in UTF-8.
abbrev pub remark_on_common_name : TlsContext → List Line → Line → Option Remark
remark_on_common_name context lines line =
    cond (is_wide line.tag) None (remark_on_text context lines line.value)

-- What is remarked on a number of a public key of RSA.
abbrev pub remark_on_server_number : Line → Option Remark
remark_on_server_number line =
    cond (is_field line.step (codes "modulus")) (remark_on_server_modulus line.value)
    (cond (is_field line.step (codes "publicExponent")) (remark_on_server_exponent line.value) None)

-- What is remarked on a field of a public key.
abbrev pub remark_on_server_key : Option (Bor Identifier) → Option Line → Line → Option Remark
remark_on_server_key algorithm around line =
    cond (is_field line.step (codes "algorithm")) (remark_on_key_algorithm around line.value)
    (cond (is_field line.step (codes "parameters")) (remark_on_key_curve algorithm around line.value)
    (remark_on_server_number line))

-- What is remarked on a part of a subject or of an extension.
abbrev pub remark_on_server_name : List Line → TlsContext → Line → List Line → Option Remark
remark_on_server_name lines context line after =
    cond (is_field line.step (codes "extnID")) (remark_on_criticality context.is_empty line after)
    (cond (is_field line.step (codes "value")) (remark_on_common_name context lines line)
    (remark_on_inner context.extension line))

-- What is remarked on a line, by what the lines before say and by the lines after.
abbrev pub tls_remark_on : List Line → TlsContext → Line → List Line → Option Remark
tls_remark_on lines context line after =
    option_or (remark_on_server_key context.algorithm (slice_get lines line.around) line)
    (remark_on_server_name lines context line after)
