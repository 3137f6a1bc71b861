-- What is remarked on what the extensions of a request say, or lack: keyUsage, basicConstraints, subjectAltName; and on a
-- request without attributes.
use Rattle.std.specs.Prelude.{Bool, List, None, Option, Some, codes, cond, false, length, not, slice_get, true, ◌%◌, ◌&&◌, ◌-◌, ◌/◌, ◌==◌, [], ℕ, ◌∷◌}
use Rattle.std.specs.Borrow.{Bor}
use Rattle.std.specs.List.{list_all, list_any}
use Rattle.x690.specs.Lists.{same_octets}
use Rattle.pkix_shapes.specs.declared.identifiers.Identifier.{Identifier}
use Rattle.explain.specs.Causes.{unit_of}
use Rattle.explain.specs.NotedKeys.{arcs_in}
use Rattle.explain.specs.Public.{is_field}
use Rattle.explain.specs.Remarks.{remark_if}
use Rattle.explain.specs.declared.notes.usages.Held.{Held}
use Rattle.reports.specs.declared.report.Carried.{Carried}
use Rattle.reports.specs.declared.report.Carried.TheVariants as carried
use Rattle.reports.specs.declared.report.ExtensionRemark.TheVariants.{EmptySubject, NoAttributes, NoUsage, OldRequest, PathWithoutCa, SignWithoutCa}
use Rattle.reports.specs.declared.report.Line.{Line}
use Rattle.reports.specs.declared.report.Remark.{Remark}
use Rattle.reports.specs.declared.report.Remark.TheVariants.{Extension, ExtensionZeroBits}
use Rattle.reports.specs.declared.report.Value.{Value}
use Rattle.reports.specs.declared.report.Value.TheVariants.{Boolean, Named, Octets}

abbrev pub says_true : Value → Bool
says_true (Boolean said) = said
says_true _ = false

-- The line says cA TRUE. What is in an extension that isn't in DER has no lines, and may say it.
abbrev pub ca_by : Line → Option Carried → Bool
ca_by line None = is_field line.step (codes "cA") && says_true line.value
ca_by line (Some carried.Der) = is_field line.step (codes "cA") && says_true line.value
ca_by line (Some carried.NotDer) = is_field line.step (codes "extnValue")
ca_by line (Some (carried.Refused at why)) = is_field line.step (codes "extnValue")

abbrev pub may_be_ca : Line → Bool
may_be_ca line = ca_by line line.carries

abbrev pub says_alt : Value → Bool
says_alt (Named identifier) = same_octets identifier.now.name.now (codes "subjectAltName")
says_alt _ = false

-- the line names a subjectAltName
abbrev pub is_named_alt : Line → Bool
is_named_alt line = is_field line.step (codes "extnID") && says_alt line.value

-- the line is the field attributes
abbrev pub is_attributes : Line → Bool
is_attributes line = is_field line.step (codes "attributes")

-- what stands anywhere in a document
abbrev pub held_in : List Line → Held
held_in lines = record {
  is_ca = list_any (λ line. may_be_ca line) lines;
  has_names = list_any (λ line. is_named_alt line) lines;
  has_attributes = list_any (λ line. is_attributes line) lines;
}

abbrev pub are_zeros : List ℕ → Bool
are_zeros octets = list_all (λ octet. octet == 0) octets

-- A bit of a BIT STRING is 1; its first octet says how many are unused (X.690 8.6.2).
abbrev pub has_one : List ℕ → Bool
has_one [] = false
has_one (unused ∷ octets) = not (are_zeros octets)

abbrev pub last_is_one : ℕ → Option ℕ → Bool
last_is_one unused None = true
last_is_one unused (Some last) = ((last / unit_of unused) % 2) == 1

-- the last bit of a BIT STRING is 1, or it has none
abbrev pub ends_in_one : List ℕ → Bool
ends_in_one [] = true
ends_in_one (unused ∷ octets) = last_is_one unused (slice_get octets (length octets - 1))

abbrev pub bit_five : Option ℕ → Bool
bit_five None = false
bit_five (Some octet) = ((octet / 4) % 2) == 1

-- bit 5 of a BIT STRING is 1, keyCertSign
abbrev pub signs_certificates : List ℕ → Bool
signs_certificates contents = bit_five (slice_get contents 1)

-- A keyUsage has a bit that is 1 (RFC 5280 section 4.2.1.3); its bits, which have names, end in a 1 in DER (X.690
-- 11.2.2); and keyCertSign is of a CA alone (RFC 5280 section 4.2.1.3).
abbrev pub remark_on_usages : Option (Bor Identifier) → Bool → List ℕ → Option Remark
remark_on_usages extension is_ca contents =
    cond (not (has_one contents)) (Some (Extension NoUsage))
    (cond (not (ends_in_one contents)) (Some (ExtensionZeroBits extension))
    (remark_if (signs_certificates contents && not is_ca) (Extension SignWithoutCa)))

abbrev pub remark_on_usage : Option (Bor Identifier) → Bool → Value → Option Remark
remark_on_usage extension is_ca (Octets octets) = remark_on_usages extension is_ca octets.items
remark_on_usage extension is_ca _ = None

-- A pathLenConstraint is of a CA alone (RFC 5280 section 4.2.1.9).
abbrev pub remark_on_path : Bool → Option Remark
remark_on_path is_ca = remark_if (not is_ca) (Extension PathWithoutCa)

-- A subject has an attribute, or the request a subjectAltName (RFC 5280 section 4.1.2.6).
abbrev pub remark_on_subject : Bool → ℕ → Option Remark
remark_on_subject has_names members = remark_if ((members == 0) && not has_names) (Extension EmptySubject)

-- A request has the field attributes, if only an empty one (RFC 2986 section 4.1).
abbrev pub remark_on_info : Bool → Option Remark
remark_on_info has_attributes = remark_if (not has_attributes) (Extension NoAttributes)

-- Microsoft's attribute, szOID_CERT_EXTENSIONS
abbrev pub is_old_request : Option (List ℕ) → Bool
is_old_request None = false
is_old_request (Some arcs) = same_octets arcs (codes "1.3.6.1.4.1.311.2.1.14")

-- Extensions are asked for by extensionRequest (RFC 2985 section 5.4.2).
abbrev pub remark_on_old_request : Bool → Value → Option Remark
remark_on_old_request is_attribute value =
    remark_if (is_attribute && is_old_request (arcs_in value)) (Extension OldRequest)
