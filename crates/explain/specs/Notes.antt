-- What other standards forbid in an accepted document, by its lines.
use Rattle.std.specs.Prelude.{Bool, List, None, Option, Some, [], codes, cond, false, filter, length, nat_le, nat_lt, not, option_and_then, reverse, slice_get, true, string_bytes, take, ℕ, ◌*◌, ◌+◌, ◌++◌, ◌-◌, ◌==◌, ◌&&◌, ◌||◌, ◌∷◌}
use Rattle.std.specs.Borrow.{Bor}
use Rattle.std.specs.List.{list_any}
use Rattle.std.specs.Option.{is_some, option_or}
use Rattle.x690.specs.Lists.{one_of, same_octets}
use Rattle.asn_names.specs.declared.element.Step.{Step}
use Rattle.asn_names.specs.declared.element.Step.TheVariants.{Member}
use Rattle.pkix_definitions.specs.Identifiers.{curve_lengths, ec_public_key, entry_under, extension_request}
use Rattle.pkix_shapes.specs.declared.identifiers.Identifier.{Identifier}
use Rattle.explain.specs.NotedAlgorithms.{remark_on_scheme}
use Rattle.explain.specs.NotedAttributes.{remark_on_attribute}
use Rattle.explain.specs.NotedKeys.{remark_on_curve, remark_on_exponent, remark_on_inside, remark_on_modulus}
use Rattle.explain.specs.NotedNames.{is_one_element, is_subject_alt_name, remark_on_name}
use Rattle.explain.specs.NotedUsages.{held_in, remark_on_info, remark_on_old_request, remark_on_path, remark_on_subject, remark_on_usage}
use Rattle.explain.specs.Public.{is_field}
use Rattle.explain.specs.Remarks.{remark_if}
use Rattle.explain.specs.declared.notes.Context.{Context}
use Rattle.reports.specs.declared.report.Carried.{Carried}
use Rattle.reports.specs.declared.report.Carried.TheVariants as carried
use Rattle.reports.specs.declared.report.Line.{Line}
use Rattle.reports.specs.declared.report.NameRemark.TheVariants.{Twice}
use Rattle.reports.specs.declared.report.Note.{Note}
use Rattle.reports.specs.declared.report.Remark.{Remark}
use Rattle.reports.specs.declared.report.Remark.TheVariants.{AttributeTwice, ExtensionNotDer, ExtensionRefused, ExtensionTwice, KeySize, Name, NeedlessParameters, NoNamedCurve, PointBits, PointHybrid, PointSize, SeveralValues}
use Rattle.reports.specs.declared.report.Value.{Value}
use Rattle.reports.specs.declared.report.Value.TheVariants.{Arcs, Bits, Characters, Named, Octets}

-- 1.2.840.113549.1.9.7
abbrev pub challenge_password : List ℕ
challenge_password = 0x2A ∷ 0x86 ∷ 0x48 ∷ 0x86 ∷ 0xF7 ∷ 0x0D ∷ 0x01 ∷ 0x09 ∷ 0x07 ∷ []

-- 2.16.840.1.101.3.4.3.NUMBER: signatures of NIST
abbrev pub nist_signature : ℕ → List ℕ
nist_signature number = 0x60 ∷ 0x86 ∷ 0x48 ∷ 0x01 ∷ 0x65 ∷ 0x03 ∷ 0x04 ∷ 0x03 ∷ number ∷ []

-- 2.16.840.1.101.3.4.4.NUMBER: key encapsulation of NIST
abbrev pub nist_encapsulation : ℕ → List ℕ
nist_encapsulation number = 0x60 ∷ 0x86 ∷ 0x48 ∷ 0x01 ∷ 0x65 ∷ 0x03 ∷ 0x04 ∷ 0x04 ∷ number ∷ []

-- public keys of ML-DSA-44, 65, 87 (RFC 9881)
abbrev pub ml_dsa_lengths : List (List ℕ × ℕ)
ml_dsa_lengths = (nist_signature 17, 1312) ∷ (nist_signature 18, 1952) ∷ (nist_signature 19, 2592) ∷ []

-- public keys of ML-KEM-512, 768, 1024 (RFC 9935)
abbrev pub ml_kem_lengths : List (List ℕ × ℕ)
ml_kem_lengths =
    (nist_encapsulation 1, 800) ∷ (nist_encapsulation 2, 1184) ∷ (nist_encapsulation 3, 1568) ∷ []

-- public keys of SLH-DSA with SHA2: 128s, 128f, 192s, 192f, 256s, 256f (RFC 9909)
abbrev pub slh_dsa_sha2_lengths : List (List ℕ × ℕ)
slh_dsa_sha2_lengths =
    (nist_signature 20, 32) ∷ (nist_signature 21, 32) ∷ (nist_signature 22, 48) ∷ (nist_signature 23, 48)
    ∷ (nist_signature 24, 64) ∷ (nist_signature 25, 64) ∷ []

-- and with SHAKE, in the same order
abbrev pub slh_dsa_shake_lengths : List (List ℕ × ℕ)
slh_dsa_shake_lengths =
    (nist_signature 26, 32) ∷ (nist_signature 27, 32) ∷ (nist_signature 28, 48) ∷ (nist_signature 29, 48)
    ∷ (nist_signature 30, 64) ∷ (nist_signature 31, 64) ∷ []

-- the octets of a public key, under an algorithm of which all have the same number
abbrev pub public_octets : List ℕ → Option ℕ
public_octets algorithm =
    option_or (entry_under ml_dsa_lengths algorithm)
    (option_or (entry_under ml_kem_lengths algorithm)
    (option_or (entry_under slh_dsa_sha2_lengths algorithm) (entry_under slh_dsa_shake_lengths algorithm)))

-- the contents octets of an object identifier that has a usual name
abbrev pub named : Value → Option (List ℕ)
named (Named identifier) = Some identifier.now.contents.now
named _ = None

-- the arcs of one that has none, in decimal
abbrev pub arcs_of : Value → Option (List ℕ)
arcs_of (Arcs text) = Some (string_bytes text)
arcs_of _ = None

abbrev pub is_one_of : List (List ℕ) → Option (List ℕ) → Bool
is_one_of identifiers None = false
is_one_of identifiers (Some identifier) = one_of identifier identifiers

-- attributes of a single value (RFC 2985 sections 5.4.1, 5.4.2)
abbrev pub is_single_valued : Option (List ℕ) → Bool
is_single_valued type = is_one_of (challenge_password ∷ extension_request ∷ []) type

-- how many octets a coordinate has, after another identifier
abbrev pub curve_after : Option ℕ → Option (List ℕ) → Option ℕ
curve_after curve name = option_or (option_and_then (entry_under curve_lengths) name) curve

-- before the first of these lines
abbrev pub context_start : List Line → Context
context_start lines = record {
  curve = None;
  public = None;
  is_single = false;
  extension = None;
  algorithm = None;
  attribute = None;
  held = held_in lines;
}

-- an object identifier that has a usual name
abbrev pub identifier_in : Value → Option (Bor Identifier)
identifier_in (Named identifier) = Some identifier
identifier_in _ = None

-- What the lines before say of the next one: an algorithm how many octets its public keys have, and which one it is; a
-- curve after it how many a coordinate has, which are as many as a private key has; the type of an attribute whether it
-- has one value, and what its value is to be, but that of an otherName, which has a type of its own.
abbrev pub context_after : Context → Line → Context
context_after context line =
    cond (is_field line.step (codes "algorithm"))
    (record context {
      public = option_and_then public_octets (named line.value);
      curve = None;
      algorithm = identifier_in line.value;
    })
    (cond (is_field line.step (codes "type"))
    (record context { is_single = is_single_valued (named line.value); attribute = identifier_in line.value })
    (cond (is_field line.step (codes "type-id")) (record context { attribute = None })
    (cond (is_field line.step (codes "extnID")) (record context { extension = identifier_in line.value })
    (record context { curve = curve_after context.curve (named line.value) }))))

-- the parameters after an algorithm
abbrev pub parameters : List Line → Option Line
parameters [] = None
parameters (line ∷ lines) = cond (is_field line.step (codes "parameters")) (Some line) None

-- they are an object identifier
abbrev pub is_curve_named : Option Line → Bool
is_curve_named None = false
is_curve_named (Some line) = is_some (named line.value) || is_some (arcs_of line.value)

-- Parameters are absent of ML-DSA, ML-KEM and SLH-DSA (RFC 9881, 9935, 9909), and name a curve of id-ecPublicKey (RFC
-- 5480 section 2.1.1).
abbrev pub remark_on_algorithm : Option (List ℕ) → Option Line → Option Remark
remark_on_algorithm None parameters = None
remark_on_algorithm (Some algorithm) parameters =
    cond (is_some (public_octets algorithm)) (remark_if (is_some parameters) NeedlessParameters)
    (remark_if (same_octets algorithm ec_public_key && not (is_curve_named parameters)) NoNamedCurve)

-- the first lines of these, as far as they are deeper than this
abbrev pub while_deeper : ℕ → List Line → List Line
while_deeper depth [] = []
while_deeper depth (line ∷ lines) = cond (nat_lt depth line.depth) (line ∷ while_deeper depth lines) []

-- how many members an element of this depth has, by the lines after its own
abbrev pub members_of : ℕ → List Line → ℕ
members_of depth after = length (filter (λ line. line.depth == depth + 1) (while_deeper depth after))

abbrev pub remark_on_values : ℕ → Option Remark
remark_on_values members = remark_if (nat_lt 1 members) (SeveralValues members)

abbrev pub is_public_key : Step → Bool
is_public_key step =
    is_field step (codes "subjectPublicKey") || is_field step (codes "publicKey") || is_field step (codes "")

-- A point is a first octet and one coordinate or two (RFC 5480 section 2.2, SEC 1 section 2.3.3).
abbrev pub is_point : ℕ → ℕ → Bool
is_point coordinate octets = (octets == 1 + coordinate) || (octets == 1 + 2 * coordinate)

-- The first octet of a point says its form: 04 that two coordinates follow, 02 and 03 that one does (the same).
abbrev pub is_form : ℕ → ℕ → ℕ → Bool
is_form coordinate octets first =
    cond (first == 4) (octets == 1 + 2 * coordinate) (((first == 2) || (first == 3)) && (octets == 1 + coordinate))

abbrev pub remark_on_form : ℕ → ℕ → Option ℕ → Option Remark
remark_on_form coordinate octets None = None
remark_on_form coordinate octets (Some first) = remark_if (not (is_form coordinate octets first)) (PointHybrid first)

-- a point by how many octets it has and the first one, where that is known
abbrev pub remark_on_point : ℕ → ℕ → Option ℕ → Option Remark
remark_on_point coordinate octets first =
    cond (is_point coordinate octets) (remark_on_form coordinate octets first) (Some (PointSize octets))

-- A public key has the octets that its algorithm says, or is a point of the curve.
abbrev pub remark_on_bits : Option ℕ → Option ℕ → ℕ → ℕ → Option ℕ → Option Remark
remark_on_bits (Some due) curve octets unused first = remark_if (not (octets == due)) (KeySize octets due)
remark_on_bits None None octets unused first = None
remark_on_bits None (Some coordinate) octets unused first =
    cond (unused == 0) (remark_on_point coordinate octets first) (Some PointBits)

abbrev pub remark_on_key : Context → Value → Option Remark
remark_on_key context (Bits octets unused first) = remark_on_bits context.public context.curve octets unused first
remark_on_key context _ = None

-- What is in a document, by its type or its field; else by what it is as a name.
abbrev pub remark_on_member : Context → Line → Option Remark
remark_on_member context line =
    cond (same_octets line.type_name.now (codes "KeyUsage"))
    (remark_on_usage context.extension context.held.is_ca line.value)
    (cond (is_field line.step (codes "pathLenConstraint")) (remark_on_path context.held.is_ca)
    (cond (is_field line.step (codes "modulus")) (remark_on_modulus line.value)
    (cond (is_field line.step (codes "publicExponent")) (remark_on_exponent line.value)
    (cond (is_field line.step (codes "parameters")) (remark_on_curve line.value)
    (remark_on_name context.extension line)))))

abbrev pub remark_by : Context → Line → Option Carried → Option Remark
remark_by context line None = remark_on_member context line
remark_by context line (Some carried.Der) = None
remark_by context line (Some carried.NotDer) = Some (ExtensionNotDer context.extension)
remark_by context line (Some (carried.Refused at why)) =
    Some (ExtensionRefused context.extension at why)

-- The value of an extension is in DER (RFC 5280 section 4.2).
abbrev pub remark_on_value : Context → Line → Option Remark
remark_on_value context line = remark_by context line line.carries

abbrev pub public_key_remark : Context → Line → Option Carried → Option Remark
public_key_remark context line None = remark_on_key context line.value
public_key_remark context line (Some carries) = remark_on_inside carries

-- A public key is looked into, where its algorithm says what is in it.
abbrev pub remark_on_public_key : Context → Line → Option Remark
remark_on_public_key context line = public_key_remark context line line.carries

abbrev pub is_attribute : Option Line → Bool
is_attribute None = false
is_attribute (Some line) = same_octets line.type_name.now (codes "RequestAttribute")

-- An algorithm, by itself and its parameters; then by the algorithm before it and the element around it.
abbrev pub remark_on_identifier : Context → Option Line → Line → Option Line → Option Remark
remark_on_identifier context around line parameters =
    option_or (remark_on_algorithm (named line.value) parameters)
    (remark_on_scheme context.algorithm around parameters line.value)

-- What is remarked on a line, by what the lines before say and by the lines after.
abbrev pub remark_on : List Line → Context → Line → List Line → Option Remark
remark_on lines context line after =
    cond (is_field line.step (codes "algorithm"))
    (remark_on_identifier context (slice_get lines line.around) line (parameters after))
    (cond (is_field line.step (codes "values") && context.is_single) (remark_on_values (members_of line.depth after))
    (cond (is_field line.step (codes "subject"))
    (remark_on_subject context.held.has_names (members_of line.depth after))
    (cond (is_field line.step (codes "certificationRequestInfo")) (remark_on_info context.held.has_attributes)
    (cond (is_field line.step (codes "type"))
    (remark_on_old_request (is_attribute (slice_get lines line.around)) line.value)
    (cond (is_public_key line.step) (remark_on_public_key context line)
    (cond (is_field line.step (codes "value")) (remark_on_attribute context.attribute line)
    (remark_on_value context line)))))))

abbrev pub is_member : Step → Bool
is_member (Member number) = true
is_member _ = false

-- the line is the same field of a member as another one, or both are members themselves
abbrev pub is_same_step : Step → Step → Bool
is_same_step one other =
    (is_field one (codes "extnID") && is_field other (codes "extnID"))
    || ((is_field one (codes "type") && is_field other (codes "type")) || (is_member one && is_member other))

abbrev pub is_same_field : Line → Line → Bool
is_same_field line other = (other.depth == line.depth) && is_same_step other.step line.step

-- two are there, and are the same
abbrev pub are_same : Option (List ℕ) → Option (List ℕ) → Bool
are_same None other = false
are_same (Some one) None = false
are_same (Some one) (Some other) = same_octets one other

abbrev pub is_same_identifier : Line → Line → Bool
is_same_identifier line other =
    are_same (named other.value) (named line.value) || are_same (arcs_of other.value) (arcs_of line.value)

-- the octets of a string, or of contents that have no words
abbrev pub octets_in : Value → Option (List ℕ)
octets_in (Characters octets) = Some octets.items
octets_in (Octets octets) = Some octets.items
octets_in _ = None

-- They are of the same type, and have the same octets.
abbrev pub is_same_name : Line → Line → Bool
is_same_name line other =
    are_same (octets_in other.value) (octets_in line.value) && same_octets other.type_name.now line.type_name.now

abbrev pub is_same_member : Line → Line → Bool
is_same_member line other = is_same_identifier line other || is_same_name line other

-- the depth of the list that a line is a member of, or its member is
abbrev pub list_depth : Line → ℕ
list_depth line = cond (is_member line.step) (line.depth - 1) (line.depth - 2)

-- how many earlier members of a list are looked at
abbrev pub most_members : ℕ
most_members = 32

-- Of the lines before a line, the last one first, in the list that its member is in, those are looked at that are the
-- same field of a member, or members as it is: one of the first so many says the same.
abbrev pub is_said : ℕ → Line → List Line → Bool
is_said most line before =
    list_any (is_same_member line)
    (take most (filter (is_same_field line) (while_deeper (list_depth line) before)))

-- One of the last 32 members before it in its list says the same.
abbrev pub is_repeated : List Line → Line → Bool
is_repeated before line = is_said most_members line (reverse before)

-- what may not be there twice: an extension (RFC 5280 section 4.2), an attribute of a request (RFC 2986 section 4.1);
-- and a name in subjectAltName, of which the second says no more
abbrev pub remark_once_more : Option (Bor Identifier) → List Line → Line → Option Remark
remark_once_more extension lines line =
    cond (is_field line.step (codes "extnID")) (Some ExtensionTwice)
    (cond (is_subject_alt_name extension && is_one_element line.type_name.now) (Some (Name Twice))
    (remark_if (is_field line.step (codes "type") && is_attribute (slice_get lines line.around)) AttributeTwice))

-- What is remarked on a line, where one of the same list before it says the same.
abbrev pub remark_on_repeat : Option (Bor Identifier) → List Line → List Line → Line → Option Remark
remark_on_repeat extension lines before line =
    option_and_then (remark_if (is_repeated before line)) (remark_once_more extension lines line)

abbrev pub note_on : ℕ → Option Remark → List Note
note_on number None = []
note_on number (Some remark) = record { line = number; remark = remark } ∷ []

-- the notes on the lines from this number on, by what those before say
abbrev pub notes_from : List Line → Context → ℕ → List Line → List Note
notes_from lines context number [] = []
notes_from lines context number (line ∷ after) =
    note_on number (remark_on lines context line after)
    ++ note_on number (remark_on_repeat context.extension lines (take number lines) line)
    ++ notes_from lines (context_after context line) (number + 1) after

-- at most so many notes are shown
abbrev pub most_notes : ℕ
most_notes = 100

-- there are as many, so that more may be left out
abbrev pub has_most_notes : List Note → Bool
has_most_notes notes = nat_le most_notes (length notes)

-- The notes on lines: the first ones.
abbrev pub notes_on : List Line → List Note
notes_on lines = take most_notes (notes_from lines (context_start lines) 0 lines)

-- a note more, where there is a remark and room for it
abbrev pub add_note : List Note → ℕ → Option Remark → List Note
add_note notes number remark =
    cond (nat_lt (length notes) most_notes) (notes ++ note_on number remark) notes
