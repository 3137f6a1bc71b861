-- The elements of a report, and what is said of some, as tokens of JSON.
use Rattle.std.specs.Prelude.{Bool, List, None, Some, [], codes, cond, false, flat_map, length, string_bytes, true, ℕ, ◌++◌, ◌∷◌}
use Rattle.std.specs.List.{slice_get}
use Rattle.std.specs.Option.{option_map}
use Rattle.std.specs.Str.{is_utf8}
use Rattle.hex.specs.Hex.{encode_lower}
use Rattle.json.specs.Token.{Token}
use Rattle.tlv_core.specs.Classes.{class_of}
use Rattle.tlv_core.specs.Identifier.{Tag}
use Rattle.tlv_core.specs.Reasons.{name_of}
use Rattle.tlv_core.specs.declared.reason.Reason.{Reason}
use Rattle.asn_names.specs.declared.element.Step.{Step}
use Rattle.pkix_shapes.specs.declared.identifiers.Identifier.{Identifier}
use Rattle.reports.specs.declared.json_lists.Marked.{Marked}
use Rattle.reports.specs.declared.report.AttributeRemark.{AttributeRemark}
use Rattle.reports.specs.declared.report.AttributeRemark.TheVariants as attributes
use Rattle.reports.specs.declared.report.Carried.{Carried}
use Rattle.reports.specs.declared.report.Carried.TheVariants as carried
use Rattle.reports.specs.declared.report.Cause.{Cause}
use Rattle.reports.specs.declared.report.KeyRemark.{KeyRemark}
use Rattle.reports.specs.declared.report.KeyRemark.TheVariants as keys
use Rattle.reports.specs.declared.report.Length.{Length}
use Rattle.reports.specs.declared.report.Line.{Line}
use Rattle.reports.specs.declared.report.NameRemark.{NameRemark}
use Rattle.reports.specs.declared.report.NameRemark.TheVariants as names
use Rattle.reports.specs.declared.report.Note.{Note}
use Rattle.reports.specs.declared.report.Remark.{Remark}
use Rattle.reports.specs.declared.report.Remark.TheVariants as remarks
use Rattle.reports.specs.declared.report.TlsRemark.{TlsRemark}
use Rattle.reports.specs.declared.report.TlsRemark.TheVariants as tls
use Rattle.reports.specs.declared.report.Report.{Report}
use Rattle.reports.specs.declared.report.Value.{Value}
use Rattle.reports.specs.declared.report.Value.TheVariants as values
use Rattle.reports.specs.Picks.{first_ones, is_place_alone, path_to_line}
use Rattle.reports.specs.JsonMembers.{boolean_member, list_member, number_member, object, object_member, optional, said_member, text_member}
use Rattle.reports.specs.JsonWords.{cause_word, class_word}
use Rattle.reports.specs.Paths.{with_root, with_step, with_steps}
use Rattle.reports.specs.Remarks.{remark_code, remark_level}

-- the path of an element, by the number of the line of the one around it, and by the step from there
unfoldable pub path_of : Report → ℕ → Step → List ℕ
path_of report around step =
    with_root report.kind.type_name.now (with_step (with_steps [] (path_to_line report.lines.items around)) step)

-- an element by its path and its place
unfoldable pub field_members : Report → ℕ → Step → ℕ → List Token
field_members report around step at =
    said_member (codes "field") (path_of report around step) ++ number_member (codes "at") at

-- a tag by its class and its number
unfoldable pub tag_members : List ℕ → ℕ → List Token
tag_members class number =
    object_member (codes "tag") (text_member (codes "class") class ++ number_member (codes "number") number)

abbrev pub tag_member : Tag → List Token
tag_member tag = tag_members (class_word (class_of tag.class)) tag.number

-- a header by the number of its octets, and the number of octets of contents that it announces
unfoldable pub length_members : Length → List Token
length_members it =
    number_member (codes "header") it.header ++ optional (number_member (codes "length")) it.contents

-- a character string that is UTF-8 as it is, another one in hexadecimal digits
unfoldable pub characters_member : List ℕ → List Token
characters_member octets =
    cond (is_utf8 octets) (text_member (codes "characters") octets)
    (text_member (codes "hexadecimal") (encode_lower octets))

-- octets by their number, and in hexadecimal digits
unfoldable pub octets_members : List ℕ → List Token
octets_members octets =
    number_member (codes "octets") (length octets) ++ text_member (codes "hexadecimal") (encode_lower octets)

-- what is shown of contents
unfoldable pub value_members : Value → List Token
value_members values.Nothing = []
value_members values.NotShown = boolean_member (codes "shown") false
value_members (values.Size octets) = number_member (codes "octets") octets
value_members (values.Bits octets unused first) =
    number_member (codes "octets") octets ++ number_member (codes "unused_bits") unused
value_members values.Null = boolean_member (codes "null") true
value_members (values.Boolean value) = boolean_member (codes "boolean") value
value_members (values.Number number) = number_member (codes "integer") number
value_members (values.Named id) =
    text_member (codes "identifier") id.now.arcs.now ++ text_member (codes "name") id.now.name.now
value_members (values.Arcs arcs) = text_member (codes "identifier") (string_bytes arcs)
value_members (values.Characters octets) = characters_member octets.items
value_members (values.Octets octets) = octets_members octets.items

-- nothing is shown
abbrev pub is_nothing : Value → Bool
is_nothing values.Nothing = true
is_nothing values.NotShown = false
is_nothing (values.Size octets) = false
is_nothing (values.Bits octets unused first) = false
is_nothing values.Null = false
is_nothing (values.Boolean value) = false
is_nothing (values.Number number) = false
is_nothing (values.Named id) = false
is_nothing (values.Arcs arcs) = false
is_nothing (values.Characters octets) = false
is_nothing (values.Octets octets) = false

unfoldable pub value_member : Value → List Token
value_member value = cond (is_nothing value) [] (object_member (codes "value") (value_members value))

-- the tag of an element and whether it is constructed, where more than its place is shown
unfoldable pub form_members : Line → List Token
form_members line =
    cond (is_place_alone line.step line.value) []
    (tag_member line.tag ++ boolean_member (codes "constructed") line.constructed)

-- a place and a reason
unfoldable pub place_members : ℕ → Reason → List Token
place_members at why = number_member (codes "at") at ++ text_member (codes "reason") (name_of why)

-- what the contents of an extension are as a value of its type
unfoldable pub judgement_members : Carried → List Token
judgement_members carried.Der = text_member (codes "verdict") (codes "der")
judgement_members carried.NotDer = text_member (codes "verdict") (codes "not_der")
judgement_members (carried.Refused at why) =
    text_member (codes "verdict") (codes "refused") ++ place_members at why

abbrev pub carried_member : Carried → List Token
carried_member judgement = object_member (codes "carries") (judgement_members judgement)

-- an element
unfoldable pub line_members : Line → List Token
line_members line =
    number_member (codes "at") line.at ++ optional length_members line.length
    ++ number_member (codes "depth") line.depth ++ said_member (codes "name") (with_step [] line.step)
    ++ said_member (codes "type") line.type_name.now ++ form_members line
    ++ optional (number_member (codes "end")) line.end ++ value_member line.value
    ++ optional carried_member line.carries

abbrev pub line_object : Line → List Token
line_object line = object (line_members line)

-- an element that isn't in DER
abbrev pub marked_by : Line → Cause → Marked
marked_by line cause = record { at = line.at; around = line.around; step = line.step; cause = cause }

-- all of those
abbrev pub marked_in : List Line → List Marked
marked_in [] = []
marked_in (line ∷ lines) =
    elim line.cause [ None ↦ marked_in lines | Some cause ↦ marked_by line cause ∷ marked_in lines ]

unfoldable pub marked_object : Report → Marked → List Token
marked_object report it =
    object (field_members report it.around it.step it.at ++ text_member (codes "what") (cause_word it.cause))

-- up to so many of these elements, and how many there are
unfoldable pub some_members : Report → ℕ → List Marked → List Token
some_members report places marked =
    list_member (codes "not_der") (flat_map (marked_object report) (first_ones places marked))
    ++ number_member (codes "not_der_places") (length marked)

-- those that aren't in DER
abbrev pub not_der_members : ℕ → Report → List Line → List Token
not_der_members places report lines = some_members report places (marked_in lines)

-- an extension by its usual name
abbrev pub extension_member : Identifier → List Token
extension_member identifier = text_member (codes "extension") identifier.name.now

-- the numbers that a remark on a key has
unfoldable pub key_remark_members : KeyRemark → List Token
key_remark_members keys.NotDer = []
key_remark_members (keys.Refused at why) = object_member (codes "fault") (place_members at why)
key_remark_members keys.NegativeModulus = []
key_remark_members keys.EvenModulus = []
key_remark_members (keys.ShortModulus bits) = number_member (codes "bits") bits
key_remark_members keys.Exponent = []
key_remark_members (keys.SmallCurve bits) = number_member (codes "bits") bits

-- and one on a name
unfoldable pub name_remark_members : NameRemark → List Token
name_remark_members (names.AddressLength octets) = number_member (codes "octets") octets
name_remark_members names.DnsSyntax = []
name_remark_members names.Wildcard = []
name_remark_members names.PrintableString = []
name_remark_members names.Hidden = []
name_remark_members names.MailSyntax = []
name_remark_members names.UriSyntax = []
name_remark_members names.AddressAsDns = []
name_remark_members names.Twice = []

-- and one on the value of an attribute
unfoldable pub attribute_remark_members : AttributeRemark → List Token
attribute_remark_members attributes.Country = []
attribute_remark_members attributes.EmailType = []
attribute_remark_members attributes.OtherType = []
attribute_remark_members (attributes.Long characters most) =
    number_member (codes "characters") characters ++ number_member (codes "most_characters") most
attribute_remark_members attributes.Blank = []

-- and one on what a TLS server may not have
unfoldable pub tls_remark_members : TlsRemark → List Token
tls_remark_members (tls.ModulusBits bits) = number_member (codes "bits") bits
tls_remark_members tls.Exponent = []
tls_remark_members tls.Curve = []
tls_remark_members tls.KeyAlgorithm = []
tls_remark_members tls.CommonName = []
tls_remark_members tls.InternalName = []
tls_remark_members tls.ReservedAddress = []
tls_remark_members tls.AnyUsage = []
tls_remark_members tls.NamesNotCritical = []

-- the numbers that a remark has
unfoldable pub remark_members : Remark → List Token
remark_members (remarks.PointSize octets) = number_member (codes "octets") octets
remark_members remarks.PointBits = []
remark_members (remarks.PointHybrid octet) = number_member (codes "first_octet") octet
remark_members remarks.NoNamedCurve = []
remark_members remarks.ExtensionTwice = []
remark_members remarks.AttributeTwice = []
remark_members (remarks.SeveralValues count) = number_member (codes "values") count
remark_members (remarks.KeySize octets due) =
    number_member (codes "octets") octets ++ number_member (codes "due_octets") due
remark_members remarks.NeedlessParameters = []
remark_members (remarks.ExtensionNotDer name) = optional extension_member (option_map (λ r. r.now) name)
remark_members (remarks.ExtensionZeroBits name) = optional extension_member (option_map (λ r. r.now) name)
remark_members (remarks.ExtensionRefused name at why) =
    optional extension_member (option_map (λ r. r.now) name)
    ++ object_member (codes "fault") (place_members at why)
remark_members (remarks.Key remark) = key_remark_members remark
remark_members (remarks.Name remark) = name_remark_members remark
remark_members (remarks.Extension remark) = []
remark_members (remarks.Algorithm remark) = []
remark_members (remarks.Attribute remark) = attribute_remark_members remark
remark_members (remarks.Tls remark) = tls_remark_members remark

-- its code and its level
abbrev pub remark_words : Remark → List Token
remark_words remark =
    text_member (codes "what") (remark_code remark) ++ text_member (codes "level") (remark_level remark)

abbrev pub field_of_line : Report → Line → List Token
field_of_line report line = field_members report line.around line.step line.at

-- a remark
unfoldable pub note_members : Report → Note → List Token
note_members report note =
    optional (field_of_line report) (slice_get report.lines.items note.line)
    ++ remark_words note.remark ++ remark_members note.remark

abbrev pub note_object : Report → Note → List Token
note_object report note = object (note_members report note)
