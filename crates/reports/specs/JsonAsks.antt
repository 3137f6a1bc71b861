-- What an accepted request asks for, as tokens of JSON.
use Rattle.std.specs.Prelude.{List, [], codes, cond, length, not, string_bytes, ℕ, ◌++◌, ◌==◌, ◌||◌, ◌∷◌}
use Rattle.std.specs.Str.{bytes_eq}
use Rattle.json.specs.Token.{Token}
use Rattle.tlv_core.specs.Identifier.{Tag}
use Rattle.reports.specs.Asks.{address_said, each_in, each_start_in, field_name, from_field, has_bit, identifier_said, is_asking, is_critical, is_leaf, is_of, is_other, is_step, usage_name}
use Rattle.reports.specs.JsonKeys.{holds_member, key_member}
use Rattle.reports.specs.JsonLists.{carried_member, value_member, value_members}
use Rattle.reports.specs.JsonMembers.{boolean_member, item, list, list_member, number_member, object, object_member, optional, said_member, text_member}
use Rattle.reports.specs.Letters.{characters}
use Rattle.reports.specs.declared.report.Line.{Line}
use Rattle.reports.specs.declared.report.Report.{Report}
use Rattle.reports.specs.declared.report.Value.{Value}
use Rattle.reports.specs.declared.report.Value.TheVariants as values

-- what contents say: a string by its characters
abbrev pub said_value : Tag → Value → List Token
said_value tag (values.Characters octets) = text_member (codes "text") (characters tag octets.items)
said_value tag value = value_member value

-- The subject: a list for each relative name, and in it an object for each attribute.

abbrev pub name_member : Line → List Token
name_member line =
    cond (is_step (codes "type") line.step) (value_members line.value)
    (cond (is_step (codes "value") line.step) (said_value line.tag line.value) [])

abbrev pub name_object : Line → List Line → List Token
name_object line lines =
    cond (is_of (codes "AttributeTypeAndValue") line) (object (each_in name_member line.depth lines)) []

abbrev pub relative_name : Line → List Line → List Token
relative_name line lines =
    cond (is_of (codes "RelativeDistinguishedName") line) (list (each_start_in name_object line.depth lines)) []

abbrev pub subject_member : List Line → List Token
subject_member [] = []
subject_member (line ∷ lines) = list_member (codes "subject") (each_start_in relative_name line.depth lines)

-- Attributes but those of extensions, by their names.

abbrev pub attribute_name : List Line → List Token
attribute_name [] = []
attribute_name (line ∷ lines) = cond (is_other line.value) (item (identifier_said line.value)) []

abbrev pub attribute_item : Line → List Line → List Token
attribute_item line lines = cond (is_of (codes "RequestAttribute") line) (attribute_name lines) []

abbrev pub attributes_member : List Line → List Token
attributes_member [] = []
attributes_member (line ∷ lines) = list_member (codes "attributes") (each_start_in attribute_item line.depth lines)

-- Extensions.

-- the key of a name of this type (RFC 5280 section 4.2.1.6)
abbrev pub name_key : List ℕ → List ℕ
name_key name =
    cond (bytes_eq name (codes "dNSName")) (codes "dns")
    (cond (bytes_eq name (codes "rfc822Name")) (codes "email")
    (cond (bytes_eq name (codes "uniformResourceIdentifier")) (codes "uri")
    (cond (bytes_eq name (codes "iPAddress")) (codes "ip")
    (cond (bytes_eq name (codes "registeredID")) (codes "oid") []))))

-- what a name of these types says
abbrev pub name_said : Tag → Value → List ℕ
name_said tag (values.Characters octets) = characters tag octets.items
name_said tag (values.Octets octets) = address_said octets.items
name_said tag (values.Named identifier) = identifier.now.arcs.now
name_said tag (values.Arcs arcs) = string_bytes arcs
name_said tag value = []

abbrev pub fact_members : Line → List ℕ → List Token
fact_members line key =
    cond (length key == 0) (said_member (codes "field") (field_name line.step) ++ said_value line.tag line.value)
    (text_member key (name_said line.tag line.value))

abbrev pub usage_item : List ℕ → ℕ → List Token
usage_item contents number = cond (has_bit contents number) (item (usage_name number)) []

unfoldable pub three_usages : List ℕ → ℕ → ℕ → ℕ → List Token
three_usages contents first second third =
    usage_item contents first ++ usage_item contents second ++ usage_item contents third

unfoldable pub usage_items : List ℕ → List Token
usage_items contents = three_usages contents 0 1 2 ++ three_usages contents 3 4 5 ++ three_usages contents 6 7 8

abbrev pub usages_in : Value → List Token
usages_in (values.Octets contents) = usage_items contents.items
usages_in value = []

-- a leaf of what stands in an extension
abbrev pub fact_item : Line → List Token
fact_item line =
    cond (not (is_leaf line)) []
    (cond (is_of (codes "KeyUsage") line) (usages_in line.value)
    (object (fact_members line (name_key line.type_name.now))))

-- what the list of these is called, by the name of the extension
abbrev pub list_name : List ℕ → List ℕ
list_name name =
    cond (bytes_eq name (codes "subjectAltName") || bytes_eq name (codes "issuerAltName")) (codes "names")
    (cond (bytes_eq name (codes "keyUsage")) (codes "bits") (codes "values"))

-- what the value of an extension is as one of its type
abbrev pub verdict_part : Line → List Token
verdict_part line = cond (is_step (codes "extnValue") line.step) (optional carried_member line.carries) []

unfoldable pub extension_members : ℕ → ℕ → Line → List Line → List Token
extension_members at depth line lines =
    value_members line.value ++ boolean_member (codes "critical") (is_critical lines) ++ number_member (codes "at") at
    ++ each_in verdict_part depth lines ++ list_member (list_name (identifier_said line.value)) (each_in fact_item depth lines)

abbrev pub extension_object : ℕ → ℕ → List Line → List Token
extension_object at depth [] = []
extension_object at depth (line ∷ lines) = object (extension_members at depth line lines)

abbrev pub extension_item : Line → List Line → List Token
extension_item line lines = cond (is_of (codes "Extension") line) (extension_object line.at line.depth lines) []

abbrev pub extensions_member : List Line → List Token
extensions_member [] = []
extensions_member (line ∷ lines) = list_member (codes "extensions") (each_start_in extension_item line.depth lines)

unfoldable pub part_members : List Line → List Line → List Line → List Line → List Token
part_members subject key algorithm lines =
    subject_member subject ++ key_member (codes "key") key ++ key_member (codes "signature") algorithm
    ++ attributes_member lines ++ extensions_member lines

abbrev pub asked_members : List Line → List Token
asked_members lines =
    part_members (from_field (codes "subject") lines) (from_field (codes "subjectPKInfo") lines)
    (from_field (codes "signatureAlgorithm") lines) lines

-- What an accepted document says of itself: what a request asks for, and what a key is.
abbrev pub summary_member : Report → List Token
summary_member report =
    cond (is_asking report) (object_member (codes "asks") (asked_members report.lines.items)) (holds_member report)
