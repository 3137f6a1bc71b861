-- What an accepted request asks for, in words, by the lines of its elements.
use Rattle.std.specs.Prelude.{Bool, List, None, Option, Some, [], codes, cond, decimal, false, length, nat_lt, not, slice_get, string_bytes, true, ℕ, ◌%◌, ◌&&◌, ◌++◌, ◌+◌, ◌-◌, ◌/◌, ◌==◌, ◌^◌, ◌∷◌}
use Rattle.std.specs.Option.{is_some}
use Rattle.std.specs.Str.{bytes_eq}
use Rattle.hex.specs.Hex.{encode_lower}
use Rattle.tlv_core.specs.Identifier.{Tag}
use Rattle.asn_names.specs.declared.element.Step.{Step}
use Rattle.asn_names.specs.declared.element.Step.TheVariants.{Field, Member, Outermost, Outside, Segment}
use Rattle.reports.specs.Letters.{letters}
use Rattle.reports.specs.Picks.{first_ones}
use Rattle.reports.specs.Texts.{line_feed}
use Rattle.reports.specs.Words.{sized}
use Rattle.reports.specs.declared.report.Answer.{Answer}
use Rattle.reports.specs.declared.report.Answer.TheVariants.{Der, NotDer, Refused}
use Rattle.reports.specs.declared.report.Carried.{Carried}
use Rattle.reports.specs.declared.report.Carried.TheVariants as carried
use Rattle.reports.specs.declared.report.Length.{Length}
use Rattle.reports.specs.declared.report.Line.{Line}
use Rattle.reports.specs.declared.report.Report.{Report}
use Rattle.reports.specs.declared.report.Value.{Value}
use Rattle.reports.specs.declared.report.Value.TheVariants as values

-- Of the lines after an element's own, those that are in it: each said.
abbrev pub each_in : {A : Type 0} → (Line → List A) → ℕ → List Line → List A
each_in said depth [] = []
each_in said depth (line ∷ lines) = cond (nat_lt depth line.depth) (said line ++ each_in said depth lines) []

-- the same, each said by those after it, too
abbrev pub each_start_in : {A : Type 0} → (Line → List Line → List A) → ℕ → List Line → List A
each_start_in said depth [] = []
each_start_in said depth (line ∷ lines) =
    cond (nat_lt depth line.depth) (said line lines ++ each_start_in said depth lines) []

-- a line is of a type of this name
abbrev pub is_of : List ℕ → Line → Bool
is_of name line = bytes_eq line.type_name.now name

-- it is the field of this name
abbrev pub is_step : List ℕ → Step → Bool
is_step name (Field own) = bytes_eq own.now name
is_step name Outermost = false
is_step name (Member number) = false
is_step name (Segment number) = false
is_step name Outside = false

-- lines from the first on that is the field of this name
abbrev pub from_field : List ℕ → List Line → List Line
from_field name [] = []
from_field name (line ∷ lines) = cond (is_step name line.step) (line ∷ lines) (from_field name lines)

-- an object identifier by its usual name, or by its arcs
abbrev pub identifier_said : Value → List ℕ
identifier_said (values.Named identifier) = identifier.now.name.now
identifier_said (values.Arcs arcs) = string_bytes arcs
identifier_said value = []

abbrev pub is_identifier : Value → Bool
is_identifier (values.Named identifier) = true
is_identifier (values.Arcs arcs) = true
is_identifier value = false

-- octets in hexadecimal digits, 32 at most
abbrev pub first_octets : List ℕ → List ℕ
first_octets octets = encode_lower (first_ones 32 octets) ++ cond (nat_lt 32 (length octets)) (codes "..") []

-- what the contents of an element say, in a distinguished name or elsewhere
abbrev pub value_said : Bool → Tag → Value → List ℕ
value_said in_name tag values.Nothing = codes "constructed"
value_said in_name tag values.NotShown = codes "not shown"
value_said in_name tag (values.Size octets) = sized octets
value_said in_name tag (values.Bits octets unused first) = sized octets
value_said in_name tag values.Null = codes "NULL"
value_said in_name tag (values.Boolean is) = cond is (codes "TRUE") (codes "FALSE")
value_said in_name tag (values.Number number) = decimal number
value_said in_name tag (values.Named identifier) = identifier.now.name.now
value_said in_name tag (values.Arcs arcs) = string_bytes arcs
value_said in_name tag (values.Characters octets) = letters in_name tag octets.items
value_said in_name tag (values.Octets octets) = first_octets octets.items

-- The subject: its attributes in their order, a comma between relative names, a plus sign in one of several.

-- the names of attributes that have short ones (RFC 4514 section 3)
abbrev pub short_name : List ℕ → List ℕ
short_name name =
    cond (bytes_eq name (codes "commonName")) (codes "CN")
    (cond (bytes_eq name (codes "countryName")) (codes "C")
    (cond (bytes_eq name (codes "localityName")) (codes "L")
    (cond (bytes_eq name (codes "stateOrProvinceName")) (codes "ST")
    (cond (bytes_eq name (codes "street")) (codes "STREET")
    (cond (bytes_eq name (codes "organizationName")) (codes "O")
    (cond (bytes_eq name (codes "organizationalUnitName")) (codes "OU")
    (cond (bytes_eq name (codes "domainComponent")) (codes "DC")
    (cond (bytes_eq name (codes "uid")) (codes "UID") name))))))))

abbrev pub type_said : Value → List ℕ
type_said (values.Named identifier) = short_name identifier.now.name.now
type_said value = identifier_said value

-- what stands before each member but the first
abbrev pub between : List ℕ → Step → List ℕ
between mark (Member number) = cond (number == 0) [] mark
between mark (Field name) = []
between mark Outermost = []
between mark (Segment number) = []
between mark Outside = []

abbrev pub subject_part : Line → List ℕ
subject_part line =
    cond (is_of (codes "RelativeDistinguishedName") line) (between (codes ", ") line.step)
    (cond (is_of (codes "AttributeTypeAndValue") line) (between (codes "+") line.step)
    (cond (is_step (codes "type") line.step) (type_said line.value ++ codes "=")
    (cond (is_step (codes "value") line.step) (value_said true line.tag line.value) [])))

-- one without attributes is empty
abbrev pub names_said : ℕ → List Line → List ℕ
names_said depth [] = codes "empty"
names_said depth (line ∷ lines) =
    cond (nat_lt depth line.depth) (each_in subject_part depth (line ∷ lines)) (codes "empty")

unfoldable pub subject_of : ℕ → List Line → List ℕ
subject_of depth lines = codes "  subject    " ++ names_said depth lines ++ line_feed

abbrev pub subject_line : List Line → List ℕ
subject_line [] = []
subject_line (line ∷ lines) = subject_of line.depth lines

-- What stands in an extension: a line for each leaf.

-- the word for a name of this type (RFC 5280 section 4.2.1.6)
abbrev pub name_word : List ℕ → List ℕ
name_word name =
    cond (bytes_eq name (codes "dNSName")) (codes "DNS")
    (cond (bytes_eq name (codes "rfc822Name")) (codes "email")
    (cond (bytes_eq name (codes "uniformResourceIdentifier")) (codes "URI")
    (cond (bytes_eq name (codes "iPAddress")) (codes "IP")
    (cond (bytes_eq name (codes "registeredID")) (codes "OID") []))))

abbrev pub field_name : Step → List ℕ
field_name (Field name) = name.now
field_name Outermost = []
field_name (Member number) = []
field_name (Segment number) = []
field_name Outside = []

-- the word for it, or the name of the field
abbrev pub fact_word : Line → List ℕ
fact_word line =
    cond (length (name_word line.type_name.now) == 0) (field_name line.step) (name_word line.type_name.now)

abbrev pub before_fact : List ℕ → List ℕ
before_fact word = cond (length word == 0) [] (word ++ codes " ")

-- a line of a fact
unfoldable pub told : List ℕ → List ℕ
told fact = codes "      " ++ fact ++ line_feed

-- an address of four octets, or of sixteen in eight groups
unfoldable pub dotted : ℕ → ℕ → ℕ → ℕ → List ℕ
dotted first second third last =
    decimal first ++ codes "." ++ decimal second ++ codes "." ++ decimal third ++ codes "." ++ decimal last

abbrev pub groups : List ℕ → List ℕ
groups (first ∷ (second ∷ [])) = encode_lower (first ∷ second ∷ [])
groups (first ∷ (second ∷ octets)) = encode_lower (first ∷ second ∷ []) ++ codes ":" ++ groups octets
groups octets = []

-- an address, and in a subtree a mask after it (RFC 5280 sections 4.2.1.6, 4.2.1.10)
abbrev pub address_said : List ℕ → List ℕ
address_said (a ∷ (b ∷ (c ∷ (d ∷ [])))) = dotted a b c d
address_said (a ∷ (b ∷ (c ∷ (d ∷ (e ∷ (f ∷ (g ∷ (h ∷ [])))))))) = dotted a b c d ++ codes "/" ++ dotted e f g h
address_said octets = cond (length octets == 16) (groups octets) (first_octets octets)

-- The bits of a keyUsage that are 1, by their numbers (RFC 5280 section 4.2.1.3).

abbrev pub bit_in : Option ℕ → ℕ → Bool
bit_in None number = false
bit_in (Some octet) number = ((octet / 2 ^ (7 - number % 8)) % 2) == 1

-- by the contents of a BIT STRING, whose first octet says how many bits at the end are unused (X.690 8.6.2)
unfoldable pub has_bit : List ℕ → ℕ → Bool
has_bit contents number = bit_in (slice_get contents (1 + number / 8)) number

abbrev pub usage_name : ℕ → List ℕ
usage_name number =
    cond (number == 0) (codes "digitalSignature")
    (cond (number == 1) (codes "nonRepudiation")
    (cond (number == 2) (codes "keyEncipherment")
    (cond (number == 3) (codes "dataEncipherment")
    (cond (number == 4) (codes "keyAgreement")
    (cond (number == 5) (codes "keyCertSign")
    (cond (number == 6) (codes "cRLSign")
    (cond (number == 7) (codes "encipherOnly") (codes "decipherOnly"))))))))

abbrev pub usage_line : List ℕ → ℕ → List ℕ
usage_line contents number = cond (has_bit contents number) (told (usage_name number)) []

unfoldable pub three_usages : List ℕ → ℕ → ℕ → ℕ → List ℕ
three_usages contents first second third =
    usage_line contents first ++ usage_line contents second ++ usage_line contents third

unfoldable pub usage_lines : List ℕ → List ℕ
usage_lines contents = three_usages contents 0 1 2 ++ three_usages contents 3 4 5 ++ three_usages contents 6 7 8

abbrev pub usages_said : Value → List ℕ
usages_said (values.Octets contents) = usage_lines contents.items
usages_said value = []

-- what a leaf says, an address by its type
abbrev pub fact_value : Line → Value → List ℕ
fact_value line (values.Octets octets) =
    cond (is_of (codes "iPAddress") line) (address_said octets.items) (first_octets octets.items)
fact_value line value = value_said false line.tag value

-- of the value of an extension that isn't in DER, isn't of its type, or whose type isn't known
abbrev pub carried_line : Line → Option Carried → List ℕ
carried_line line None = told (value_said false line.tag line.value ++ codes ", not looked into")
carried_line line (Some carried.Der) = []
carried_line line (Some carried.NotDer) = told (codes "not in DER")
carried_line line (Some (carried.Refused at why)) = told (codes "not of its type")

abbrev pub is_leaf : Line → Bool
is_leaf line = not line.constructed && is_some line.inside

-- what is said of a container without contents: that cA is FALSE stands nowhere in DER (RFC 5280 section 4.2.1.9)
abbrev pub is_zero : Option ℕ → Bool
is_zero None = false
is_zero (Some octets) = octets == 0

abbrev pub is_empty : Option Length → Bool
is_empty None = false
is_empty (Some length) = is_zero length.contents

abbrev pub empty_line : Line → List ℕ
empty_line line = told (cond (is_of (codes "BasicConstraints") line) (codes "cA FALSE") (codes "empty"))

abbrev pub container_line : Line → List ℕ
container_line line = cond (is_some line.inside && is_empty line.length) (empty_line line) []

abbrev pub fact_line : Line → List ℕ
fact_line line =
    cond (is_step (codes "extnValue") line.step) (carried_line line line.carries)
    (cond (not (is_leaf line)) (container_line line)
    (cond (is_of (codes "KeyUsage") line) (usages_said line.value)
    (told (before_fact (fact_word line) ++ fact_value line line.value))))

-- an extension is critical where that is TRUE
abbrev pub is_true : Value → Bool
is_true (values.Boolean is) = is
is_true value = false

abbrev pub is_critical : List Line → Bool
is_critical [] = false
is_critical (line ∷ lines) = is_step (codes "critical") line.step && is_true line.value

-- an extension by its name, and what stands in it
abbrev pub extension_said : ℕ → List Line → List ℕ
extension_said depth [] = []
extension_said depth (line ∷ lines) =
    codes "  " ++ identifier_said line.value ++ cond (is_critical lines) (codes ", critical") [] ++ line_feed
    ++ each_in fact_line depth lines

-- the usual name of an object identifier
abbrev pub usual_name : Value → List ℕ
usual_name (values.Named identifier) = identifier.now.name.now
usual_name value = []

-- an attribute of this type isn't one of extensions (RFC 2985 section 5.4.2)
abbrev pub is_other : Value → Bool
is_other value = not (bytes_eq (usual_name value) (codes "extensionRequest"))

-- how many octets the first value of an attribute has, by the lines after its type: that of the SET around it, and its
-- own
abbrev pub size_in : Value → Option ℕ
size_in (values.Size octets) = Some octets
size_in value = None

abbrev pub value_size : List Line → Option ℕ
value_size (around ∷ (value ∷ lines)) = size_in value.value
value_size lines = None

abbrev pub size_said : Option ℕ → List ℕ
size_said None = []
size_said (Some octets) = codes ", " ++ sized octets

unfoldable pub not_shown : Value → Option ℕ → List ℕ
not_shown value octets = codes "  " ++ identifier_said value ++ size_said octets ++ codes ", not shown\n"

-- another attribute by its name, and by the size of what it says
abbrev pub attribute_said : List Line → List ℕ
attribute_said [] = []
attribute_said (line ∷ lines) = cond (is_other line.value) (not_shown line.value (value_size lines)) []

-- what is said of an element, by the lines after its own
abbrev pub asked : Line → List Line → List ℕ
asked line lines =
    cond (is_of (codes "Extension") line) (extension_said line.depth lines)
    (cond (is_of (codes "RequestAttribute") line) (attribute_said lines) [])

abbrev pub is_accepted : Answer → Bool
is_accepted Der = true
is_accepted (NotDer place) = true
is_accepted (Refused fault) = false

-- it asks for something
abbrev pub is_asking : Report → Bool
is_asking report = is_accepted report.answer && bytes_eq report.kind.word.now (codes "request")

-- attributes and extensions in their order
abbrev pub others_said : List Line → List ℕ
others_said [] = []
others_said (line ∷ lines) = each_start_in asked line.depth lines
