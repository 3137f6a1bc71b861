-- A line of the listing: an element.
use Rattle.std.specs.Prelude.{Bool, List, None, Option, Some, [], codes, cond, decimal, false, length, max, min, replicate, suc, zero, ℕ, ◌%◌, ◌+◌, ◌++◌, ◌-◌, ◌/◌, ◌==◌, ◌∷◌, nat_lt, string_bytes}
use Rattle.tlv_core.specs.Identifier.{Tag, identifier}
use Rattle.asn_names.specs.declared.element.Step.{Step}
use Rattle.asn_names.specs.declared.element.Step.TheVariants.{Field, Member, Outermost, Outside, Segment}
use Rattle.reports.specs.Hints.{cause_said}
use Rattle.reports.specs.Picks.{is_place_alone}
use Rattle.reports.specs.Texts.{line_feed, octets_text, quoted}
use Rattle.reports.specs.TypeWords.{tag_said}
use Rattle.reports.specs.Words.{sized}
use Rattle.reports.specs.declared.report.Cause.{Cause}
use Rattle.reports.specs.declared.report.Length.{Length}
use Rattle.reports.specs.declared.report.Line.{Line}
use Rattle.reports.specs.declared.report.Value.{Value}
use Rattle.reports.specs.declared.report.Value.TheVariants as values
use Rattle.reports.specs.declared.text_lines.Layout.{Layout}

abbrev pub blanks : ℕ → List ℕ
blanks count = replicate count 32

-- a place, right-aligned, and two blanks
unfoldable pub place_column : ℕ → ℕ → List ℕ
place_column width at = blanks (width - length (decimal at)) ++ decimal at ++ codes "  "

-- carets under a header of so many columns, at least two
unfoldable pub carets : ℕ → ℕ → List ℕ
carets place size = blanks place ++ codes "  " ++ replicate (max size 2) 94

-- a number in so many octets, the most significant first
abbrev pub number_in : ℕ → ℕ → List ℕ
number_in zero number = []
number_in (suc count) number = number_in count (number / 256) ++ (number % 256) ∷ []

-- So many length octets, which announce this: one is the length itself (X.690 8.1.3.4), else the first one shows how
-- many there are after it (8.1.3.5); 80 is the indefinite form (8.1.3.6).
unfoldable pub length_octets : ℕ → Option ℕ → List ℕ
length_octets count None = 128 ∷ []
length_octets count (Some contents) =
    cond (nat_lt count 2) ((contents % 256) ∷ []) ((128 + (count - 1)) ∷ number_in (count - 1) contents)

-- the octets of a header (8.1.2, 8.1.3)
abbrev pub header_octets : Tag → Bool → Length → List ℕ
header_octets tag constructed announced =
    identifier tag constructed
    ++ length_octets (min (announced.header - length (identifier tag constructed)) 127) announced.contents

abbrev pub header_of : Tag → Bool → Option Length → List ℕ
header_of tag constructed None = []
header_of tag constructed (Some announced) = octets_text (header_octets tag constructed announced)

-- the octets of a header in hexadecimal digits; empty where they aren't shown
abbrev pub header_text : Line → List ℕ
header_text line = header_of line.tag line.constructed line.length

-- the type of an element by its name, where it has one, else by its tag
unfoldable pub type_said : Line → List ℕ
type_said line = cond (length line.type_name.now == 0) (tag_said line.tag) line.type_name.now

-- The name of an element: that of its field, its number, or that of its type.
abbrev pub step_said : Line → Step → List ℕ
step_said line Outermost = type_said line
step_said line (Field name) = cond (length name.now == 0) (type_said line) name.now
step_said line (Member number) = codes "[" ++ decimal number ++ codes "]"
step_said line (Segment number) = codes "segment " ++ decimal number
step_said line Outside = codes "(no field)"

unfoldable pub name_said : Line → List ℕ
name_said line = step_said line line.step

-- how many contents octets are announced
abbrev pub announced_part : Option ℕ → List ℕ
announced_part (Some octets) = codes ", " ++ sized octets
announced_part None = codes ", indefinite length"

abbrev pub contents_part : Option Length → List ℕ
contents_part None = []
contents_part (Some announced) = announced_part announced.contents

-- the place where an element ends
abbrev pub end_part : Option ℕ → List ℕ
end_part None = []
end_part (Some end) = codes ", to " ++ decimal end

-- of an element that isn't a container: its type and the length that it announces
unfoldable pub unread : Line → List ℕ
unread line = cond line.constructed [] (codes ": " ++ tag_said line.tag ++ contents_part line.length)

-- the type of contents, and how many octets they have
unfoldable pub sized_part : Line → ℕ → List ℕ
sized_part line octets = codes ": " ++ tag_said line.tag ++ codes " " ++ sized octets

-- how many bits of the last octet are unused, where some are
unfoldable pub unused_part : ℕ → List ℕ
unused_part unused = cond (unused == 0) [] (codes ", unused bits: " ++ decimal unused)

-- what is shown of contents
abbrev pub shown : Line → Value → List ℕ
shown line values.Nothing = unread line
shown line values.NotShown = codes ", not shown"
shown line (values.Size octets) = sized_part line octets
shown line (values.Bits octets unused first) = sized_part line octets ++ unused_part unused
shown line values.Null = codes ": NULL"
shown line (values.Boolean value) = cond value (codes ": TRUE") (codes ": FALSE")
shown line (values.Number number) = codes ": " ++ decimal number
shown line (values.Named identifier) =
    codes ": " ++ identifier.now.name.now ++ codes " (" ++ identifier.now.arcs.now ++ codes ")"
shown line (values.Arcs arcs) = codes ": " ++ string_bytes arcs
shown line (values.Characters octets) = codes ": " ++ tag_said line.tag ++ codes " " ++ quoted octets.items
shown line (values.Octets octets) = sized_part line (length octets.items)

unfoldable pub value_part : Line → List ℕ
value_part line = shown line line.value

-- of a constructed element: its length and its end
unfoldable pub extent_part : Line → List ℕ
extent_part line = cond line.constructed (contents_part line.length ++ end_part line.end) []

-- an element: its name, its extent, and what is shown of its contents
unfoldable pub element_shown : Line → List ℕ
element_shown line = name_said line ++ extent_part line ++ value_part line

unfoldable pub element_said : Line → List ℕ
element_said line = cond (is_place_alone line.step line.value) (codes "(not shown)") (element_shown line)

-- below a line with a header of so many columns: why it isn't in DER
abbrev pub cause_line : Layout → ℕ → Option Cause → List ℕ
cause_line layout size None = []
cause_line layout size (Some cause) = carets layout.place size ++ codes "  not DER: " ++ cause_said cause ++ line_feed

-- whether the line at fault is that of this number
abbrev pub is_line : Option ℕ → ℕ → Bool
is_line None number = false
is_line (Some fault) number = fault == number

unfoldable pub below : Layout → ℕ → Line → ℕ → List ℕ
below layout number line size =
    cond (is_line layout.fault number) (carets layout.place size ++ line_feed) (cause_line layout size line.cause)

-- blanks after a text up to a column, and two more
unfoldable pub padding : ℕ → List ℕ → List ℕ
padding columns after = blanks (columns - length after) ++ codes "  "

-- what comes before an element: its place, its header, and two blanks for each element around it
unfoldable pub line_start : Layout → Line → List ℕ → List ℕ
line_start layout line header =
    place_column layout.place line.at ++ header ++ padding layout.header header ++ blanks line.depth
    ++ blanks line.depth

-- The line of this number, and what is below it.
unfoldable pub line_lines : Layout → ℕ → Line → List ℕ
line_lines layout number line =
    line_start layout line (header_text line) ++ element_said line ++ line_feed
    ++ below layout number line (length (header_text line))
