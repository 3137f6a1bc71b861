-- Fields and values in words.
use Rattle.std.specs.Prelude.{Bool, List, None, Option, Some, [], codes, cond, decimal, drop, false, length, nat_lt, string_bytes, suc, true, zero, ℕ, ◌&&◌, ◌++◌, ◌==◌, ◌∷◌}
use Rattle.tlv_core.specs.Identifier.{Tag}
use Rattle.asn_names.specs.declared.element.Step.{Step}
use Rattle.asn_names.specs.declared.element.Step.TheVariants.{Field, Member}
use Rattle.reports.specs.Lines.{unused_part}
use Rattle.reports.specs.Paths.{path_text}
use Rattle.reports.specs.Picks.{path_to_line}
use Rattle.reports.specs.Texts.{quoted}
use Rattle.reports.specs.TypeWords.{tag_said}
use Rattle.reports.specs.Words.{sized}
use Rattle.reports.specs.declared.report.Length.{Length}
use Rattle.reports.specs.declared.report.Line.{Line}
use Rattle.reports.specs.declared.report.Value.{Value}
use Rattle.reports.specs.declared.report.Value.TheVariants as values

-- an element is a member of a list or a set
abbrev pub is_member : Step → Bool
is_member (Member number) = true
is_member step = false

-- what is under an explicit tag has no name
abbrev pub is_unnamed : Step → Bool
is_unnamed (Field name) = length name.now == 0
is_unnamed step = false

-- an object identifier by its name, or by its arcs; empty of what is none
abbrev pub identifier_said : Value → List ℕ
identifier_said (values.Named identifier) = identifier.now.name.now
identifier_said (values.Arcs arcs) = string_bytes arcs
identifier_said value = []

-- the type of what has these lines in it: the object identifier that comes first
abbrev pub kind_said : List Line → List ℕ
kind_said [] = []
kind_said (first ∷ lines) = identifier_said first.value

-- a text, or the other one where it is empty
abbrev pub or_else : List ℕ → List ℕ → List ℕ
or_else text other = cond (length text == 0) other text

-- of the first line, whose number is this, the type where it is a member, else that of what is around it
abbrev pub kind_with : (ℕ → List ℕ) → ℕ → List Line → List ℕ
kind_with along number [] = []
kind_with along number (line ∷ later) =
    or_else (cond (is_member line.step) (kind_said later) []) (cond (nat_lt line.around number) (along line.around) [])

-- the type of the innermost member that the line of this number is in, by so many steps at most
abbrev pub kind_along : ℕ → List Line → ℕ → List ℕ
kind_along zero lines number = []
kind_along (suc most) lines number = kind_with (λ around. kind_along most lines around) number (drop number lines)

-- a type in parentheses, where there is one
abbrev pub kind_part : List ℕ → List ℕ
kind_part kind = cond (length kind == 0) [] (codes " (" ++ kind ++ codes ")")

-- The field that the line of this number is: its path as `explain` has it, and the type of the innermost member of a
-- list or a set that it is in.
unfoldable pub field_said : List ℕ → List Line → ℕ → List ℕ
field_said root lines number =
    path_text root (path_to_line lines number) ++ kind_part (kind_along 200 lines number)

-- how many octets of contents a header announces
abbrev pub contents_said : Option Length → List ℕ
contents_said None = codes "not shown"
contents_said (Some announced) = elim announced.contents [ None ↦ codes "not shown" | Some octets ↦ sized octets ]

-- the arcs of an object identifier, where they are few
abbrev pub arcs_said : List ℕ → Option Length → List ℕ
arcs_said arcs announced = cond (nat_lt 64 (length arcs)) (contents_said announced) arcs

-- a character string with its type, where it is short
abbrev pub characters_said : Tag → List ℕ → List ℕ
characters_said tag octets =
    cond (nat_lt 64 (length octets)) (sized (length octets)) (tag_said tag ++ codes " " ++ quoted octets)

-- What is shown of the contents of an element: they themselves where they are public and short, else their number.
abbrev pub line_said : Line → Value → List ℕ
line_said line values.Nothing = contents_said line.length
line_said line values.NotShown = codes "not shown"
line_said line (values.Size octets) = sized octets
line_said line (values.Bits octets unused first) = sized octets ++ unused_part unused
line_said line values.Null = codes "NULL"
line_said line (values.Boolean value) = cond value (codes "TRUE") (codes "FALSE")
line_said line (values.Number number) = decimal number
line_said line (values.Named identifier) =
    identifier.now.name.now ++ codes " (" ++ identifier.now.arcs.now ++ codes ")"
line_said line (values.Arcs arcs) = arcs_said (string_bytes arcs) line.length
line_said line (values.Characters octets) = characters_said line.tag octets.items
line_said line (values.Octets octets) = sized (length octets.items)

-- an element is an explicit tag: what is in it has no name of its own
abbrev pub wraps : Line → List Line → Bool
wraps line [] = false
wraps line (next ∷ lines) = nat_lt line.depth next.depth && is_unnamed next.step

-- The value of the first line; of what is under an explicit tag alone that.
abbrev pub value_said : List Line → List ℕ
value_said [] = []
value_said (line ∷ lines) = cond (wraps line lines) (value_said lines) (line_said line line.value)
