-- The listing: which lines of the elements are shown.
use Rattle.std.specs.Prelude.{Bool, List, None, Option, Some, [], codes, cond, decimal, length, max, min, nat_le, not, slice_get, true, false, ℕ, ◌*◌, ◌+◌, ◌++◌, ◌-◌, ◌&&◌, ◌==◌, ◌||◌, ◌∷◌}
use Rattle.reports.specs.Asks.{is_asking}
use Rattle.reports.specs.Picks.{causes, numbers_from, start_of}
use Rattle.reports.specs.Lines.{blanks, line_lines}
use Rattle.reports.specs.Texts.{line_feed}
use Rattle.reports.specs.declared.picks.Pick.TheVariants.{Causes, Fault}
use Rattle.reports.specs.declared.report.Answer.{Answer}
use Rattle.reports.specs.declared.report.Answer.TheVariants.{Der, NotDer, Refused}
use Rattle.reports.specs.declared.report.Diagnosis.{Diagnosis}
use Rattle.reports.specs.declared.report.Length.{Length}
use Rattle.reports.specs.declared.report.Line.{Line}
use Rattle.reports.specs.declared.report.Report.{Report}
use Rattle.reports.specs.declared.text_lines.Layout.{Layout}

-- the digits of the last line's place
abbrev pub place_width : Option Line → ℕ
place_width None = 0
place_width (Some line) = length (decimal line.at)

abbrev pub place_columns : List Line → ℕ
place_columns lines = place_width (slice_get lines (length lines - 1))

-- the columns of a header of at most 6 octets, two for each and a blank between
abbrev pub width_of : Option Length → ℕ
width_of None = 0
width_of (Some announced) = 3 * min announced.header 6 - 1

unfoldable pub header_width : Line → ℕ
header_width line = width_of line.length

-- the widest of these, and of so many columns
abbrev pub header_columns : ℕ → List Line → ℕ
header_columns widest [] = widest
header_columns widest (line ∷ lines) = header_columns (max widest (header_width line)) lines

abbrev pub fault_line : Option Diagnosis → Option ℕ
fault_line None = None
fault_line (Some diagnosis) = diagnosis.line

unfoldable pub layout_of : Report → List Line → Layout
layout_of report lines =
    record { place = place_columns lines; header = header_columns 0 lines; fault = fault_line report.diagnosis }

-- lines from the one of this number on
abbrev pub all_lines : Layout → ℕ → List Line → List ℕ
all_lines layout number [] = []
all_lines layout number (line ∷ lines) = line_lines layout number line ++ all_lines layout (number + 1) lines

-- how many lines are left out between two, where that is said
unfoldable pub gap : Layout → Bool → ℕ → ℕ → List ℕ
gap layout gaps last next =
    let count = next - last - 1 in
    cond (not gaps || (count == 0)) []
    (blanks layout.place ++ codes "  ...  (" ++ decimal count ++ cond (count == 1) (codes " line") (codes " lines")
    ++ codes " left out; --all has them)" ++ line_feed)

abbrev pub line_of : Layout → ℕ → Option Line → List ℕ
line_of layout number None = []
line_of layout number (Some line) = line_lines layout number line

abbrev pub line_at : Layout → List Line → ℕ → List ℕ
line_at layout lines number = line_of layout number (slice_get lines number)

-- The lines of these numbers after the last one, and how many are left out between.
abbrev pub listed : Layout → Bool → List Line → ℕ → List ℕ → List ℕ
listed layout gaps lines last [] = gap layout gaps last (length lines)
listed layout gaps lines last (number ∷ numbers) =
    gap layout gaps last number ++ line_at layout lines number ++ listed layout gaps lines number numbers

-- how many places that aren't in DER aren't shown
unfoldable pub others_said : ℕ → List ℕ
others_said others =
    cond (others == 0) []
    (codes "...  (places that aren't in DER left out: " ++ decimal others ++ (codes "; --all has them)" ++ line_feed))

-- The lines that lead to the first places that aren't in DER, so many, and how many more there are.
unfoldable pub causes_listing : ℕ → Layout → List Line → List ℕ
causes_listing places layout lines =
    listed layout false lines 0 (numbers_from Causes (start_of lines (causes lines - places)) 0 lines)
    ++ others_said (causes lines - places)

-- the line at fault, or the last one
abbrev pub fault_or_last : Option ℕ → ℕ → ℕ
fault_or_last None count = count - 1
fault_or_last (Some fault) count = fault

-- All lines where they are 16 or fewer. Else the first 4, those that the fault is in, and the last 7 up to it.
unfoldable pub some_listing : Layout → List Line → List ℕ
some_listing layout lines =
    cond (nat_le (length lines) 16) (all_lines layout 0 lines)
    (listed layout true lines 0
    (numbers_from (Fault (fault_or_last layout.fault (length lines))) (start_of lines 0) 0 lines))

-- the lines of a document that is judged so, where not all are shown
abbrev pub answer_listing : Answer → ℕ → Layout → List Line → List ℕ
answer_listing (NotDer at) places layout lines = causes_listing places layout lines
answer_listing Der places layout lines = some_listing layout lines
answer_listing (Refused fault) places layout lines = some_listing layout lines

abbrev pub lines_listing : Answer → Bool → ℕ → Layout → List Line → List ℕ
lines_listing answer all places layout lines =
    cond (length lines == 0) []
    (line_feed ++ cond all (all_lines layout 0 lines) (answer_listing answer places layout lines))

abbrev pub is_in_der : Answer → Bool
is_in_der Der = true
is_in_der (NotDer at) = false
is_in_der (Refused fault) = false

-- Of a document in DER of which is said what it asks for, and nothing is noted, no line is shown but where all are wanted.
abbrev pub is_left_out : Report → Bool → Bool
is_left_out report all =
    not all && is_in_der report.answer && is_asking report && (length report.notes.items == 0)

-- The listing of a report.
abbrev pub listing : Report → Bool → ℕ → List ℕ
listing report all places =
    cond (is_left_out report all) []
    (lines_listing report.answer all places (layout_of report report.lines.items) report.lines.items)
