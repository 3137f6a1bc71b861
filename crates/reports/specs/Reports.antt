-- The text of a report.
use Rattle.std.specs.Prelude.{Bool, List, None, Option, Some, [], codes, cond, decimal, flat_map, length, ℕ, ◌++◌, ◌==◌}
use Rattle.tlv_core.specs.declared.reason.Reason.{Reason}
use Rattle.reports.specs.Field.{field_said}
use Rattle.reports.specs.Hints.{do_said, likely_said}
use Rattle.reports.specs.Summaries.{summary_lines}
use Rattle.reports.specs.Listings.{listing}
use Rattle.reports.specs.Notes.{note_said}
use Rattle.reports.specs.Texts.{line_feed}
use Rattle.reports.specs.Words.{due_said, found_said, place_said, sized}
use Rattle.reports.specs.Wraps.{labelled_line}
use Rattle.reports.specs.declared.report.Answer.{Answer}
use Rattle.reports.specs.declared.report.Answer.TheVariants.{Der, NotDer, Refused}
use Rattle.reports.specs.declared.report.Note.{Note}
use Rattle.reports.specs.declared.report.Report.{Report}

-- the kind, and the number of octets
unfoldable pub head_line : Report → List ℕ
head_line report = report.kind.word.now ++ codes ", " ++ sized report.octets ++ line_feed

-- the place and reason of a fault inside, where there is one
abbrev pub inside_said : Option (ℕ × Reason) → List ℕ
inside_said None = []
inside_said (Some inside) = codes " inside at " ++ place_said inside.0 inside.1

-- what `check` answers, in its words
abbrev pub answer_line : Answer → List ℕ
answer_line Der = codes "DER" ++ line_feed
answer_line (NotDer at) = codes "not DER at " ++ decimal at ++ line_feed
answer_line (Refused fault) =
    codes "fault at " ++ place_said fault.at fault.why ++ inside_said fault.inside ++ line_feed

-- The field, what is due there, what is there, the usual cause, and what to do.
unfoldable pub refused_lines : Report → List ℕ
refused_lines report =
    line_feed ++ labelled_line (codes "field   ") (field_said report)
    ++ labelled_line (codes "due     ") (due_said report)
    ++ labelled_line (codes "found   ") (found_said report) ++ labelled_line (codes "likely  ") (likely_said report)
    ++ labelled_line (codes "do      ") (do_said report)

abbrev pub answer_lines : Answer → Report → List ℕ
answer_lines Der report = []
answer_lines (NotDer at) report = refused_lines report
answer_lines (Refused fault) report = refused_lines report

unfoldable pub note_line : Report → Note → List ℕ
note_line report note = labelled_line (codes "note    ") (note_said report note)

unfoldable pub note_lines : Report → List Note → List ℕ
note_lines report notes = cond (length notes == 0) [] (line_feed ++ flat_map (note_line report) notes)

-- The text of a report, with all lines of the listing or some: of those that aren't in DER so many.
abbrev pub report_lines : Report → Bool → ℕ → List ℕ
report_lines report all places =
    head_line report ++ answer_line report.answer ++ summary_lines report ++ listing report all places
    ++ answer_lines report.answer report ++ note_lines report report.notes.items
