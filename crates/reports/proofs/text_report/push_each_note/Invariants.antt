use Rattle.std.proofs.Common.{◌≡◌, ◌++◌, flat_map, length, string_bytes}
use Rattle.reports.specs.Reports.{note_line}
use Rattle.reports.proofs.text_report.push_each_note.Given as goal

abbrev pub invariant-loop-left : goal.invariant-loop-left
invariant-loop-left l =
    string_bytes l.text ++ flat_map (note_line l.report) l.left
    ≡ string_bytes l.fn.text ++ flat_map (note_line l.report) l.notes

abbrev pub decreases-loop-left : goal.decreases-loop-left
decreases-loop-left l = length l.left
