use Rattle.std.proofs.Common.{◌≡◌, ◌++◌, flat_map, length, string_bytes}
use Rattle.reports.specs.Notes.{plain_note}
use Rattle.reports.proofs.notes.push_plain_notes.Given as goal

abbrev pub invariant-loop-left : goal.invariant-loop-left
invariant-loop-left l =
    string_bytes l.text ++ flat_map (plain_note l.report) l.left
    ≡ string_bytes l.fn.text ++ flat_map (plain_note l.report) l.notes

abbrev pub decreases-loop-left : goal.decreases-loop-left
decreases-loop-left l = length l.left
