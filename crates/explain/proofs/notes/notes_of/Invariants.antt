use Rattle.std.proofs.Common.{drop, length, take, ◌++◌, ◌≡◌, ◌≤◌}
use Rattle.explain.specs.Notes.{most_notes, notes_from, notes_on}
use Rattle.explain.proofs.notes.notes_of.Given as goal

abbrev pub invariant-loop-i : goal.invariant-loop-i
invariant-loop-i l = record {
  few : length l.notes.items ≤ most_notes;
  are : take most_notes (l.notes.items ++ notes_from l.lines l.context l.i (drop l.i l.lines)) ≡ notes_on l.lines;
}
