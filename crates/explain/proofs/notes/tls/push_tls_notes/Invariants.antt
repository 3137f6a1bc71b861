use Rattle.std.proofs.Common.{drop, length, take, ◌++◌, ◌≡◌, ◌≤◌}
use Rattle.explain.specs.Notes.{most_notes}
use Rattle.explain.specs.ProfileNotes.{tls_notes_from, tls_notes_on}
use Rattle.explain.proofs.notes.tls.push_tls_notes.Given as goal

abbrev pub invariant-loop-i : goal.invariant-loop-i
invariant-loop-i l = record {
  few : length l.notes.items ≤ most_notes;
  are : take most_notes (l.notes.items ++ tls_notes_from l.lines l.context l.i (drop l.i l.lines))
      ≡ take most_notes (l.fn.notes.items ++ tls_notes_on l.lines);
}
