use Rattle.std.proofs.Common.{drop, ◌+◌, ◌≡◌, ◌≤◌}
use Rattle.explain.specs.Notes.{members_of}
use Rattle.explain.proofs.notes.members_of.Given as goal

abbrev pub invariant-loop-i : goal.invariant-loop-i
invariant-loop-i l = record {
  few : l.count ≤ l.i;
  all : l.count + members_of l.depth (drop l.i l.after) ≡ members_of l.depth l.after;
}
