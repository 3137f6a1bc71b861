use Rattle.std.proofs.Common.{drop, reverse, ◌≡◌}
use Rattle.explain.specs.Notes.{is_repeated, is_said}
use Rattle.explain.proofs.notes.is_repeated.Given as goal

abbrev pub invariant-loop-back : goal.invariant-loop-back
invariant-loop-back l = is_said l.most l.line (drop l.back (reverse l.before)) ≡ is_repeated l.before l.line
