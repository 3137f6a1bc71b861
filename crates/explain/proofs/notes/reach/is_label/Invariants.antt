use Rattle.std.proofs.Common.{◌≡◌, length}
use Rattle.explain.specs.Reach.{is_label}
use Rattle.explain.proofs.notes.reach.is_label.Given as goal

abbrev pub invariant-loop-left : goal.invariant-loop-left
invariant-loop-left l = is_label l.left l.letters ≡ is_label l.label l.word

abbrev pub decreases-loop-left : goal.decreases-loop-left
decreases-loop-left l = length l.left
