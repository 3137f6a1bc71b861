use Rattle.std.proofs.Common.{length, ◌≡◌}
use Rattle.explain.specs.TextGuesses.{after_line}
use Rattle.explain.proofs.guess.texts.after_line.Given as goal

abbrev pub invariant-loop-left : goal.invariant-loop-left
invariant-loop-left l = after_line l.left ≡ after_line l.text

abbrev pub decreases-loop-left : goal.decreases-loop-left
decreases-loop-left l = length l.left
