use Rattle.std.proofs.Common.{length, ◌≡◌}
use Rattle.explain.specs.TextGuesses.{without_blanks}
use Rattle.explain.proofs.guess.texts.without_blanks.Given as goal

abbrev pub invariant-loop-left : goal.invariant-loop-left
invariant-loop-left l = without_blanks l.left ≡ without_blanks l.octets

abbrev pub decreases-loop-left : goal.decreases-loop-left
decreases-loop-left l = length l.left
