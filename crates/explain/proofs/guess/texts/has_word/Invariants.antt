use Rattle.std.proofs.Common.{length, ◌≡◌}
use Rattle.explain.specs.TextGuesses.{has_word}
use Rattle.explain.proofs.guess.texts.has_word.Given as goal

abbrev pub invariant-loop-left : goal.invariant-loop-left
invariant-loop-left l = has_word l.word l.left ≡ has_word l.word l.text

abbrev pub decreases-loop-left : goal.decreases-loop-left
decreases-loop-left l = length l.left
