use Rattle.std.proofs.Common.{length, true, ◌≡◌}
use Rattle.explain.specs.TextGuesses.{block_from}
use Rattle.explain.proofs.guess.texts.block_from.Given as goal

abbrev pub invariant-loop-left : goal.invariant-loop-left
invariant-loop-left l = block_from l.any l.is_new l.left ≡ block_from l.any true l.text

abbrev pub decreases-loop-left : goal.decreases-loop-left
decreases-loop-left l = length l.left
