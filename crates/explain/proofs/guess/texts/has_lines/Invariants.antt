use Rattle.std.proofs.Common.{length, ◌≡◌}
use Rattle.explain.specs.TextGuesses.{has_lines, has_lines_from}
use Rattle.explain.proofs.guess.texts.has_lines.Given as goal

abbrev pub invariant-loop-left : goal.invariant-loop-left
invariant-loop-left l = has_lines_from l.previous l.one l.two l.left ≡ has_lines l.octets

abbrev pub decreases-loop-left : goal.decreases-loop-left
decreases-loop-left l = length l.left
