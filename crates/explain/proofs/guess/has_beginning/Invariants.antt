use Rattle.std.proofs.Common.{false, length, ◌≡◌}
use Rattle.explain.specs.Guesses.{has_beginning}
use Rattle.explain.proofs.guess.has_beginning.Given as goal

abbrev pub invariant-loop-left : goal.invariant-loop-left
invariant-loop-left l =
    has_beginning l.octets l.field l.is_begun l.left ≡ has_beginning l.octets l.field false l.elements

abbrev pub decreases-loop-left : goal.decreases-loop-left
decreases-loop-left l = length l.left
