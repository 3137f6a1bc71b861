use Rattle.std.proofs.Common.{length, ◌≡◌}
use Rattle.explain.specs.Insides.{inside_at}
use Rattle.explain.proofs.document.inside.inside_at.Given as goal

abbrev pub invariant-loop-left : goal.invariant-loop-left
invariant-loop-left l =
    inside_at l.elements l.left l.at ≡ inside_at l.elements l.insides l.at

abbrev pub decreases-loop-left : goal.decreases-loop-left
decreases-loop-left l = length l.left
