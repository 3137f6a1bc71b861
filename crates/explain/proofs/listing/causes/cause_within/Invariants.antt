use Rattle.std.proofs.Common.{length, ◌≡◌}
use Rattle.explain.specs.Causes.{cause_within}
use Rattle.explain.proofs.listing.causes.cause_within.Given as goal

abbrev pub invariant-loop-left : goal.invariant-loop-left
invariant-loop-left l = cause_within l.depth l.left l.others ≡ cause_within l.depth l.elements l.causes

abbrev pub decreases-loop-left : goal.decreases-loop-left
decreases-loop-left l = length l.left
