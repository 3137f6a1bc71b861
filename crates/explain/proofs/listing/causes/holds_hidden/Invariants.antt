use Rattle.std.proofs.Common.{length, ◌≡◌}
use Rattle.explain.specs.Causes.{holds_hidden}
use Rattle.explain.proofs.listing.causes.holds_hidden.Given as goal

abbrev pub invariant-loop-left : goal.invariant-loop-left
invariant-loop-left l = holds_hidden l.depth l.left ≡ holds_hidden l.depth l.elements

abbrev pub decreases-loop-left : goal.decreases-loop-left
decreases-loop-left l = length l.left
