use Rattle.std.proofs.Common.{length, map, ◌++◌, ◌≡◌}
use Rattle.explain.specs.Causes.{own_cause}
use Rattle.explain.proofs.listing.causes.own_causes.Given as goal

abbrev pub invariant-loop-left : goal.invariant-loop-left
invariant-loop-left l = l.causes.items ++ map (own_cause l.octets) l.left ≡ map (own_cause l.octets) l.elements

abbrev pub decreases-loop-left : goal.decreases-loop-left
decreases-loop-left l = length l.left
