use Rattle.std.proofs.Common.{length, ◌-◌, ◌≡◌}
use Rattle.explain.proofs.Ordered.{own_before}
use Rattle.explain.proofs.listing.causes.causes_of.Given as goal

abbrev pub invariant-loop-back : goal.invariant-loop-back
invariant-loop-back l = l.causes.items ≡ own_before l.octets (length l.elements - l.back) l.elements
