use Rattle.std.proofs.Common.{length, ◌≡◌}
use Rattle.explain.specs.Listings.{most_lines, with_inside}
use Rattle.explain.proofs.listing.most_lines.Given as goal

abbrev pub invariant-loop-left : goal.invariant-loop-left
invariant-loop-left l = with_inside l.count l.left ≡ most_lines l.elements l.insides

abbrev pub decreases-loop-left : goal.decreases-loop-left
decreases-loop-left l = length l.left
