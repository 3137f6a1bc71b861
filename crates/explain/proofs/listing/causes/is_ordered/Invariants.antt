use Rattle.std.proofs.Common.{length, ◌∷◌, ◌≡◌}
use Rattle.asn_elements.specs.Members.{ascends}
use Rattle.explain.specs.Causes.{member_encodings}
use Rattle.explain.proofs.listing.causes.is_ordered.Given as goal

abbrev pub invariant-loop-left : goal.invariant-loop-left
invariant-loop-left l =
    ascends (l.before ∷ member_encodings l.octets l.depth l.left)
    ≡ ascends (member_encodings l.octets l.depth l.elements)

abbrev pub decreases-loop-left : goal.decreases-loop-left
decreases-loop-left l = length l.left
