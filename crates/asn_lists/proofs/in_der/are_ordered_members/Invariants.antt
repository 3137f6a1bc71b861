use Rattle.std.proofs.Common.{length}
use Rattle.asn_elements.proofs.MembersInDer.{GoesOn}
use Rattle.asn_lists.proofs.in_der.are_ordered_members.Given as goal

abbrev pub invariant-loop-rest : goal.invariant-loop-rest
invariant-loop-rest g l = GoesOn l.limits.depth l.left g.T.Element.type_term l.octets l.rest l.before

abbrev pub decreases-loop-rest : goal.decreases-loop-rest
decreases-loop-rest g l = length l.rest
