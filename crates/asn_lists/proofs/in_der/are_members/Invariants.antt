use Rattle.std.proofs.Common.{length}
use Rattle.asn_elements.specs.MembersInDer.{AreMembers}
use Rattle.asn_lists.proofs.in_der.are_members.Given as goal

abbrev pub invariant-loop-rest : goal.invariant-loop-rest
invariant-loop-rest g l =
    AreMembers l.limits.depth l.left g.T.Element.type_term l.rest
    → AreMembers l.limits.depth l.left g.T.Element.type_term l.octets

abbrev pub decreases-loop-rest : goal.decreases-loop-rest
decreases-loop-rest g l = length l.rest
