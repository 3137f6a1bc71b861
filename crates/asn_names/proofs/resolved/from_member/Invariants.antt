use Rattle.std.proofs.Common.{◌≡◌, length}
use Rattle.asn_names.specs.Resolving.{from_member}
use Rattle.asn_names.proofs.resolved.from_member.Given as goal

abbrev pub invariant-loop-rest : goal.invariant-loop-rest
invariant-loop-rest l = from_member l.depth l.left l.rest ≡ from_member l.depth l.number l.elements

abbrev pub decreases-loop-rest : goal.decreases-loop-rest
decreases-loop-rest l = length l.rest
