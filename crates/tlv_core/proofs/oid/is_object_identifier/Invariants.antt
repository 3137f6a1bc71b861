use Rattle.std.proofs.Common.{List, ℕ, length}
use Rattle.tlv_core.proofs.ObjectIdentifiers.{ArcsBefore}
use Rattle.tlv_core.proofs.oid.is_object_identifier.Given as goal

abbrev pub invariant-loop-rest : goal.invariant-loop-rest
invariant-loop-rest l = (arcs : List ℕ) × ArcsBefore arcs l.octets l.rest

abbrev pub decreases-loop-rest : goal.decreases-loop-rest
decreases-loop-rest l = length l.rest
