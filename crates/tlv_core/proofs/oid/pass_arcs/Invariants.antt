use Rattle.std.proofs.Common.{List, ℕ, ◌+◌, ◌-◌, ◌≤◌, drop, length}
use Rattle.tlv_core.specs.ObjectIdentifier.{LaterOctets}
use Rattle.tlv_core.proofs.oid.pass_arcs.Given as goal

abbrev pub invariant-loop-passed : goal.invariant-loop-passed
invariant-loop-passed l =
    (l.passed ≤ l.most)
    × (l.passed + length l.rest ≤ length l.octets)
    × ((arcs : List ℕ) → LaterOctets arcs l.octets → (l.passed ≤ length arcs) × LaterOctets (drop l.passed arcs) l.rest)

abbrev pub decreases-loop-passed : goal.decreases-loop-passed
decreases-loop-passed l = l.most - l.passed
