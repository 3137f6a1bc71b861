use Rattle.std.proofs.Common.{length, ◌-◌, ◌≡◌, ◌+◌, ◌≤◌, false, take}
use Rattle.std.specs.Io.KnownBytes.{Appends}
use Rattle.tlv_core.proofs.sink.Sink.put.Given as goal

abbrev pub invariant-loop-at : goal.invariant-loop-at
invariant-loop-at g l =
    (l.self.target.ghost_name ≡ l.initial.self.target.ghost_name)
    × (l.self.failed ≡ false)
    × (l.at ≤ length l.octets)
    × (l.self.written ≡ l.initial.self.written + l.at)
    × Appends (g.W.Target.contents l.initial.self.target.now) (g.W.Target.contents l.self.target.now)
    (take l.at l.octets)

abbrev pub decreases-loop-at : goal.decreases-loop-at
decreases-loop-at g l = length l.octets - l.at
