use Rattle.std.proofs.Common.{◌≡◌, ◌*◌, ◌+◌, ◌-◌, length}
use Rattle.ber_outline.proofs.Progress.{Went}
use Rattle.ber_outline.proofs.outline.outline.Given as goal

abbrev pub invariant-loop-event : goal.invariant-loop-event
invariant-loop-event l = record {
  went : Went l.fn.limits l.fn.document l.events.items l.pull.state l.pull.src.now.now;
  depth : l.depth ≡ length l.pull.state.containers;
}

abbrev pub decreases-loop-event : goal.decreases-loop-event
decreases-loop-event l = 2 * l.fn.limits.octets + length l.pull.state.containers - 2 * l.pull.state.taken
