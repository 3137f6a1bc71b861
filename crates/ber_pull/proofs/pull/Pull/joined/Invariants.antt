use Rattle.std.proofs.Common.{◌≡◌, ◌+◌, ◌-◌, ◌*◌, ◌≤◌, Some, None, length}
use Rattle.ber_pull.specs.Calls.{read_segments}
use Rattle.ber_pull.specs.Segments.{GoesOn, segment_number}
use Rattle.ber_pull.specs.Standing.{among}
use Rattle.ber_pull.specs.declared.state.Given.{Given}
use Rattle.ber_pull.specs.View.{SameSource}
use Rattle.ber_pull.proofs.pull.Pull.joined.Given as goal

abbrev pub invariant-loop-alloc : goal.invariant-loop-alloc
invariant-loop-alloc g l = record {
  same_source : SameSource l.fn.self l.self;
  fine : l.self.state.error ≡ None;
  stands : l.self.state ≡ among l.self.state l.fn.self.state;
  forward : l.fn.self.state.taken ≤ l.self.state.taken;
  kind : l.joined.is_bits ≡ l.is_bits;
  reads : (given : Given) → l.fn.self.state.given ≡ Some given
      → GoesOn l.fn.self l.self l.fn.self.state.containers (segment_number l.is_bits)
      (read_segments (segment_number l.is_bits) l.fn.self.state given) l.joined;
}

abbrev pub decreases-loop-alloc : goal.decreases-loop-alloc
decreases-loop-alloc g l = 2 * (l.self.state.limits.octets - l.self.state.taken) + length l.self.state.containers
