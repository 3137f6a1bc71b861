use Rattle.std.proofs.Common.{◌≡◌, ◌+◌, ◌-◌, ◌≤◌, None, length}
use Rattle.std.specs.Io.KnownBytes.{Consumes}
use Rattle.ber_pull.specs.Standing.{moved}
use Rattle.ber_pull.specs.View.{SameSource}
use Rattle.ber_pull.proofs.pull.Pull.contents.Given as goal

abbrev pub invariant-loop-octets : goal.invariant-loop-octets
invariant-loop-octets g l = record {
  same_source : SameSource l.initial.self l.self;
  fine : l.self.state.error ≡ None;
  moves : l.self.state ≡ moved l.self.state.taken l.initial.self.state;
  came : Consumes (g.R.Source.remaining l.initial.self.src.now) (g.R.Source.remaining l.self.src.now) l.octets.items;
  count : l.self.state.taken ≡ l.initial.self.state.taken + length l.octets.items;
  fits : length l.octets.items ≤ l.size;
}

abbrev pub decreases-loop-octets : goal.decreases-loop-octets
decreases-loop-octets g l = l.size - length l.octets.items
