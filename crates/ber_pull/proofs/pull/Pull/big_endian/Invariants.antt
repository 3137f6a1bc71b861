use Rattle.ber_pull.specs.Hears.{Continues}
use Rattle.std.proofs.Common.{◌≡◌, ◌-◌, ◌^◌, ◌<◌, ◌≤◌, ℕ, None}
use Rattle.x690.specs.ReadHeaders.{read_big_endian}
use Rattle.ber_pull.specs.Lengths.{IsClipped}
use Rattle.ber_pull.specs.Standing.{enclosing, moved}
use Rattle.ber_pull.specs.View.{SameSource}
use Rattle.ber_pull.proofs.pull.Pull.big_endian.Given as goal

abbrev pub invariant-loop : goal.invariant-loop
invariant-loop g l = record {
  same_source : SameSource l.initial.self l.self;
  fine : l.self.state.error ≡ None;
  moves : l.self.state ≡ moved l.self.state.taken l.initial.self.state;
  forward : l.initial.self.state.taken ≤ l.self.state.taken;
  below : l.number < 2 ^ 40;
  reads : (n : ℕ) × IsClipped n l.number
      × Continues
      (read_big_endian l.initial.self.state.limits (enclosing l.initial.self.state).nearest_end l.start l.count 0)
      l.initial.self.state.taken
      (g.R.Source.remaining l.initial.self.src.now)
      (read_big_endian l.initial.self.state.limits (enclosing l.initial.self.state).nearest_end l.start
      (l.count - l.counter) n) l.self.state.taken
      (g.R.Source.remaining l.self.src.now);
}
