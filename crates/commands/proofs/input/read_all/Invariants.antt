use Rattle.std.proofs.Common.{◌≡◌, ◌-◌, ◌≤◌, false, length}
use Rattle.std.specs.Io.KnownBytes.{Consumes}
use Rattle.commands.proofs.input.read_all.Given as goal

abbrev pub invariant-loop-block : goal.invariant-loop-block
invariant-loop-block g l = record {
  takes : Consumes (g.R.Source.remaining l.initial.src) (g.R.Source.remaining l.src) l.octets.items;
  few : length l.octets.items ≤ l.most;
  live : g.R.Source.has_failed l.src ≡ false;
  frame : g.R.Source.frame l.src ≡ g.R.Source.frame l.initial.src;
}

abbrev pub decreases-loop-block : goal.decreases-loop-block
decreases-loop-block g l = l.most - length l.octets.items
