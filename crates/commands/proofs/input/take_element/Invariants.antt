use Rattle.std.proofs.Common.{◌≡◌, ◌+◌, ◌-◌, false, length}
use Rattle.commands.specs.Inputs.{TakesMore}
use Rattle.commands.proofs.input.take_element.Given as goal

abbrev pub invariant-loop-octets : goal.invariant-loop-octets
invariant-loop-octets g l = record {
  takes :
      TakesMore (g.R.Source.remaining l.initial.src) (g.R.Source.remaining l.src) l.initial.octets.items
      l.octets.items;
  live : g.R.Source.has_failed l.src ≡ false;
}

abbrev pub decreases-loop-octets : goal.decreases-loop-octets
decreases-loop-octets g l = l.most + 1 - length l.octets.items
