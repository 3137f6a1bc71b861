use Rattle.std.proofs.Common.{◌≡◌, ◌+◌, ◌-◌, ◌++◌, List, false, length, ℕ}
use Rattle.std.specs.Io.KnownBytes.{Consumes}
use Rattle.commands.specs.Each.{IsBegun, kinds_for}
use Rattle.commands.proofs.each.next_of.Given as goal

abbrev pub invariant-loop-begun : goal.invariant-loop-begun
invariant-loop-begun g l = record {
  taken :
      (more : List ℕ)
      × Consumes (g.R.Source.remaining l.initial.src) (g.R.Source.remaining l.src) more
      × (l.ahead.items ≡ l.initial.ahead.items ++ more);
  begun : IsBegun l.task.limits l.ahead.items (kinds_for l.task.kind) l.begun;
  live : g.R.Source.has_failed l.src ≡ false;
}

abbrev pub decreases-loop-begun : goal.decreases-loop-begun
decreases-loop-begun g l = l.limit + 1 - length l.ahead.items
