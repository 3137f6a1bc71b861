use Rattle.std.proofs.Common.{◌≡◌, ◌==◌, All, false, length}
use Rattle.std.specs.Io.KnownBytes.{Consumes}
use Rattle.commands.proofs.NameLists.{After}
use Rattle.commands.proofs.ended_names.EndedNamesNames.next_name.Given as goal

abbrev pub invariant-loop : goal.invariant-loop
invariant-loop g l = record {
  after : After (g.R.Source.remaining l.initial.self.src) l.name.items (g.R.Source.remaining l.self.src);
  taken : Consumes (g.R.Source.remaining l.initial.self.src) (g.R.Source.remaining l.self.src) l.name.items;
  counted : length l.name.items ≡ l.counter;
  unended : All (λ octet. (octet == 0) ≡ false) l.name.items;
}
