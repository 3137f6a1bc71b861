use Rattle.std.proofs.Common.{◌≡◌, List, false, length}
use Rattle.pk_documents.proofs.DocumentValues.{valued}
use Rattle.commands.specs.Each.{Piece, WentOn}
use Rattle.commands.proofs.each.run_each.Given as goal

abbrev pub invariant-loop : goal.invariant-loop
invariant-loop g l = record {
  went :
      (pieces : List Piece)
      × (length pieces ≡ l.counter)
      × WentOn valued l.task l.stream.name.now (g.R.Source.remaining l.fn.src) (g.R.Source.remaining l.stream.src)
      l.stream.ahead.items (g.W.Target.contents l.initial.dst) (g.W.Target.contents l.dst) l.progress.tally
      l.progress.out l.stream.at l.stream.number pieces;
  named : l.stream.name.now ≡ l.name;
  live : g.R.Source.has_failed l.stream.src ≡ false;
  writable : g.W.Target.has_failed l.dst ≡ false;
}
