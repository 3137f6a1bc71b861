use Rattle.std.proofs.Common.{◌≡◌, List, false, length}
use Rattle.pk_documents.proofs.DocumentValues.{valued}
use Rattle.commands.specs.Files.{Entry, IsLeft, Went}
use Rattle.commands.proofs.files.run_files.Given as goal

abbrev pub invariant-loop : goal.invariant-loop
invariant-loop g l = record {
  went :
      (all : List Entry)
      × (length all ≡ l.counter)
      × Went valued (g.O.Opener.known l.opener) (g.O.Opener.refuses l.opener)
      (IsLeft g.O.Document.Source.has_failed g.O.Document.Source.remaining) l.task (g.N.Names.left l.initial.names)
      (g.N.Names.left l.names) (g.W.Target.contents l.initial.dst) (g.W.Target.contents l.dst) l.progress.tally
      l.progress.out all;
  live : g.W.Target.has_failed l.dst ≡ false;
}
