use Rattle.std.proofs.Common.{◌++◌, ◌≡◌, List, drop, false, map}
use Rattle.pk_documents.proofs.DocumentValues.{valued}
use Rattle.commands.specs.JudgedStreams.{JudgesStreams}
use Rattle.commands.specs.Judgements.{GoesThrough, StopsAt, part_of}
use Rattle.commands.specs.Standards.{IsReadable, Seen, seen}
use Rattle.commands.specs.Tallies.{tally_of}
use Rattle.commands.specs.declared.tally.Verdict.{Verdict}
use Rattle.commands.proofs.judge_streams.judge_each_stream.Given as goal

-- What comes of the names that are left, after what came of those before them, comes of all names.
abbrev pub invariant-loop-name : goal.invariant-loop-name
invariant-loop-name g l =
    let Step = JudgesStreams valued (record {
      input_failed = g.R.Source.has_failed;
      input_remaining = g.R.Source.remaining;
      failed = g.O.Document.Source.has_failed;
      remaining = g.O.Document.Source.remaining;
      known = g.O.Opener.known l.opener;
      unopened = g.O.Opener.refuses l.opener;
    }) l.task in
    let see = seen g.R.Source.remaining g.W.Target.contents g.W.Target.has_failed g.W.Flush.is_flushed
    g.E.Target.contents g.E.Target.has_failed in
    let left = map part_of (map (λ name. name.now) (drop l.name-index l.names)) in
    let all = map part_of (map (λ name. name.now) l.names) in
    record {
      through :
          (so_far : List Verdict)
          × (l.tally ≡ tally_of so_far)
          × ((new : Seen) (last : List Verdict) → GoesThrough Step left (see l.standard) new last
          → GoesThrough Step all (see l.initial.standard) new (so_far ++ last));
      stops :
          (new : Seen) → StopsAt Step left (see l.standard) new
          → StopsAt Step all (see l.initial.standard) new;
      readable : IsReadable g.R.Source.has_failed l.standard.input;
      writable : g.W.Target.has_failed l.standard.output ≡ false;
    }
