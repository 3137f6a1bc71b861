use Rattle.std.proofs.Common.{None, Some, ap, map, refl, subst, sym}
use Rattle.std.specs.Option.{option_map}
use Rattle.pk_documents.proofs.DocumentValues.{valued}
use Rattle.commands.specs.JudgedParts.{GoesBy}
use Rattle.commands.specs.Judgements.{Closes, Tallied, sources_of}
use Rattle.commands.specs.Standards.{EndsAlone, seen}
use Rattle.commands.specs.Sums.{SumsUp}
use Rattle.commands.proofs.Judgements.{none_left, sums_alone}
use Rattle.commands.proofs.judge.judge.Goals as goal

pub returns-in_default : goal.returns-in_default
returns-in_default g c =
    let see =
    seen g.R.Source.remaining g.W.Target.contents g.W.Target.has_failed g.W.Flush.is_flushed g.E.Target.contents
    g.E.Target.has_failed in
    let sources = sources_of g.R.Source.has_failed g.R.Source.remaining g.O.Document.Source.has_failed
    g.O.Document.Source.remaining (g.O.Opener.known c.args.opener.now) (g.O.Opener.refuses c.args.opener.now) in
    let documents = c.args.documents in
    let between = see c.judge_parts.new.standard in (
      None,
      between,
      subst
          (Tallied (GoesBy valued sources c.args.task.now documents.each (map (λ it. it.now) documents.names.now)
          (option_map (λ it. it.now) documents.list) (see c.args.standard.now) between))
          (none_left c.judge_parts.result c.in_default.not-Some) c.judge_parts.ensures,
      (refl, refl),
    )

pub returns-then-documents : goal.returns-then-documents
returns-then-documents g c =
    let see =
    seen g.R.Source.remaining g.W.Target.contents g.W.Target.has_failed g.W.Flush.is_flushed g.E.Target.contents
    g.E.Target.has_failed in
    let task = c.args.task.now in
    let between = see c.judge_parts.new.standard in
    let finished = c.finish_sum in
    let new = see (record {
      input = c.judge_parts.new.standard.input;
      output = c.judge_parts.new.standard.output;
      errors = finished.new.dst;
    }) in
    let came = c.in-Some.ensures in (
      Some came.0,
      between,
      came.1,
      subst (λ it. Closes task it (Some came.0) between new finished.result) (sym c.if-documents.true)
          (subst (SumsUp (EndsAlone between new finished.result) task) came.2
          (sums_alone task c.in-Some.tally between new finished.result refl refl finished.ensures)),
    )

pub returns : goal.returns
returns g c =
    let see =
    seen g.R.Source.remaining g.W.Target.contents g.W.Target.has_failed g.W.Flush.is_flushed g.E.Target.contents
    g.E.Target.has_failed in
    let task = c.args.task.now in
    let between = see c.judge_parts.new.standard in
    let came = c.in-Some.ensures in (
      Some came.0,
      between,
      came.1,
      subst (λ it. Closes task it (Some came.0) between between c.in-Some.tally.status) (sym c.if-documents.false)
          (refl, ap (λ it. it.status) came.2),
    )
