use Rattle.std.proofs.Common.{map, subst, sym}
use Rattle.std.specs.Option.{option_map}
use Rattle.pk_documents.proofs.DocumentValues.{valued}
use Rattle.commands.specs.JudgedParts.{GoesBy}
use Rattle.commands.specs.Judgements.{Tallied, sources_of}
use Rattle.commands.specs.Standards.{seen}
use Rattle.commands.proofs.judge.judge_parts.Goals as goal

pub returns-then-documents : goal.returns-then-documents
returns-then-documents g c =
    let see =
    seen g.R.Source.remaining g.W.Target.contents g.W.Target.has_failed g.W.Flush.is_flushed g.E.Target.contents
    g.E.Target.has_failed in
    let sources = sources_of g.R.Source.has_failed g.R.Source.remaining g.O.Document.Source.has_failed
    g.O.Document.Source.remaining (g.O.Opener.known c.args.opener.now) (g.O.Opener.refuses c.args.opener.now) in
    let documents = c.args.documents in
    subst
    (λ each. Tallied (GoesBy valued sources c.args.task.now each (map (λ it. it.now) documents.names.now)
    (option_map (λ it. it.now) documents.list) (see c.args.standard.now) (see c.judge_streams.new.standard))
    c.judge_streams.result)
    (sym c.if-documents.true) c.judge_streams.ensures

pub returns : goal.returns
returns g c =
    let see =
    seen g.R.Source.remaining g.W.Target.contents g.W.Target.has_failed g.W.Flush.is_flushed g.E.Target.contents
    g.E.Target.has_failed in
    let sources = sources_of g.R.Source.has_failed g.R.Source.remaining g.O.Document.Source.has_failed
    g.O.Document.Source.remaining (g.O.Opener.known c.args.opener.now) (g.O.Opener.refuses c.args.opener.now) in
    let documents = c.args.documents in
    subst
    (λ each. Tallied (GoesBy valued sources c.args.task.now each (map (λ it. it.now) documents.names.now)
    (option_map (λ it. it.now) documents.list) (see c.args.standard.now) (see c.judge_all.new.standard))
    c.judge_all.result)
    (sym c.if-documents.false) c.judge_all.ensures
