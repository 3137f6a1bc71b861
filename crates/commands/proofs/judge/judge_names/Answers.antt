use Rattle.std.proofs.Common.{◌∙◌, map, sym}
use Rattle.pk_documents.proofs.DocumentValues.{valued}
use Rattle.commands.specs.Judgements.{Judges, sources_of}
use Rattle.commands.specs.Standards.{seen}
use Rattle.commands.proofs.Judgements.{all_at_once, each_by_itself}
use Rattle.commands.proofs.judge.judge_names.Goals as goal

pub returns-then-has_dash-clause-goes : goal.returns-then-has_dash-clause-goes
returns-then-has_dash-clause-goes g c =
    let see =
    seen g.R.Source.remaining g.W.Target.contents g.W.Target.has_failed g.W.Flush.is_flushed g.E.Target.contents
    g.E.Target.has_failed in
    let Step = Judges valued (sources_of g.R.Source.has_failed g.R.Source.remaining g.O.Document.Source.has_failed
    g.O.Document.Source.remaining (g.O.Opener.known c.args.opener.now) (g.O.Opener.refuses c.args.opener.now))
    c.args.task.now in
    each_by_itself Step (map (λ it. it.now) c.args.names.now) (see c.args.standard.now) (see c.judge_each.new.standard)
    c.judge_each.result (sym c.has_dash.ensures ∙ c.if-has_dash.true) c.judge_each.ensures.goes

pub returns-clause-goes : goal.returns-clause-goes
returns-clause-goes g c =
    let see =
    seen g.R.Source.remaining g.W.Target.contents g.W.Target.has_failed g.W.Flush.is_flushed g.E.Target.contents
    g.E.Target.has_failed in
    let Step = Judges valued (sources_of g.R.Source.has_failed g.R.Source.remaining g.O.Document.Source.has_failed
    g.O.Document.Source.remaining (g.O.Opener.known c.args.opener.now) (g.O.Opener.refuses c.args.opener.now))
    c.args.task.now in
    all_at_once Step (map (λ it. it.now) c.args.names.now) (see c.args.standard.now) (see c.judge_named.new.standard)
    c.judge_named.result (sym c.has_dash.ensures ∙ c.if-has_dash.false) c.judge_named.ensures.judges
