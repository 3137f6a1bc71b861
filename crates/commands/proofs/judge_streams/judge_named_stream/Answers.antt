use Rattle.std.proofs.Common.{◌∙◌, sym}
use Rattle.pk_documents.proofs.DocumentValues.{valued}
use Rattle.commands.specs.Judgements.{sources_of}
use Rattle.commands.specs.Standards.{seen}
use Rattle.commands.proofs.JudgedStreams.{dash_streamed, file_streamed}
use Rattle.commands.proofs.judge_streams.judge_named_stream.Goals as goal

pub returns-then-is_dash-clause-judges : goal.returns-then-is_dash-clause-judges
returns-then-is_dash-clause-judges g c =
    let see =
    seen g.R.Source.remaining g.W.Target.contents g.W.Target.has_failed g.W.Flush.is_flushed g.E.Target.contents
    g.E.Target.has_failed in
    let sources = sources_of g.R.Source.has_failed g.R.Source.remaining g.O.Document.Source.has_failed
    g.O.Document.Source.remaining (g.O.Opener.known c.args.opener.now) (g.O.Opener.refuses c.args.opener.now) in
    let judged = c.judge_input_stream in
    dash_streamed valued sources c.args.task.now c.args.name.now (see c.args.standard.now) (see judged.new.standard)
    judged.result (sym c.is_dash.ensures ∙ c.if-is_dash.true) judged.ensures.judges

pub returns-clause-judges : goal.returns-clause-judges
returns-clause-judges g c =
    let see =
    seen g.R.Source.remaining g.W.Target.contents g.W.Target.has_failed g.W.Flush.is_flushed g.E.Target.contents
    g.E.Target.has_failed in
    let sources = sources_of g.R.Source.has_failed g.R.Source.remaining g.O.Document.Source.has_failed
    g.O.Document.Source.remaining (g.O.Opener.known c.args.opener.now) (g.O.Opener.refuses c.args.opener.now) in
    let judged = c.judge_file_stream in
    file_streamed valued sources c.args.task.now c.args.name.now (see c.args.standard.now) (see judged.new.standard)
    judged.result (sym c.is_dash.ensures ∙ c.if-is_dash.false) judged.ensures.judges
