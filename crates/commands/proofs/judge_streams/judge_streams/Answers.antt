use Rattle.std.proofs.Common.{map}
use Rattle.pk_documents.proofs.DocumentValues.{valued}
use Rattle.commands.specs.JudgedStreams.{JudgesStreams}
use Rattle.commands.specs.Judgements.{sources_of}
use Rattle.commands.specs.Standards.{seen}
use Rattle.commands.proofs.JudgedStreams.{stream_alone, streams_named}
use Rattle.commands.proofs.Judgements.{none_named, some_named}
use Rattle.commands.proofs.judge_streams.judge_streams.Goals as goal

pub returns-then-is_empty : goal.returns-then-is_empty
returns-then-is_empty g c =
    let see =
    seen g.R.Source.remaining g.W.Target.contents g.W.Target.has_failed g.W.Flush.is_flushed g.E.Target.contents
    g.E.Target.has_failed in
    let sources = sources_of g.R.Source.has_failed g.R.Source.remaining g.O.Document.Source.has_failed
    g.O.Document.Source.remaining (g.O.Opener.known c.args.opener.now) (g.O.Opener.refuses c.args.opener.now) in
    stream_alone (JudgesStreams valued sources c.args.task.now) (map (λ it. it.now) c.args.names.now)
    (see c.args.standard.now) (see c.judge_input_stream.new.standard) c.judge_input_stream.result
    (none_named (λ it. it.now) c.args.names.now c.is_empty.result c.if-is_empty.true c.is_empty.ensures)
    c.judge_input_stream.ensures.judges

pub returns : goal.returns
returns g c =
    let see =
    seen g.R.Source.remaining g.W.Target.contents g.W.Target.has_failed g.W.Flush.is_flushed g.E.Target.contents
    g.E.Target.has_failed in
    let sources = sources_of g.R.Source.has_failed g.R.Source.remaining g.O.Document.Source.has_failed
    g.O.Document.Source.remaining (g.O.Opener.known c.args.opener.now) (g.O.Opener.refuses c.args.opener.now) in
    streams_named (JudgesStreams valued sources c.args.task.now) (map (λ it. it.now) c.args.names.now)
    (see c.args.standard.now) (see c.judge_each_stream.new.standard) c.judge_each_stream.result
    (some_named (λ it. it.now) c.args.names.now c.is_empty.result c.if-is_empty.false c.is_empty.ensures)
    c.judge_each_stream.ensures
