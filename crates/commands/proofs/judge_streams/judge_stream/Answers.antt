use Rattle.std.proofs.Common.{subst, sym}
use Rattle.pk_documents.proofs.DocumentValues.{valued}
use Rattle.commands.specs.JudgedStreams.{JudgesStream}
use Rattle.commands.specs.Judgements.{Tallied}
use Rattle.commands.specs.Lines.{name_of_line}
use Rattle.commands.specs.Standards.{seen}
use Rattle.commands.proofs.JudgedStreams.{stream_judged}
use Rattle.commands.proofs.judge_streams.judge_stream.Goals as goal

pub returns-clause-judges : goal.returns-clause-judges
returns-clause-judges g c =
    let see =
    seen g.R.Source.remaining g.W.Target.contents g.W.Target.has_failed g.W.Flush.is_flushed g.E.Target.contents
    g.E.Target.has_failed in
    let ended = c.answer_each-end in
    let said = ended.ensures.answered in
    let shown = name_of_line c.args.named in
    let old = see c.args.standard.now in
    let new = see (record { input = c.args.standard.now.input; output = ended.new.dst; errors = c.finish_files.new.dst }) in
    subst
    (Tallied (JudgesStream g.S.Source.has_failed valued c.args.task.now shown c.args.name.now
    (g.S.Source.remaining c.args.src) old new))
    (sym c.tally_through.ensures)
    (stream_judged g.S.Source.has_failed valued c.args.task.now shown c.args.name.now (g.S.Source.remaining c.args.src)
    old new said.0 said.1 ended.result said.2 ended.ensures.failed ended.ensures.flushed c.finish_files.ensures.line)
