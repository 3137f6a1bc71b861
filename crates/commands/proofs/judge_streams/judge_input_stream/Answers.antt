use Rattle.std.proofs.Common.{[], ◌∙◌, ap, refl, subst, sym}
use Rattle.std.specs.Option.{option_map}
use Rattle.pk_documents.proofs.DocumentValues.{valued}
use Rattle.commands.specs.JudgedStreams.{JudgesStream}
use Rattle.commands.specs.Judgements.{Tallied}
use Rattle.commands.specs.Standards.{seen}
use Rattle.commands.proofs.Judgements.{none_left}
use Rattle.commands.proofs.JudgedStreams.{input_gone, input_streamed, input_unnamed}
use Rattle.commands.proofs.judge_streams.judge_input_stream.Goals as goal

pub returns-in_default-clause-judges : goal.returns-in_default-clause-judges
returns-in_default-clause-judges g c =
    let see =
    seen g.R.Source.remaining g.W.Target.contents g.W.Target.has_failed g.W.Flush.is_flushed g.E.Target.contents
    g.E.Target.has_failed in
    let gone = sym c.take.ensures.value ∙ none_left c.take.result c.in_default.not-Some in
    input_gone g.R.Source.has_failed valued c.args.task.now (see c.args.standard.now)
    (see (record { input = c.take.new.self; output = c.args.standard.now.output; errors = c.finish.new.dst }))
    c.of_one.result (ap (option_map g.R.Source.remaining) gone) (c.finish.ensures.line, refl, refl)
    (ap (option_map g.R.Source.remaining) (c.take.ensures.after ∙ sym gone)) c.of_one.ensures

pub returns-in_default-new-clause-judges : goal.returns-in_default-new-clause-judges
returns-in_default-new-clause-judges g c =
    let see =
    seen g.R.Source.remaining g.W.Target.contents g.W.Target.has_failed g.W.Flush.is_flushed g.E.Target.contents
    g.E.Target.has_failed in
    input_unnamed g.R.Source.has_failed valued c.args.task.now (g.R.Source.remaining c.in-Some.src)
    (see c.args.standard.now) (see c.unnamed.new.standard)
    (ap (option_map g.R.Source.remaining) (sym c.take.ensures.value ∙ c.in-Some.is))
    (ap (option_map g.R.Source.remaining) (c.unnamed.ensures.input ∙ c.take.ensures.after)) c.unnamed.ensures.says

pub returns-clause-judges : goal.returns-clause-judges
returns-clause-judges g c =
    let see =
    seen g.R.Source.remaining g.W.Target.contents g.W.Target.has_failed g.W.Flush.is_flushed g.E.Target.contents
    g.E.Target.has_failed in
    let judged = c.judge_stream in
    let octets = g.R.Source.remaining c.in-Some.src in
    let old = see c.args.standard.now in
    let new = see judged.new.standard in
    input_streamed g.R.Source.has_failed valued c.args.task.now octets old new judged.result
    (ap (option_map g.R.Source.remaining) (sym c.take.ensures.value ∙ c.in-Some.is))
    (ap (option_map g.R.Source.remaining) (judged.ensures.input ∙ c.take.ensures.after))
    (subst
    (λ it. Tallied (JudgesStream g.R.Source.has_failed valued c.args.task.now it [] octets old new) judged.result)
    c.in-Ok.ensures judged.ensures.judges)
