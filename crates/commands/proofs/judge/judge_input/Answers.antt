use Rattle.std.proofs.Common.{◌∙◌, ap, refl, sym}
use Rattle.std.specs.Option.{option_map}
use Rattle.pk_documents.proofs.DocumentValues.{valued}
use Rattle.commands.specs.Standards.{seen}
use Rattle.commands.proofs.Judgements.{input_gone, input_judged, none_left}
use Rattle.commands.proofs.judge.judge_input.Goals as goal

pub returns-in_default-clause-judges : goal.returns-in_default-clause-judges
returns-in_default-clause-judges g c =
    let see =
    seen g.R.Source.remaining g.W.Target.contents g.W.Target.has_failed g.W.Flush.is_flushed g.E.Target.contents
    g.E.Target.has_failed in
    let gone = sym c.take.ensures.value ∙ none_left c.take.result c.in_default.not-Some in
    input_gone valued c.args.task.now (see c.args.standard.now)
    (see (record { input = c.take.new.self; output = c.args.standard.now.output; errors = c.finish.new.dst }))
    c.of_one.result (ap (option_map g.R.Source.remaining) gone) (c.finish.ensures.line, refl, refl)
    (ap (option_map g.R.Source.remaining) (c.take.ensures.after ∙ sym gone)) c.of_one.ensures

pub returns-clause-judges : goal.returns-clause-judges
returns-clause-judges g c =
    let see =
    seen g.R.Source.remaining g.W.Target.contents g.W.Target.has_failed g.W.Flush.is_flushed g.E.Target.contents
    g.E.Target.has_failed in
    let end = c.answer_of-end in
    let new =
    see (record { input = c.take.new.self; output = end.new.dst; errors = c.finish-2.new.dst }) in
    input_judged valued c.args.task.now (g.R.Source.remaining c.in-Some.src) (g.R.Source.remaining end.new.src)
    (g.R.Source.has_failed end.new.src) end.result.outcome end.result.kind (see c.args.standard.now) new
    c.tally_after.result (ap (option_map g.R.Source.remaining) (sym c.take.ensures.value ∙ c.in-Some.is))
    (record {
      answered = end.ensures.answered;
      silent = λ is_silent. ap g.W.Target.contents (end.ensures.unwritten is_silent);
      failed = end.ensures.failed;
      whole = end.ensures.flushed;
    })
    c.finish-2.ensures.line (ap (option_map g.R.Source.remaining) c.take.ensures.after) c.tally_after.ensures
