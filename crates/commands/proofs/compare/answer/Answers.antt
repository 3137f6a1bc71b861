use Rattle.std.proofs.Common.{string_bytes, ◌∙◌}
use Rattle.std.proofs.lemmas.Result.{IfOk-weaker}
use Rattle.pk_documents.proofs.DocumentValues.{valued}
use Rattle.commands.proofs.Comparisons.{answers_named}
use Rattle.commands.proofs.compare.answer.Goals as goal

pub returns : goal.returns
returns c =
    IfOk-weaker c.named_answer.result _ _
    (λ it h. answers_named valued c.args.comparison.now c.args.names.first.now c.args.names.second.now
    c.as_str.result.now c.as_str-2.result.now c.args.first.now c.args.second.now it.1 (string_bytes it.0)
    (c.as_str.ensures.value ∙ c.in_ok-first_name.ensures) (c.as_str-2.ensures.value ∙ c.in_ok-second_name.ensures) h)
    c.named_answer.ensures
