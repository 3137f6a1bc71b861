use Rattle.std.proofs.Common.{false, inl, inr, refl, subst, ◌≡◌}
use Rattle.std.proofs.lemmas.Result.{err_from_is_err_and}
use Rattle.pk_documents.specs.Kinds.{type_of}
use Rattle.explain.specs.Answers.{IsAnswer}
use Rattle.explain.specs.Rules.{is_refusal}
use Rattle.reports.specs.declared.report.Answer.TheVariants.{Refused}
use Rattle.commands.proofs.Replies.{of_none}
use Rattle.commands.proofs.reply.show_report.Goals as goal

pub returns-clause-replied : goal.returns-clause-replied
returns-clause-replied g c =
    let made = c.in_ok-report.ensures.reports in
    let answer = c.in_ok-report.report.answer in
    let sound = of_none (is_refusal answer ≡ false) (λ fault. answer ≡ Refused fault) c.refusal.result
    c.in_default.not-Some c.refusal.ensures in
    (made.0, made.1, (c.in_ok-report.report, made.2, sound, refl, c.in_ok-text.ensures))

pub returns-in-Some-clause-replied : goal.returns-in-Some-clause-replied
returns-in-Some-clause-replied g c =
    let made = c.in_ok-report.ensures.reports in
    inr (
      made.0,
      made.1,
      subst (IsAnswer c.args.task.now.limits (type_of c.args.task.now.kind) made.0)
          c.in-Some.ensures made.2.answer,
    )

pub returns-in_err-text-clause-replied : goal.returns-in_err-text-clause-replied
returns-in_err-text-clause-replied g c =
    let made = c.in_ok-report.ensures.reports in
    let p = err_from_is_err_and c.from_residual-in_err-text.result c.from_residual-in_err-text.ensures.1 in
    rw (p.1, p.2) (inl (made.0, made.1.takes, made.1.few))
