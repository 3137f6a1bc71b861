use Rattle.std.proofs.lemmas.Result.{err_from_is_err_and}
use Rattle.commands.proofs.reply.note_report.Goals as goal

pub returns-clause-replied : goal.returns-clause-replied
returns-clause-replied g c =
    let made = c.in_ok-report.ensures.reports in
    (made.0, made.1, (c.in_ok-report.report, made.2, c.noted.ensures.outcome, c.in_ok-text.ensures))

pub returns-in_err-text-clause-replied : goal.returns-in_err-text-clause-replied
returns-in_err-text-clause-replied g c =
    let made = c.in_ok-report.ensures.reports in
    let p = err_from_is_err_and c.from_residual-in_err-text.result c.from_residual-in_err-text.ensures.1 in
    rw (p.1, p.2) (made.0, made.1.takes, made.1.few)
