use Rattle.std.proofs.Common.{subst, sym}
use Rattle.explain.specs.Written.{IsWritten}
use Rattle.pkder_c.proofs.whole.whole_report.Goals as goal

pub returns-in-Ok-clause-report : goal.returns-in-Ok-clause-report
returns-in-Ok-clause-report c =
    subst (λ text. IsWritten c.args.form c.args.limits c.args.kind c.args.src.now text.items c.in-Ok.answer)
    (sym c.into_bytes.ensures.value) c.in-Ok.ensures
