use Rattle.std.proofs.Common.{subst, sym}
use Rattle.explain.specs.Written.{IsFieldOf}
use Rattle.pkder_c.proofs.whole.whole_field.Goals as goal

pub returns-in-Ok-clause-field : goal.returns-in-Ok-clause-field
returns-in-Ok-clause-field c =
    subst (λ text. IsFieldOf c.args.limits c.args.kind c.args.src.now text.items c.in-Ok.answer)
    (sym c.into_bytes.ensures.value) c.in-Ok.ensures
