use Rattle.std.proofs.Common.{inr, subst}
use Rattle.explain.specs.FoundKinds.{IsKindOf}
use Rattle.commands.proofs.any.said_of_any.Goals as goal

pub returns-in-Some-clause-said : goal.returns-in-Some-clause-said
returns-in-Some-clause-said c =
    inr (
      subst (λ found. IsKindOf c.args.limits c.args.octets.now found) c.in-Some.is c.in-Ok.ensures,
      c.said_of_kind-end.ensures.said,
    )

pub returns-in-None-clause-said : goal.returns-in-None-clause-said
returns-in-None-clause-said c =
    inr (
      subst (λ found. IsKindOf c.args.limits c.args.octets.now found) c.in-None.is c.in-Ok.ensures,
      c.said_of_none-end.ensures.said,
    )
