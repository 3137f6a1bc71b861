use Rattle.std.proofs.Common.{None, inr, refl, subst, sym}
use Rattle.std.specs.Option.{option_map}
use Rattle.pk_documents.proofs.DocumentValues.{valued}
use Rattle.commands.specs.Replies.{SaidIfLikely}
use Rattle.commands.specs.declared.outcome.Outcome.TheVariants as outcomes
use Rattle.commands.proofs.any.said_of_none.Goals as goal

pub returns-in-Some-clause-said : goal.returns-in-Some-clause-said
returns-in-Some-clause-said c =
    let file = option_map (λ r. r.now) c.args.file in
    inr (
      c.in-Ok.likely,
      c.in-Ok.ensures,
      subst
          (λ likely. SaidIfLikely valued c.args.action file c.args.limits c.args.octets.now likely
          c.said_of_likely.result.0 c.said_of_likely.result.1.items)
          (sym c.in-Some.is) c.said_of_likely.ensures.said,
    )

pub returns-in-None-clause-said : goal.returns-in-None-clause-said
returns-in-None-clause-said c =
    let file = option_map (λ r. r.now) c.args.file in
    inr (
      c.in-Ok.likely,
      c.in-Ok.ensures,
      subst
          (λ likely. SaidIfLikely valued c.args.action file c.args.limits c.args.octets.now likely
          (outcomes.NoKind None) c.new-in-None.result.items)
          (sym c.in-None.is) refl,
    )
