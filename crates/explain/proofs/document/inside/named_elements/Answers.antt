use Rattle.std.proofs.Common.{List, subst, sym}
use Rattle.ber_outline.specs.Outlines.{IsOutline}
use Rattle.ber_outline.specs.declared.event.Event.{Event}
use Rattle.explain.proofs.Outlined.{by_outline}
use Rattle.explain.proofs.document.inside.named_elements.Goals as goal

pub returns-in-Ok : goal.returns-in-Ok
returns-in-Ok c =
    by_outline c.args.limits c.args.octets.now c.args.shape c.as_slice.result.now c.in-Ok.stop c.name_elements.result
    (subst (λ (events : List Event). IsOutline c.args.limits c.args.octets.now events c.in-Ok.stop)
    (sym c.as_slice.ensures.value) c.in-Ok.ensures)
    c.name_elements.ensures
