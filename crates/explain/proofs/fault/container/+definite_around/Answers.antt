use Rattle.std.proofs.Common.{sym, ◌∙◌}
use Rattle.explain.proofs.Steps.{later_nearest}
use Rattle.explain.proofs.fault.container.+definite_around.Goals as goal

pub returns : goal.returns
returns t c =
    later_nearest c.args.elements.now c.args.number c.in-Some.element.now c.definite_around.result
    (sym c.in-Some.ensures.enclosed) (sym c.has_end.ensures ∙ c.if-has_end.false) c.definite_around.ensures
