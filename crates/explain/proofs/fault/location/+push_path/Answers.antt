use Rattle.std.proofs.Common.{sym}
use Rattle.explain.proofs.Steps.{add_step, top_path}
use Rattle.explain.proofs.fault.location.+push_path.Goals as goal

pub returns-in_default : goal.returns-in_default
returns-in_default t c =
    top_path c.args.elements.now c.args.number c.args.path.now.items (sym c.in_default.ensures.enclosed)

pub returns : goal.returns
returns t c =
    add_step c.args.elements.now c.args.number c.in-Some.element.now c.args.path.now.items c.push_path.new.path.items
    c.push_step.new.path.items (sym c.in-Some.ensures.enclosed) c.in_ok-push_path.ensures c.in_ok-push_step.ensures
