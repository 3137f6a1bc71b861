use Rattle.explain.proofs.Steps.{due_path}
use Rattle.explain.proofs.fault.location.push_location_path.Goals as goal

pub returns-in_ok-push_due_steps-in-Some-Some : goal.returns-in_ok-push_due_steps-in-Some-Some
returns-in_ok-push_due_steps-in-Some-Some c =
    due_path c.args.elements.now c.args.location c.in-Some-Some.container c.in-Some-Some.number _ c.args.path.now.items
    c.push_path.new.path.items c.push_due_steps.new.path.items c.in-Some-Some.is-0 c.in-Some-Some.is-1
    c.in_ok-push_path-in-Some-Some.ensures c.element_at.ensures.item c.in_ok-push_due_steps-in-Some-Some.ensures
