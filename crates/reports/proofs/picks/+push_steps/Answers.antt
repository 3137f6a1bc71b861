use Rattle.std.proofs.Common.{[], ◌++◌, ◌∙◌, ◌∷◌, ap, append-nil, append_assoc, sym}
use Rattle.reports.specs.Picks.{steps_to}
use Rattle.reports.proofs.Steps.{steps_line, steps_none}
use Rattle.reports.proofs.picks.+push_steps.Goals as goal

pub returns-in_default : goal.returns-in_default
returns-in_default t c =
    let old = c.args.path.now.items in
    sym (append-nil old)
    ∙ ap (λ s. old ++ s)
    (steps_none c.args.most c.args.lines.now c.args.number c.if-most-eq0.false c.in_default.ensures)

pub returns : goal.returns
returns t c =
    let old = c.args.path.now.items in
    let lines = c.args.lines.now in
    let line = c.in-Some.line.now in
    let before = c.steps_before-before.result in
    c.in_ok-push.ensures.items
    ∙ ap (λ s. s ++ line.step ∷ []) c.in_ok-push_steps.ensures
    ∙ append_assoc old (steps_to before lines line.around) (line.step ∷ [])
    ∙ ap (λ s. old ++ s)
    (steps_line c.args.most before lines c.args.number line c.if-most-eq0.false c.in-Some.ensures
    c.steps_before-before.ensures)
