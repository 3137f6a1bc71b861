use Rattle.std.proofs.Common.{arith, ◌≤◌, length, sym, ap, ◌∙◌}
use Rattle.ber_pull.proofs.Stack.{depth_is}
use Rattle.ber_pull.proofs.state.State.depth.Goals as goal

pub returns-clause-value : goal.returns-clause-value
returns-clause-value c =
    let fits : c.self.inside.depth ≤ length c.self.inside.containers = omega arith in
    sym
    (ap (λ s. length s.containers) (sym c.self.view_is) ∙ depth_is c.self.inside.depth c.self.inside.containers fits)
