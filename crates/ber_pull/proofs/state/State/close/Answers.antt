use Rattle.std.proofs.Common.{arith, ◌<◌, ◌≤◌, length, refl}
use Rattle.ber_pull.specs.declared.state.Container.TheVariants.{Definite}
use Rattle.ber_pull.proofs.Stack.{reverse_last}
use Rattle.ber_pull.proofs.state.State.close.Goals as goal

pub returns-then-self-gt0 : goal.returns-then-self-gt0
returns-then-self-gt0 c =
    let more : 0 < c.self.inside.depth = c.if-self-gt0.true in
    let fits : c.self.inside.depth ≤ length c.self.inside.containers = omega arith in
    rw (← c.self.view_is, reverse_last c.self.inside.depth c.self.inside.containers (Definite 0) more fits) refl
