use Rattle.std.proofs.Common.{arith, ◌≡◌, Some, refl, sym, ap, ◌∙◌}
use Rattle.ber_pull.specs.Standing.{first_of}
use Rattle.ber_pull.specs.declared.state.Container.TheVariants.{Indefinite}
use Rattle.ber_pull.proofs.Stack.{end_is}
use Rattle.ber_pull.proofs.state.State.end.Goals as goal

pub returns-in-Some-Indefinite : goal.returns-in-Some-Indefinite
returns-in-Some-Indefinite c =
    let first : first_of c.args.self.now.containers ≡ Some (Indefinite c.in-Some-Indefinite.around) =
    sym c.innermost.ensures ∙ c.in-Some-Indefinite.is ∙ ap Some c.in-Some-Indefinite.field-0-is in
    let ends = end_is c.self.inside.depth c.self.inside.containers c.in-Some-Indefinite.around
    (ap (λ s. first_of s.containers) c.self.view_is ∙ first) (omega arith) in
    rw (← c.self.view_is, ends) refl
