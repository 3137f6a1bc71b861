use Rattle.std.proofs.Common.{arith, ◌<◌, length, sym, ◌∙◌}
use Rattle.std.proofs.lemmas.Bool.Decides.{nat_tests}
use Rattle.ber_pull.proofs.Stack.{first_is_last}
use Rattle.ber_pull.specs.declared.state.Container.TheVariants.{Definite}
use Rattle.ber_pull.proofs.state.innermost.Goals as goal

pub returns : goal.returns
returns c =
    let some : 0 < length c.args.containers.now =
    let e = sym c.is_empty.ensures ∙ c.if-is_empty.false in grind (arith, nat_tests) in
    sym (first_is_last c.args.containers.now (Definite 0) some)
