use Rattle.std.proofs.Common.{◌∙◌, ap, cond, sym}
use Rattle.commands.specs.Names.{is_plain, quoted}
use Rattle.commands.proofs.ShownNames.{shown_of_text}
use Rattle.commands.proofs.name.stands_as_it_is.Goals as goal

pub returns-in-Ok : goal.returns-in-Ok
returns-in-Ok c =
    let name = c.args.name.now in
    let is = c.in-Ok.ensures.cases in
    λ plain. sym (shown_of_text name is.1)
    ∙ ap (λ b. cond b name (quoted name)) (ap is_plain (sym is.0) ∙ sym c.is_plain.ensures ∙ plain)
