use Rattle.std.proofs.Common.{◌≡◌, ◌∙◌, IfOk, ap, string_bytes, subst}
use Rattle.commands.specs.Names.{shown_text}
use Rattle.commands.proofs.ShownNames.{shown_of_octets, shown_of_text}
use Rattle.commands.proofs.name.shown_name.Goals as goal

pub returns-in-Ok : goal.returns-in-Ok
returns-in-Ok c =
    let is = c.in-Ok.ensures.cases in
    subst (λ due. IfOk c.shown_text.result (λ text. string_bytes text ≡ due))
    (ap shown_text is.0 ∙ shown_of_text c.args.name.now is.1) c.shown_text.ensures

pub returns-in-Err : goal.returns-in-Err
returns-in-Err c =
    subst (λ due. IfOk c.octets_text.result (λ text. string_bytes text ≡ due))
    (shown_of_octets c.args.name.now c.in-Err.ensures.cases.0) c.octets_text.ensures
