use Rattle.std.proofs.Common.{◌≡◌, ◌∙◌, IfOk, ap, string_bytes, subst}
use Rattle.commands.specs.Names.{file_text}
use Rattle.commands.proofs.ShownNames.{file_of_octets, file_of_text}
use Rattle.commands.proofs.name.file_name.Goals as goal

pub returns-in-Ok : goal.returns-in-Ok
returns-in-Ok c =
    let is = c.in-Ok.ensures.cases in
    subst (λ due. IfOk c.file_text.result (λ text. string_bytes text ≡ due))
    (ap file_text is.0 ∙ file_of_text c.args.name.now is.1) c.file_text.ensures

pub returns-in-Err : goal.returns-in-Err
returns-in-Err c =
    subst (λ due. IfOk c.octets_text.result (λ text. string_bytes text ≡ due))
    (file_of_octets c.args.name.now c.in-Err.ensures.cases.0) c.octets_text.ensures
