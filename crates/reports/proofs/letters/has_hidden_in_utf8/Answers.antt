use Rattle.std.proofs.Common.{ap, chars, ◌∙◌}
use Rattle.std.specs.List.{list_any}
use Rattle.reports.specs.Letters.{is_hidden}
use Rattle.reports.proofs.Utf8.{if_utf8, unless_utf8}
use Rattle.reports.proofs.letters.has_hidden_in_utf8.Goals as goal

pub returns-in-Ok : goal.returns-in-Ok
returns-in-Ok c =
    let octets = c.args.octets.now in
    let h = c.in-Ok.ensures.cases in
    c.has_hidden_character.ensures
    ∙ ap (λ it. list_any is_hidden it) (ap chars h.0 ∙ if_utf8 octets (chars octets) octets h.1)

pub returns-in-Err : goal.returns-in-Err
returns-in-Err c =
    let octets = c.args.octets.now in
    c.has_hidden_octet.ensures
    ∙ ap (λ it. list_any is_hidden it) (unless_utf8 octets (chars octets) octets c.in-Err.ensures.cases.0)
