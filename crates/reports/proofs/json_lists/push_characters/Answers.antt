use Rattle.std.proofs.Common.{◌∙◌, codes}
use Rattle.reports.specs.JsonLists.{characters_member}
use Rattle.reports.specs.JsonMembers.{text_member}
use Rattle.reports.proofs.Characters.{as_digits, as_text}
use Rattle.reports.proofs.Appends.{in_words}
use Rattle.reports.proofs.json_lists.push_characters.Goals as goal

pub returns-in-Ok : goal.returns-in-Ok
returns-in-Ok c =
    let octets = c.args.octets.now in
    let text = c.in-Ok.text.now in
    in_words c.text.result c.text.new.self c.args.json.now (text_member (codes "characters") text)
    (characters_member octets) c.text.ensures
    (as_text text octets c.in-Ok.ensures.cases.0 c.in-Ok.ensures.cases.1)

pub returns-in_ok-digits-in-Err : goal.returns-in_ok-digits-in-Err
returns-in_ok-digits-in-Err c =
    let octets = c.args.octets.now in
    let digits = c.as_str.result.now in
    in_words c.text-in-Err.result c.text-in-Err.new.self c.args.json.now (text_member (codes "hexadecimal") digits)
    (characters_member octets) c.text-in-Err.ensures
    (as_digits digits octets (c.as_str.ensures.value ∙ c.in_ok-digits-in-Err.ensures) c.in-Err.ensures.cases.0)
