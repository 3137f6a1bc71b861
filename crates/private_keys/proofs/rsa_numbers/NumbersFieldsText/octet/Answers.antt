use Rattle.std.proofs.Common.{rules, ◌≤◌, ◌∙◌, ap, length, slice_get, sym}
use Rattle.std.proofs.lemmas.Option.{slice_get_past}
use Rattle.private_keys.proofs.rsa_numbers.NumbersFieldsText.octet.Goals as goal

pub returns-else-i-len : goal.returns-else-i-len
returns-else-i-len c =
    let text = c.args.self.now.text.items in
    let past : length text ≤ c.args.i = search rules in
    sym (slice_get_past text c.args.i past) ∙ ap (λ octets. slice_get octets c.args.i) c.args.self.now.stand
