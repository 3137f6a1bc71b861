use Rattle.std.proofs.Common.{◌∙◌, ap, slice_index, slice_range, sym}
use Rattle.private_keys.specs.RsaNumbers.{number_in}
use Rattle.private_keys.proofs.RsaNumbers.{first_leaf}
use Rattle.private_keys.proofs.rsa_numbers.Numbers.get.Goals as goal

pub returns-then-i-lt8-clause-stands : goal.returns-then-i-lt8-clause-stands
returns-then-i-lt8-clause-stands c =
    let n = c.args.self.now in
    let i = c.args.i in
    first_leaf (number_in n.text.items n.begins n.ends) 8 i c.if-i-lt8.true
    ∙ ap (λ text. slice_range text (slice_index n.begins i) (slice_index n.ends i)) (sym c.deref.ensures.value)
