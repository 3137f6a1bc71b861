use Rattle.std.proofs.Common.{◌∙◌, ap, slice_get}
use Rattle.private_keys.specs.RsaKeys.{numbers_of}
use Rattle.private_keys.proofs.rsa_private_key.RsaFields.number.Goals as goal

pub returns-clause-value : goal.returns-clause-value
returns-clause-value c =
    c.get.ensures.value ∙ ap (λ earlier. slice_get (numbers_of earlier.1) c.args.i) c.earlier.ensures
