use Rattle.std.proofs.Common.{rules, ◌≡◌, true}
use Rattle.asn_elements.specs.Leaves.{bit_string_of}
use Rattle.pkix_values.specs.Values.{key_fits}
use Rattle.pkix_values.proofs.Rules.{key_is_fit}
use Rattle.pkix_values.proofs.public_key.PublicKeyFields.key.Goals as goal

pub returns-clause-fits : goal.returns-clause-fits
returns-clause-fits c =
    let info = c.args.self.now.0 in
    let algorithm = info.earlier.0.0.value.fields.0.0.0 in
    let fits : key_fits algorithm (bit_string_of info.field.value) ≡ true =
    key_is_fit algorithm (bit_string_of info.field.value) _ info.suits in
    search rules
