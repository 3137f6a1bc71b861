use Rattle.std.proofs.Common.{rules, ◌≡◌, ◌∷◌, [], length, true}
use Rattle.std.specs.Option.{option_map}
use Rattle.asn_elements.specs.Leaves.{bit_string_of, octets_of}
use Rattle.pkix_definitions.specs.Rules.{has_length}
use Rattle.private_keys.specs.EcKeys.{named_length}
use Rattle.private_keys.proofs.Rules.{ec_fits}
use Rattle.private_keys.proofs.ec_private_key.EcPrivateKey.key.Goals as goal

pub returns-clause-fits : goal.returns-clause-fits
returns-clause-fits c =
    let ruled = c.args.self.now.0 in
    let key = ruled.value.fields.0 in
    let fits : has_length (named_length (option_map (λ t. t.inner) key.1.0.0)) (length (octets_of key.0.1.0)) ≡ true =
    ec_fits (λ t. t.inner) (λ t. bit_string_of t.inner) (key.0.0.0.number ∷ [])
    (octets_of key.0.1.0) key.1.0.0 key.1.1.0 ruled.judged in
    search rules
