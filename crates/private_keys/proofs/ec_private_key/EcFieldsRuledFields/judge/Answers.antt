use Rattle.std.proofs.Common.{rules, ◌∷◌, [], false, sym, true}
use Rattle.asn_elements.specs.Leaves.{bit_string_of, octets_of}
use Rattle.private_keys.proofs.Rules.{ec_judged}
use Rattle.private_keys.proofs.ec_private_key.EcFieldsRuledFields.judge.Goals as goal

pub returns-then-has_length_of : goal.returns-then-has_length_of
returns-then-has_length_of c =
    let key = c.args.self.now.0 in
    sym (ec_judged (λ t. t.inner) (λ t. bit_string_of t.inner) (key.0.0.0.number ∷ [])
    (octets_of key.0.1.0) key.1.0.0 key.1.1.0 true (search rules))

pub returns-else-has_length_of : goal.returns-else-has_length_of
returns-else-has_length_of c =
    let key = c.args.self.now.0 in
    sym (ec_judged (λ t. t.inner) (λ t. bit_string_of t.inner) (key.0.0.0.number ∷ [])
    (octets_of key.0.1.0) key.1.0.0 key.1.1.0 false (search rules))
