use Rattle.std.proofs.Common.{rules, ◌≡◌, ◌∷◌, [], ap, false, sym, true}
use Rattle.tlv_core.specs.declared.reason.Reason.TheVariants.{KeyLength}
use Rattle.pkix_definitions.specs.Rules.{else_refused}
use Rattle.x690.specs.Values.{leaf_at}
use Rattle.asn_elements.specs.Leaves.{bit_string_of}
use Rattle.pkix_values.specs.Values.{key_fits}
use Rattle.pkix_values.proofs.public_key.KeyLengthFieldRulesRequiredBits.judge.Goals as goal

pub returns-then-is_key_of : goal.returns-then-is_key_of
returns-then-is_key_of g c =
    let fits : key_fits (leaf_at (0 ∷ 0 ∷ []) (g.T.DerText.value c.args.earlier.now.0 ∷ []))
    (bit_string_of c.args.field.now)
    ≡ true = search rules in
    sym (ap (λ b. else_refused b KeyLength) fits)

pub returns-else-is_key_of : goal.returns-else-is_key_of
returns-else-is_key_of g c =
    let off : key_fits (leaf_at (0 ∷ 0 ∷ []) (g.T.DerText.value c.args.earlier.now.0 ∷ []))
    (bit_string_of c.args.field.now)
    ≡ false = search rules in
    sym (ap (λ b. else_refused b KeyLength) off)
