use Rattle.std.proofs.Common.{rules, ◌∙◌, false, refl, sym, true}
use Rattle.std.specs.Option.{is_some}
use Rattle.pkcs8.specs.Keys.{identifier_of}
use Rattle.pkcs8.proofs.Curves.{found_named, parameters_judged}
use Rattle.pkcs8.proofs.key_head.InKeysRulesAlgorithmIdentifier.judge.Goals as goal

pub returns-then-not-is_ec_public_key : goal.returns-then-not-is_ec_public_key
returns-then-not-is_ec_public_key c =
    let fields = c.args.value.now.0.value.fields.0 in
    sym (parameters_judged fields.0.0 fields.1.0 false (is_some (identifier_of fields.1.0)) (search rules) refl)

pub returns-in-Some : goal.returns-in-Some
returns-in-Some c =
    let fields = c.args.value.now.0.value.fields.0 in
    sym (parameters_judged fields.0.0 fields.1.0 true true (search rules)
    (found_named _ _ _ _ c.named_in.ensures c.parameters.ensures.value ∙ (search rules)))

pub returns-in-None : goal.returns-in-None
returns-in-None c =
    let fields = c.args.value.now.0.value.fields.0 in
    sym (parameters_judged fields.0.0 fields.1.0 true false (search rules)
    (found_named _ _ _ _ c.named_in.ensures c.parameters.ensures.value ∙ (search rules)))
