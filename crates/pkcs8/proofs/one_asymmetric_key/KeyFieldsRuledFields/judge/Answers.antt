use Rattle.std.proofs.Common.{rules, false, refl, sym, true}
use Rattle.pkcs8.proofs.KeyVersions.{version_judged}
use Rattle.pkcs8.proofs.one_asymmetric_key.KeyFieldsRuledFields.judge.Goals as goal

pub returns-then-is_version_0 : goal.returns-then-is_version_0
returns-then-is_version_0 c =
    let fields = c.args.self.now.0 in
    sym (version_judged _ _ fields.earlier.0.0.earlier.0.0.0.number _ _
    (λ x. refl) _ _ fields.earlier.0.1.0 fields.field true _ c.requires (search rules) refl)

pub returns-in-Some : goal.returns-in-Some
returns-in-Some c =
    let fields = c.args.self.now.0 in
    sym (version_judged _ _ fields.earlier.0.0.earlier.0.0.0.number _ _
    (λ x. refl) _ _ fields.earlier.0.1.0 fields.field false true c.requires (search rules) (search rules))

pub returns-in-None : goal.returns-in-None
returns-in-None c =
    let fields = c.args.self.now.0 in
    sym (version_judged _ _ fields.earlier.0.0.earlier.0.0.0.number _ _
    (λ x. refl) _ _ fields.earlier.0.1.0 fields.field false false c.requires (search rules) (search rules))
