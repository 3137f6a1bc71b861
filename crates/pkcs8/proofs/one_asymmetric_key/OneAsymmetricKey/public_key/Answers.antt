use Rattle.std.proofs.Common.{◌≡◌, ◌∙◌, ◌||◌, ◌∷◌, None, [], ap, not, refl, sym, true}
use Rattle.std.specs.Option.{is_some}
use Rattle.asn_elements.specs.Implicits.{value_under}
use Rattle.pkcs8.specs.Seen.{bits_of}
use Rattle.pkcs8.specs.declared.one_asymmetric_key.OneAsymmetricKey.{OneAsymmetricKey}
use Rattle.pkcs8.proofs.KeyVersions.{is_1, passes_where, seen_by_version, shown_where_there, stands_by, version_judged}
use Rattle.pkcs8.proofs.one_asymmetric_key.OneAsymmetricKey.public_key.Goals as goal
use Rattle.pkix_definitions.specs.Rules.{else_refused}
use Rattle.tlv_core.specs.declared.reason.Reason.TheVariants.{VersionRule}
use Rattle.x690.specs.Lists.{one_of}
use Rattle.x690.specs.Values.{leaf_at}

-- what the rule on versions says of a key that it let pass
passes : (key : OneAsymmetricKey)
    → (one_of (key.0.value.fields.0.earlier.0.0.earlier.0.0.0.number ∷ []) ((0 ∷ []) ∷ [])
    || is_some key.0.value.fields.0.field)
    ≡ true
passes key =
    let fields = key.0.value.fields.0 in
    let number = fields.earlier.0.0.earlier.0.0.0.number in
    let rule : None ≡ else_refused (one_of (number ∷ []) ((0 ∷ []) ∷ []) || is_some fields.field) VersionRule =
    sym key.0.judged
    ∙ version_judged _ _ number _ _ (λ x. refl) _ _ fields.earlier.0.1.0 fields.field _ _ key.0.value.known refl refl in
    passes_where _ (sym rule)

pub returns-in-Some-clause-stands : goal.returns-in-Some-clause-stands
unfolding leaf_at
returns-in-Some-clause-stands c =
    let key = c.args.self.now.0 in
    let fields = key.value.fields.0 in
    let version = fields.earlier.0.0.earlier.0.0.0 in
    let stands : is_some (bits_of fields.field) ≡ not (one_of (version.number ∷ []) ((0 ∷ []) ∷ [])) =
    stands_by (one_of (version.number ∷ []) ((0 ∷ []) ∷ [])) _ fields.field fields.suits
    (λ k s. seen_by_version _ _ (λ ruled. value_under ruled.value) _ k.value s) (passes c.args.self.now) in
    let field =
    c.public_key.ensures ∙ ap (λ f. f.0.field) (c.deref.ensures ∙ ap (λ r. r.fields) c.value.ensures.value) in
    shown_where_there (λ r. r.now) c.key_bits.result
    ∙ ap is_some (c.key_bits.ensures ∙ ap bits_of (sym c.in-Some.is ∙ field))
    ∙ stands
    ∙ is_1 version.number version.allowed

pub returns-in-None-clause-stands : goal.returns-in-None-clause-stands
unfolding leaf_at
returns-in-None-clause-stands c =
    let key = c.args.self.now.0 in
    let fields = key.value.fields.0 in
    let version = fields.earlier.0.0.earlier.0.0.0 in
    let stands : is_some (bits_of fields.field) ≡ not (one_of (version.number ∷ []) ((0 ∷ []) ∷ [])) =
    stands_by (one_of (version.number ∷ []) ((0 ∷ []) ∷ [])) _ fields.field fields.suits
    (λ k s. seen_by_version _ _ (λ ruled. value_under ruled.value) _ k.value s) (passes c.args.self.now) in
    let field =
    c.public_key.ensures ∙ ap (λ f. f.0.field) (c.deref.ensures ∙ ap (λ r. r.fields) c.value.ensures.value) in
    ap (λ f. is_some (bits_of f)) (sym c.in-None.is ∙ field) ∙ stands ∙ is_1 version.number version.allowed
