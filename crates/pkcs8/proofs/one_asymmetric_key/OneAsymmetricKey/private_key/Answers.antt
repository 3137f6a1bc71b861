use Rattle.std.proofs.Common.{◌≡◌, rules, subst, sym}
use Rattle.pkix_values.specs.Algorithms.{algorithm_of}
use Rattle.pkcs8.specs.AsymmetricKeys.{key_algorithm_of, private_key_of}
use Rattle.pkcs8.specs.Seen.{GoesWith, key_seen}
use Rattle.pkcs8.proofs.KindsOfKeys.{goes_with}
use Rattle.pkcs8.proofs.one_asymmetric_key.OneAsymmetricKey.private_key.Goals as goal
use Rattle.x690.specs.Values.{leaf_at}

pub returns-clause-goes_with : goal.returns-clause-goes_with
unfolding leaf_at
returns-clause-goes_with c =
    let it = c.args.self.now in
    let key = it.0.value.fields.0.earlier.0.0 in
    let same : key_seen c.in_field.result ≡ private_key_of it = search rules in
    subst (GoesWith (algorithm_of (key_algorithm_of it))) (sym same)
    (goes_with (algorithm_of (key_algorithm_of it)) (λ m. m.value) (λ n. n.value) (λ e. e.string.inner)
    (λ k. k.string.inner) (λ r. r.0.inner.0.value) (λ o. o.0) _ _ _ _ key.field.0.value key.suits)
