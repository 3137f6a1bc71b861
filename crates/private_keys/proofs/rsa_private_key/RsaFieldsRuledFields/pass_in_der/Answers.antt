use Rattle.std.proofs.Common.{◌∙◌, ◌||◌, ◌==◌, ◌∷◌, [], ap, length, sym}
use Rattle.tlv_core.specs.declared.reason.Reason.TheVariants.{VersionRule}
use Rattle.x690.specs.TypeTerms.{Optional, Required}
use Rattle.x690.specs.Values.{members, values_of}
use Rattle.pkix_definitions.specs.DocumentTypes.{other_prime_infos, version}
use Rattle.pkix_definitions.specs.Paths.{version_0, version_1}
use Rattle.pkix_definitions.specs.Rules.{else_refused}
use Rattle.pkix_values.proofs.InDer.{version_0_first}
use Rattle.private_keys.specs.RsaNumbers.{integers_due}
use Rattle.private_keys.proofs.RsaInDer.{ten_pass}
use Rattle.private_keys.proofs.rsa_private_key.RsaFieldsRuledFields.pass_in_der.Goals as goal

pub returns-then-names_version_0 : goal.returns-then-names_version_0
returns-then-names_version_0 c = λ pass limit values are.
    ap (λ b. else_refused (b || (length (members (values_of values)) == 10)) VersionRule)
    (version_0_first limit (version_0 ∷ version_1 ∷ []) (λ more. integers_due 8 (Optional other_prime_infos more)) values
    c.args.octets.now c.in-Some.version.now _ [] _ are c.in-Some.ensures.is
    (sym c.names_version_0.ensures ∙ c.if-names_version_0.true))

pub returns : goal.returns
returns c = λ pass limit values are.
    ten_pass limit (λ more. Required (version (version_0 ∷ version_1 ∷ [])) (integers_due 8 (Optional other_prime_infos more)))
    values c.args.octets.now c.in-Some.version.now c.in-Some.behind.now _ are c.in-Some.ensures.is
    (c.are_numbers_and_primes.ensures pass)
