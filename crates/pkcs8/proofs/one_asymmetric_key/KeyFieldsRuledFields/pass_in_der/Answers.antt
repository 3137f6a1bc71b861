use Rattle.std.proofs.Common.{◌∙◌, ◌||◌, ◌∷◌, [], ap, sym}
use Rattle.tlv_core.specs.declared.reason.Reason.TheVariants.{VersionRule}
use Rattle.x690.specs.Layouts.{context_specific}
use Rattle.x690.specs.TypeTerms.{Fields, Optional, Required, RuledType, SetOfType}
use Rattle.x690.specs.Values.{members, values_of}
use Rattle.pkix_definitions.specs.DocumentTypes.{AlgorithmIdentifier, Attribute, private_key, public_key, version}
use Rattle.pkix_definitions.specs.Paths.{version_0, version_1}
use Rattle.pkix_definitions.specs.Rules.{ec_parameters_rule, else_refused}
use Rattle.pkix_values.proofs.InDer.{version_0_first}
use Rattle.pkcs8.specs.PublicKeyInDer.{has_key}
use Rattle.pkcs8.proofs.PublicKeyInDer.{version_passes}
use Rattle.pkcs8.proofs.one_asymmetric_key.KeyFieldsRuledFields.pass_in_der.Goals as goal

abbrev behind_version : Fields → Fields
behind_version more =
    Required (RuledType ec_parameters_rule AlgorithmIdentifier) (Required private_key
    (Optional (SetOfType (context_specific 0) 0 Attribute) (Optional public_key more)))

pub returns-then-names_version_0 : goal.returns-then-names_version_0
returns-then-names_version_0 c = λ pass limit values are.
    ap (λ b. else_refused (b || has_key (members (values_of values))) VersionRule)
    (version_0_first limit (version_0 ∷ version_1 ∷ []) behind_version values c.args.octets.now c.in-Some.version.now _ []
    _ are c.in-Some.ensures (sym c.names_version_0.ensures ∙ c.if-names_version_0.true))

pub returns : goal.returns
returns c = λ pass limit values are.
    version_passes limit (λ more. Required (version (version_0 ∷ version_1 ∷ [])) (behind_version more)) values
    c.args.octets.now c.in-Some.version.now c.in-Some.behind.now _ are c.in-Some.ensures
    (c.has_public_key.ensures pass)
