use Rattle.std.proofs.Common.{◌∙◌, ◌∷◌, [], ap, subst, sym}
use Rattle.x690.specs.Lists.{one_of}
use Rattle.x690.specs.TypeTerms.{Required, RuledType}
use Rattle.asn_fields.specs.FieldsInDer.{AreFields}
use Rattle.pkix_definitions.specs.DocumentTypes.{AlgorithmIdentifier}
use Rattle.pkix_definitions.specs.Paths.{version_0, version_1}
use Rattle.pkix_definitions.specs.Rules.{ec_parameters_rule}
use Rattle.pkix_values.proofs.InDer.{version_first}
use Rattle.pkcs8.proofs.public_key.PublicKeyUnderVersion0Defines.is_first_in_der.Goals as goal

pub returns : goal.returns
returns g c = λ limit fields behind are.
    c.names_version_0.ensures
    ∙ ap (λ v. one_of v (version_0 ∷ []))
    (sym (version_first limit (version_0 ∷ version_1 ∷ [])
    (λ end. Required (RuledType ec_parameters_rule AlgorithmIdentifier) g.A.NamesKey.behind) fields c.args.earlier.now
    c.in_ok-version.version.now _ behind _
    (subst (λ types. AreFields limit (λ end. types) fields c.args.earlier.now behind) g.met.A.NamesKey.headed are)
    c.in_ok-version.ensures))
