use Rattle.std.proofs.Common.{◌∙◌, ◌∷◌, [], ap, subst, sym}
use Rattle.x690.specs.Lists.{one_of}
use Rattle.asn_fields.specs.FieldsInDer.{AreFields}
use Rattle.pkix_definitions.specs.Identifiers.{ec_public_key}
use Rattle.pkcs8.proofs.inner_keys.UnderEcDefines.is_first_in_der.Goals as goal

pub returns : goal.returns
returns g c = λ limit fields behind are.
    let head = c.in_ok-_version.ensures limit g.A.NamesKey.behind fields behind
    (subst (λ types. AreFields limit (λ end. types) fields c.args.earlier.now behind) g.met.A.NamesKey.headed are) in
    c.is_ec.ensures ∙ ap (λ a. one_of a (ec_public_key ∷ [])) (sym head.1)
