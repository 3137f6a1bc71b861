use Rattle.std.proofs.Common.{◌∙◌, ◌∷◌, [], ap, sym}
use Rattle.x690.specs.Lists.{one_of}
use Rattle.x690.specs.Values.{leaf_at}
use Rattle.pkix_definitions.specs.Identifiers.{extension_request}
use Rattle.asn_fields.proofs.PartsInDer.{only_field}
use Rattle.pkix_values.proofs.request_attribute.ByTypeDefinesRequired.is_first_in_der.Goals as goal

pub returns : goal.returns
returns g c = λ limit fields behind are.
    let f = only_field limit g.T.Element.type_term fields c.args.earlier.now behind are in
    c.names_extensions.ensures
    ∙ ap (λ o. one_of o (extension_request ∷ [])) (sym (c.in_ok-oid.ensures limit f.0 behind f.2))
    ∙ ap (λ z. one_of (leaf_at (0 ∷ []) z) (extension_request ∷ [])) (sym f.1)
