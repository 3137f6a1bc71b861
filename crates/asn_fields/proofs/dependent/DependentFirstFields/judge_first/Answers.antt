use Rattle.std.proofs.Common.{◌∷◌, []}
use Rattle.x690.specs.TypeTerms.{Required}
use Rattle.asn_fields.proofs.FieldsInDer.{are_fields, dependent_stands, required_stands}
use Rattle.asn_fields.proofs.dependent.DependentFirstFields.judge_first.Goals as goal

pub returns : goal.returns
returns g c =
    let limit = c.args.limits.depth in
    let left = c.args.left in
    let types = g.A.FieldsText.listing.types in
    let octets = c.args.octets.now in
    let behind = c.in_ok-behind.behind.now in
    let rest = c.in_ok-rest.rest.now in
    let vs = c.in_ok-behind.ensures.0 in
    let a = c.in_ok-behind.ensures.1 in
    let f = c.in_ok-rest.ensures vs behind (are_fields limit left types vs octets behind a) in
    dependent_stands limit left types (λ more. Required g.F.DependentElement.type_term more) vs (f.0 ∷ []) octets behind
    rest a (required_stands limit left g.F.DependentElement.type_term vs f.0 behind rest f.1)
