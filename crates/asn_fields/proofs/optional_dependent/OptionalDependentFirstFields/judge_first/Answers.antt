use Rattle.std.proofs.Common.{◌∷◌, [], rules}
use Rattle.x690.specs.TypeTerms.{Optional}
use Rattle.asn_fields.proofs.FieldsInDer.{are_fields, dependent_stands, none_stands, optional_stands}
use Rattle.asn_fields.proofs.optional_dependent.OptionalDependentFirstFields.judge_first.Goals as goal

pub returns-then-not-branch : goal.returns-then-not-branch
returns-then-not-branch g c =
    let limit = c.args.limits.depth in
    let left = c.args.left in
    let types = g.A.FieldsText.listing.types in
    let octets = c.args.octets.now in
    let behind = c.in_ok-behind.behind.now in
    let vs = c.in_ok-behind.ensures.0 in
    let T = g.F.DependentElement.type_term in
    dependent_stands limit left types (λ more. Optional T more) vs [] octets behind behind c.in_ok-behind.ensures.1
    (none_stands limit left T vs behind (c.in_ok-begins_as_dependent.ensures (search rules)))

pub returns : goal.returns
returns g c =
    let limit = c.args.limits.depth in
    let left = c.args.left in
    let types = g.A.FieldsText.listing.types in
    let octets = c.args.octets.now in
    let behind = c.in_ok-behind.behind.now in
    let rest = c.in_ok-rest.rest.now in
    let vs = c.in_ok-behind.ensures.0 in
    let a = c.in_ok-behind.ensures.1 in
    let T = g.F.DependentElement.type_term in
    let f = c.in_ok-rest.ensures vs behind (are_fields limit left types vs octets behind a) in
    dependent_stands limit left types (λ more. Optional T more) vs (f.0 ∷ []) octets behind rest a
    (optional_stands limit left T vs f.0 behind rest f.1)
