use Rattle.std.proofs.Common.{rules}
use Rattle.asn_fields.proofs.FieldsInDer.{ruled_stands}
use Rattle.asn_fields.proofs.ruled_behind.RuledBehindDependentElement.judge.Goals as goal

pub returns : goal.returns
returns g c = λ fields behind are.
    let limit = c.args.limits.depth in
    let left = c.args.left in
    let octets = c.args.octets.now in
    let rest = c.in_ok-rest.rest.now in
    let v = c.in_ok-rest.ensures.0 in
    let stands = c.in_ok-rest.ensures.1 fields in (
      v,
      ruled_stands limit left g.K.FieldRules.rule g.T.Element.type_term fields v octets rest stands
          (c.passes_in_der.ensures (search rules) limit fields v behind rest are (stands.tree, stands.is, stands.fits)),
    )
