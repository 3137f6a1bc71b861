use Rattle.std.proofs.Common.{◌∙◌, [], ap, rules}
use Rattle.asn_fields.proofs.FieldsInDer.{ruled_stands}
use Rattle.asn_fields.proofs.ruled.RuledElement.judge.Goals as goal

pub returns : goal.returns
returns g c =
    let v = c.in_ok-rest.ensures.0 in
    let stands = c.in_ok-rest.ensures.1 in
    let alone = stands [] in
    let passes = c.passes_in_der.ensures (search rules) c.args.limits.depth v c.in_ok-rest.rest.now
    (alone.tree, alone.is, alone.fits) in (
      v,
      λ earlier.
          ruled_stands c.args.limits.depth c.args.left g.K.Rules.rule g.T.Element.type_term earlier v
          c.args.octets.now c.in_ok-rest.rest.now (stands earlier)
          (ap (λ rule. rule v) (g.met.K.Rules.alone earlier) ∙ passes),
    )
