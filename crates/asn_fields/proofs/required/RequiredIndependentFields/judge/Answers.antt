use Rattle.asn_fields.proofs.FieldsInDer.{required_begins}
use Rattle.asn_fields.proofs.required.RequiredIndependentFields.judge.Goals as goal

pub returns : goal.returns
returns g c =
    required_begins c.args.limits.depth c.args.left g.T.Element.type_term c.args.octets.now c.in_ok-rest.rest.now
    c.in_ok-rest.ensures
