use Rattle.std.proofs.Common.{[]}
use Rattle.asn_fields.proofs.FieldsInDer.{required_begins}
use Rattle.asn_fields.proofs.required.RequiredFirstFields.judge_first.Goals as goal

pub returns : goal.returns
returns g c =
    let x =
    required_begins c.args.limits.depth c.args.left g.T.Element.type_term c.args.octets.now c.in_ok-rest.rest.now
    c.in_ok-rest.ensures in
    (x.0, x.1 [])
