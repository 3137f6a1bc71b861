use Rattle.std.proofs.Common.{rules}
use Rattle.asn_fields.proofs.FieldsInDer.{optional_absent, optional_there}
use Rattle.asn_fields.proofs.optional.judge_optional.Goals as goal

pub returns-then-not-branch : goal.returns-then-not-branch
returns-then-not-branch g c =
    optional_absent c.args.limits.depth c.args.left g.T.Element.type_term c.args.octets.now
    (c.in_ok-begins_as.ensures (search rules))

pub returns : goal.returns
returns g c =
    optional_there c.args.limits.depth c.args.left g.T.Element.type_term c.args.octets.now c.in_ok-rest.rest.now
    c.in_ok-rest.ensures
