use Rattle.std.proofs.Common.{◌-◌, arith, rules}
use Rattle.asn_elements.proofs.MembersInDer.{sequence_of_begins}
use Rattle.asn_lists.proofs.in_der.judge_list.Goals as goal

pub returns : goal.returns
returns g c =
    sequence_of_begins c.args.limits.depth (c.args.left - 1) c.args.left c.args.tag c.args.some g.T.Element.type_term
    c.args.octets.now c.in_ok-contents.contents.now c.in_ok-contents.rest.now c.in_ok-contents.ensures.tag
    c.in_ok-contents.ensures.is c.in_ok-contents.ensures.small (omega (arith, c.if-left-eq0.false))
    (c.has_least.ensures (search rules)) (c.are_members.ensures (search rules))
