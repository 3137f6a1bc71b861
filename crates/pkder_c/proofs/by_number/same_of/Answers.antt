use Rattle.std.proofs.Common.{rules}
use Rattle.pkder_c.proofs.Calls.{pair_refused, same_for}
use Rattle.pkder_c.proofs.by_number.same_of.Goals as goal

pub returns-clause-same : goal.returns-clause-same
returns-clause-same c =
    same_for c.whole_same.result c.args.kind c.in-Some.document c.in-Some-limits_of.limits
    (record { depth = c.args.depth; octets = c.args.octets }) c.args.first.now c.args.second.now (search rules)
    (search rules) (search rules) c.whole_same.ensures.same

pub returns-clause-refused : goal.returns-clause-refused
returns-clause-refused c =
    pair_refused c.whole_same.result c.args.kind c.in-Some.document c.in-Some-limits_of.limits
    (record { depth = c.args.depth; octets = c.args.octets }) c.args.first.now c.args.second.now (search rules)
    (search rules) (search rules) c.whole_same.ensures.refused
