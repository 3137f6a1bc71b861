use Rattle.std.proofs.Common.{rules}
use Rattle.pkder_c.proofs.Calls.{part_for, part_refused}
use Rattle.pkder_c.proofs.by_number.part_of.Goals as goal

pub returns-clause-part : goal.returns-clause-part
returns-clause-part c =
    part_for c.whole_part.result (λ text. text.items) c.args.part c.in-Some.wanted c.in-Some-limits_of.limits
    (record { depth = c.args.depth; octets = c.args.octets }) c.args.src.now (search rules) (search rules)
    (search rules) c.whole_part.ensures.part

pub returns-clause-refused : goal.returns-clause-refused
returns-clause-refused c =
    part_refused c.whole_part.result c.args.part c.in-Some.wanted c.in-Some-limits_of.limits
    (record { depth = c.args.depth; octets = c.args.octets }) c.args.src.now (search rules) (search rules)
    (search rules) c.whole_part.ensures.refused
