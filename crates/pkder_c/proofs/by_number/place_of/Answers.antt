use Rattle.std.proofs.Common.{rules}
use Rattle.pkder_c.proofs.Calls.{kind_refused, place_for}
use Rattle.pkder_c.proofs.by_number.place_of.Goals as goal

pub returns-clause-place : goal.returns-clause-place
returns-clause-place c =
    place_for c.whole_place.result c.args.kind c.in-Some.document c.in-Some-limits_of.limits
    (record { depth = c.args.depth; octets = c.args.octets }) c.args.src.now (search rules) (search rules)
    (search rules) c.whole_place.ensures.place

pub returns-clause-refused : goal.returns-clause-refused
returns-clause-refused c =
    kind_refused c.whole_place.result c.args.kind c.in-Some.document c.in-Some-limits_of.limits
    (record { depth = c.args.depth; octets = c.args.octets }) c.args.src.now (search rules) (search rules)
    (search rules) c.whole_place.ensures.refused
