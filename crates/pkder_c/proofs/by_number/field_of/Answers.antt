use Rattle.std.proofs.Common.{rules}
use Rattle.pkder_c.proofs.Calls.{field_for, field_refused}
use Rattle.pkder_c.proofs.by_number.field_of.Goals as goal

pub returns-clause-field : goal.returns-clause-field
returns-clause-field c =
    field_for c.whole_field.result (λ made. made.0.items) (λ made. made.1) c.args.kind c.in-Some.document
    c.in-Some-limits_of.limits (record { depth = c.args.depth; octets = c.args.octets }) c.args.src.now
    (search rules) (search rules) (search rules) c.whole_field.ensures.field

pub returns-clause-refused : goal.returns-clause-refused
returns-clause-refused c =
    field_refused c.whole_field.result c.args.kind c.in-Some.document
    (record { depth = c.args.depth; octets = c.args.octets }) (search rules) (search rules)
    c.whole_field.ensures.memory
