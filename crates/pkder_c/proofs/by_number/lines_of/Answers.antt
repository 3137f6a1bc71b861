use Rattle.std.proofs.Common.{rules}
use Rattle.pk_documents.proofs.DocumentValues.{valued}
use Rattle.pkder_c.proofs.Calls.{kind_refused, lines_for}
use Rattle.pkder_c.proofs.by_number.lines_of.Goals as goal

pub returns-clause-lines : goal.returns-clause-lines
returns-clause-lines c =
    lines_for c.whole_lines.result (λ text. text.items) valued c.args.kind c.in-Some.document c.in-Some-limits_of.limits
    (record { depth = c.args.depth; octets = c.args.octets }) c.args.src.now (search rules) (search rules)
    (search rules) c.whole_lines.ensures.lines

pub returns-clause-refused : goal.returns-clause-refused
returns-clause-refused c =
    kind_refused c.whole_lines.result c.args.kind c.in-Some.document c.in-Some-limits_of.limits
    (record { depth = c.args.depth; octets = c.args.octets }) c.args.src.now (search rules) (search rules)
    (search rules) c.whole_lines.ensures.refused
