use Rattle.std.proofs.Common.{rules}
use Rattle.pk_documents.specs.Encodings.{octets_of}
use Rattle.pkder_c.proofs.Calls.{kind_refused, text_for}
use Rattle.pkder_c.proofs.by_number.text_of.Goals as goal

pub returns-clause-text : goal.returns-clause-text
returns-clause-text c =
    text_for c.whole_text.result octets_of c.args.kind c.in-Some.document c.in-Some-limits_of.limits
    (record { depth = c.args.depth; octets = c.args.octets }) c.args.src.now (search rules) (search rules)
    (search rules) c.whole_text.ensures.text

pub returns-clause-refused : goal.returns-clause-refused
returns-clause-refused c =
    kind_refused c.whole_text.result c.args.kind c.in-Some.document c.in-Some-limits_of.limits
    (record { depth = c.args.depth; octets = c.args.octets }) c.args.src.now (search rules) (search rules)
    (search rules) c.whole_text.ensures.refused
