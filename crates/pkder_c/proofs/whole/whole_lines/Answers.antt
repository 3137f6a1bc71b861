use Rattle.pk_documents.specs.Kinds.{type_of}
use Rattle.pk_documents.proofs.DocumentValues.{valued}
use Rattle.pkder_c.proofs.Wholes.{lines_made, only_memory, unread_made}
use Rattle.pkder_c.proofs.whole.whole_lines.Goals as goal

pub returns-in-Ok-clause-lines : goal.returns-in-Ok-clause-lines
returns-in-Ok-clause-lines c =
    lines_made c.lines_text.result (λ text. text.items) valued c.args.limits c.args.kind c.args.src.now _
    c.in-Ok.document c.in-Ok._taken c.in-Ok.ensures.kind c.in-Ok.ensures.ends c.in-Ok.ensures.reads
    c.lines_text.ensures.lines

pub returns-in-Ok-clause-refused : goal.returns-in-Ok-clause-refused
returns-in-Ok-clause-refused c =
    only_memory c.lines_text.result c.args.limits (type_of c.args.kind) c.args.src.now c.lines_text.ensures.memory

pub returns-in-Err-clause-refused : goal.returns-in-Err-clause-refused
returns-in-Err-clause-refused c =
    unread_made c.args.limits
    (type_of c.args.kind) c.in-Err.error c.unread.result c.args.src.now _ c.unread.ensures c.in-Err.ensures.reads
