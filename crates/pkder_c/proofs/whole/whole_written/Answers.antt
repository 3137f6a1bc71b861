use Rattle.std.proofs.Common.{Some, rules}
use Rattle.asn_documents.proofs.WholeInputs.{unread_whole}
use Rattle.pk_documents.specs.Kinds.{type_of}
use Rattle.pk_documents.specs.declared.kind.Kind.TheVariants.{Request}
use Rattle.pk_documents.proofs.LawfulKinds.{kinds_are_lawful}
use Rattle.pkder_c.proofs.Wholes.{only_memory, written_made, unread_made}
use Rattle.pkder_c.proofs.whole.whole_written.Goals as goal

pub returns-in-Ok-clause-part : goal.returns-in-Ok-clause-part
returns-in-Ok-clause-part c =
    written_made c.part_text.result (λ text. text.items) c.args.limits c.args.part c.args.src.now _ _ c.in-Ok._taken
    (search rules) c.in-Ok.ensures.ends c.in-Ok.ensures.reads c.part_text.ensures.part

pub returns-in-Ok-clause-refused : goal.returns-in-Ok-clause-refused
returns-in-Ok-clause-refused c =
    only_memory c.part_text.result c.args.limits (type_of Request) c.args.src.now c.part_text.ensures.memory

pub returns-in-Err-clause-refused : goal.returns-in-Err-clause-refused
returns-in-Err-clause-refused c =
    unread_made c.args.limits (type_of Request) c.in-Err.error c.unread.result c.args.src.now _ c.unread.ensures
    (unread_whole c.args.limits (type_of Request) c.in-Err.error (Some c.args.src.now) _
    (kinds_are_lawful Request) c.in-Err.ensures.inside c.in-Err.ensures.reads)
