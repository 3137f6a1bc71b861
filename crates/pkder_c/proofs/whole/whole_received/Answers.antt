use Rattle.pk_documents.specs.Kinds.{type_of}
use Rattle.pk_documents.specs.declared.kind.Kind.TheVariants.{Request}
use Rattle.pkder_c.proofs.Wholes.{copied, not_received_made, only_memory}
use Rattle.pkder_c.proofs.whole.whole_received.Goals as goal

pub returns-in-Ok-clause-part : goal.returns-in-Ok-clause-part
returns-in-Ok-clause-part c =
    copied c.copy_of.result (λ copy. copy.items) c.args.limits c.args.src.now _ c.in-Ok.ensures.received
    c.copy_of.ensures.same

pub returns-in-Ok-clause-refused : goal.returns-in-Ok-clause-refused
returns-in-Ok-clause-refused c =
    only_memory c.copy_of.result c.args.limits (type_of Request) c.args.src.now c.copy_of.ensures.memory

pub returns-in-Err-clause-refused : goal.returns-in-Err-clause-refused
returns-in-Err-clause-refused c =
    not_received_made c.args.limits c.in-Err.error c.unread.result c.args.src.now c.unread.ensures
    c.in-Err.ensures.refused
