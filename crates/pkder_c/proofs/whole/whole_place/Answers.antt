use Rattle.pk_documents.specs.Kinds.{type_of}
use Rattle.pkder_c.proofs.Wholes.{place_made, unread_made}
use Rattle.pkder_c.proofs.whole.whole_place.Goals as goal

pub returns-in-Ok-clause-place : goal.returns-in-Ok-clause-place
returns-in-Ok-clause-place c =
    place_made c.args.limits
    (type_of c.args.kind) c.args.src.now _ c.in-Ok._taken c.in-Ok.place c.in-Ok.ensures.ends c.in-Ok.ensures.checked

pub returns-in-Err-clause-refused : goal.returns-in-Err-clause-refused
returns-in-Err-clause-refused c =
    unread_made c.args.limits
    (type_of c.args.kind) c.in-Err.error c.unread.result c.args.src.now _ c.unread.ensures c.in-Err.ensures.checked
