use Rattle.std.proofs.Common.{Some, refl, subst}
use Rattle.asn_documents.specs.ReadValues.{StopsReading}
use Rattle.pk_documents.specs.Kinds.{type_of}
use Rattle.pk_documents.proofs.DocumentValues.{valued}
use Rattle.commands.proofs.EachSteps.{document_begins, none_ever}
use Rattle.commands.proofs.each.begun_by_kind.Goals as goal

pub returns-in-Ok : goal.returns-in-Ok
returns-in-Ok c =
    document_begins c.args.limits c.args.kind (valued c.in-Ok._document) c.args.octets.now c.read_document.new.src.now
    c.in-Ok._taken _ c.in-Ok.ensures.reads refl

pub returns-in_default : goal.returns-in_default
returns-in_default c =
    let stopped =
    subst
    (λ error. StopsReading c.args.limits (type_of c.args.kind) error (Some c.args.octets.now)
    (Some c.read_document.new.src.now)) c.in-Err-Fault.field-0-is c.in-Err-Fault.ensures.reads.0 in
    none_ever c.args.limits c.args.kind c.args.octets.now c.read_document.new.src.now c.in-Err-Fault.fault stopped
    (rw c.in-Err-Fault.field-0-is at c.in_default.not-Truncated)
