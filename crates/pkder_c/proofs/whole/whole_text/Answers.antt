use Rattle.pk_documents.specs.Encodings.{IsEncoding, octets_of}
use Rattle.pk_documents.specs.Kinds.{type_of}
use Rattle.pkder_c.proofs.Wholes.{refused_whole}
use Rattle.pkder_c.proofs.whole.whole_text.Goals as goal

pub returns-in-Ok-Err-clause-refused : goal.returns-in-Ok-Err-clause-refused
returns-in-Ok-Err-clause-refused c =
    refused_whole c.args.limits
    (type_of c.args.kind)
    c.args.src.now c.in-Ok-Err.field-0 c.in-Ok-Err.fault
    (λ encoding. IsEncoding c.args.limits (type_of c.args.kind) c.args.src.now (octets_of encoding))
    c.in-Ok-Err.field-0-is c.in-Ok-Err.ensures
