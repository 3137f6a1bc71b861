use Rattle.tlv_core.specs.Limits.{Limits}
use Rattle.pk_documents.specs.Encodings.{octets_of}
use Rattle.pkder_c.specs.Calls.{IsText, KindRefused}
use Rattle.pkder_c.proofs.Calls.{wrote}
use Rattle.pkder_c.proofs.pkder_normalise.Goals as goal

pub returns : goal.returns
returns c =
    let limits : Limits = record { depth = c.args.depth; octets = c.args.octets } in
    let src = c.args.src.now in
    wrote c.text_of.result octets_of (IsText c.args.kind limits src)
    (KindRefused c.args.kind limits src)
    _ _ _ _ c.text_of.ensures.text c.text_of.ensures.refused c.deliver_encoding.ensures.put c.deliver_encoding.ensures.refused
