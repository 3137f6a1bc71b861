use Rattle.tlv_core.specs.Limits.{Limits}
use Rattle.pk_documents.proofs.DocumentValues.{valued}
use Rattle.pkder_c.specs.Calls.{AreLines, KindRefused}
use Rattle.pkder_c.proofs.Calls.{wrote}
use Rattle.pkder_c.proofs.pkder_show.Goals as goal

pub returns : goal.returns
returns c =
    let limits : Limits = record { depth = c.args.depth; octets = c.args.octets } in
    let src = c.args.src.now in
    wrote c.lines_of.result (λ text. text.items) (AreLines valued c.args.kind limits src)
    (KindRefused c.args.kind limits src)
    _ _ _ _ c.lines_of.ensures.lines c.lines_of.ensures.refused c.deliver.ensures.put c.deliver.ensures.refused
