use Rattle.tlv_core.specs.Limits.{Limits}
use Rattle.pkder_c.specs.Calls.{IsPartText, PartRefused}
use Rattle.pkder_c.proofs.Calls.{wrote}
use Rattle.pkder_c.proofs.pkder_signed.Goals as goal

pub returns : goal.returns
returns c =
    let limits : Limits = record { depth = c.args.depth; octets = c.args.octets } in
    let src = c.args.src.now in
    wrote c.part_of.result (λ text. text.items) (IsPartText c.args.part limits src)
    (PartRefused c.args.part limits src)
    _ _ _ _ c.part_of.ensures.part c.part_of.ensures.refused c.deliver.ensures.put c.deliver.ensures.refused
