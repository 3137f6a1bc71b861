use Rattle.tlv_core.specs.Limits.{Limits}
use Rattle.pkder_c.specs.Calls.{IsPlace, KindRefused}
use Rattle.pkder_c.proofs.Calls.{checked}
use Rattle.pkder_c.proofs.pkder_check.Goals as goal

pub returns : goal.returns
returns c =
    let limits : Limits = record { depth = c.args.depth; octets = c.args.octets } in
    let src = c.args.src.now in
    checked c.place_of.result (IsPlace c.args.kind limits src)
    (KindRefused c.args.kind limits src)
    _ _ c.place_of.ensures.place c.place_of.ensures.refused c.place_outcome.ensures.checked
    c.place_outcome.ensures.refused
