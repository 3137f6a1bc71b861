use Rattle.tlv_core.specs.Limits.{Limits}
use Rattle.pkder_c.specs.Calls.{FieldRefused, IsField}
use Rattle.pkder_c.proofs.Calls.{reported}
use Rattle.pkder_c.proofs.pkder_field.Goals as goal

pub returns : goal.returns
returns c =
    let limits : Limits = record { depth = c.args.depth; octets = c.args.octets } in
    let src = c.args.src.now in
    reported c.field_of.result (λ made. made.0.items) (λ made. made.1) (IsField c.args.kind limits src)
    (FieldRefused c.args.kind limits)
    _ _ _ _ c.field_of.ensures.field c.field_of.ensures.refused c.report.ensures.put c.report.ensures.refused
