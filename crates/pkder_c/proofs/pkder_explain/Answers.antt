use Rattle.tlv_core.specs.Limits.{Limits}
use Rattle.pkder_c.specs.Calls.{IsReport, ReportRefused}
use Rattle.pkder_c.proofs.Calls.{reported}
use Rattle.pkder_c.proofs.pkder_explain.Goals as goal

pub returns : goal.returns
returns c =
    let limits : Limits = record { depth = c.args.depth; octets = c.args.octets } in
    let src = c.args.src.now in
    reported c.report_of.result (λ made. made.0.items) (λ made. made.1) (IsReport c.args.form c.args.kind limits src)
    (ReportRefused c.args.form c.args.kind limits)
    _ _ _ _ c.report_of.ensures.report c.report_of.ensures.refused c.report.ensures.put c.report.ensures.refused
