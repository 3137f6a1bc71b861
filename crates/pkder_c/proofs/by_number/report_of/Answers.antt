use Rattle.std.proofs.Common.{rules}
use Rattle.pkder_c.proofs.Calls.{report_for, report_refused}
use Rattle.pkder_c.proofs.by_number.report_of.Goals as goal

pub returns-clause-report : goal.returns-clause-report
returns-clause-report c =
    report_for c.whole_report.result (λ made. made.0.items) (λ made. made.1) c.args.form c.args.kind c.in-Some.wanted
    c.in-Some-kind_of.document c.in-Some-limits_of.limits (record { depth = c.args.depth; octets = c.args.octets })
    c.args.src.now (search rules) (search rules) (search rules) (search rules) c.whole_report.ensures.report

pub returns-clause-refused : goal.returns-clause-refused
returns-clause-refused c =
    report_refused c.whole_report.result c.args.form c.args.kind c.in-Some-kind_of.document
    (record { depth = c.args.depth; octets = c.args.octets }) (search rules) (search rules) (search rules)
    c.whole_report.ensures.memory
