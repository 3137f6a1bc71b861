use Rattle.std.proofs.Common.{◌+◌, subst, sym}
use Rattle.commands.specs.Inputs.{TakesFirst}
use Rattle.commands.proofs.reply.report_of_input.Goals as goal

pub returns-clause-reports : goal.returns-clause-reports
returns-clause-reports g c =
    let l = c.args.task.now.limits in
    let before = g.R.Source.remaining c.args.src.now in
    let after = g.R.Source.remaining c.read_all.new.src in
    let octets = c.as_slice.result.now in
    let taken : TakesFirst (l.octets + 1) before after octets =
    subst (λ o. TakesFirst (l.octets + 1) before after o) (sym c.as_slice.ensures.value)
    (subst (λ n. TakesFirst (n + 1) before after c.in_ok-octets.octets.items) c.octets.ensures.value
    c.in_ok-octets.ensures.takes) in
    (octets, taken, c.in_ok-report.ensures)
