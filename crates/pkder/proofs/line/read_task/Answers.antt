use Rattle.clap.specs.Words.{found_of, rows_of}
use Rattle.pkder.specs.CommandLines.{MeansTask}
use Rattle.pkder.proofs.CommandLines.{means_none, no_action, no_kind}
use Rattle.pkder.proofs.line.read_task.Goals as goal

pub returns-in_err-action-clause-means : goal.returns-in_err-action-clause-means
returns-in_err-action-clause-means c =
    let rows = rows_of (found_of c.args.options.now) in
    means_none (MeansTask c.args.name.now rows) _ c.from_residual-in_err-action.result
    c.from_residual-in_err-action.ensures.0
    (λ task m. no_action c.args.name.now rows c.in_err-action.field-0.0 task c.in_err-action.ensures m)

pub returns-in_err-kind-clause-means : goal.returns-in_err-kind-clause-means
returns-in_err-kind-clause-means c =
    let rows = rows_of (found_of c.args.options.now) in
    means_none (MeansTask c.args.name.now rows) _ c.from_residual-in_err-kind.result
    c.from_residual-in_err-kind.ensures.0
    (λ task m. no_kind c.args.name.now rows c.in_err-kind.field-0.0 c.in_ok-action.action task
    c.in_ok-action.ensures.0 c.in_err-kind.ensures m)
