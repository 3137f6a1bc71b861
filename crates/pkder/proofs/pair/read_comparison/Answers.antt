use Rattle.clap.specs.Words.{found_of, rows_of}
use Rattle.pkder.specs.CommandLines.{ReadsComparison, is_of_keys, kinds_given}
use Rattle.pkder.proofs.CommandLines.{means_none, no_kinds}
use Rattle.pkder.proofs.pair.read_comparison.Goals as goal

pub returns-in_err-kind-clause-means : goal.returns-in_err-kind-clause-means
returns-in_err-kind-clause-means c =
    let rows = rows_of (found_of c.args.options.now) in
    means_none (ReadsComparison rows) _ c.from_residual-in_err-kind.result c.from_residual-in_err-kind.ensures.0
    (λ comparison h. no_kinds (is_of_keys rows) (kinds_given rows) c.in_err-kind.field-0.0
    (comparison.kind, comparison.other_kind) c.in_err-kind.ensures h.2)
