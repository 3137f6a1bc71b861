use Rattle.std.proofs.Common.{◌∙◌, ◌+◌, ap, drop, map}
use Rattle.std.specs.List.{fold}
use Rattle.clap.specs.Words.{app_of, with_subcommand}
use Rattle.pkder.specs.Tables.{shape_in}
use Rattle.pkder.proofs.Tables.{next_added}
use Rattle.pkder.proofs.command.command.Goals as goal

pub loop-row-preserved : goal.loop-row-preserved
loop-row-preserved c =
    let rows = c.subcommands-row-items.result.now in
    let at = c.loop-row.row-index in
    ap (λ app. fold with_subcommand app (map shape_in (drop (at + 1) rows)))
    (c.in_ok-command.ensures.shape c.in_ok-one.ensures.local
    ∙ ap (λ shape. with_subcommand (app_of c.loop-row.command) shape) c.in_ok-one.ensures.shape)
    ∙ next_added (app_of c.loop-row.command) rows at _ c.loop-row-test.true
    ∙ c.loop-row.invariant
