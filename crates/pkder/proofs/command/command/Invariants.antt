use Rattle.std.proofs.Common.{◌≡◌, drop, map}
use Rattle.std.specs.List.{fold}
use Rattle.clap.specs.Words.{app_of, with_subcommand}
use Rattle.pkder.specs.CommandLines.{program}
use Rattle.pkder.specs.Tables.{shape_in}
use Rattle.pkder.proofs.command.command.Given as goal

abbrev pub invariant-loop-row : goal.invariant-loop-row
invariant-loop-row l =
    fold with_subcommand (app_of l.command) (map shape_in (drop l.row-index l.row-items)) ≡ program
