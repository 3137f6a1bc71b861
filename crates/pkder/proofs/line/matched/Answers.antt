use Rattle.std.proofs.Common.{◌≡◌, Some, rules}
use Rattle.std.specs.Prelude.{string_bytes}
use Rattle.clap.specs.Words.{found_of, rows_of, subcommand_rows_of}
use Rattle.pkder.proofs.CommandLines.{shown_why}
use Rattle.pkder.proofs.line.matched.Goals as goal

pub returns-in_ok-text-in-Err : goal.returns-in_ok-text-in-Err
returns-in_ok-text-in-Err c =
    let sub = subcommand_rows_of c.args.matches.now in
    let name = c.in-Some.name.now in
    let rows = rows_of (found_of c.in-Some.options.now) in
    let met : sub ≡ Some (name, rows) = search rules in
    shown_why sub name rows c.in-Err.bad
    (string_bytes c.in_ok-text-in-Err.field-0)
    met c.in-Err.ensures.means c.in-Err.ensures.refused c.in_ok-text-in-Err.ensures
