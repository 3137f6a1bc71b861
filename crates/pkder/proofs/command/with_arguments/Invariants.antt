use Rattle.std.proofs.Common.{◌≡◌, drop, false, map}
use Rattle.std.specs.List.{fold}
use Rattle.clap.specs.Words.{app_of, with_rule}
use Rattle.clap.specs.declared.builder.command.Command.TheViews.{out-Command as fields_of}
use Rattle.pkder.specs.Tables.{rule_in}
use Rattle.pkder.proofs.command.with_arguments.Given as goal

abbrev pub invariant-loop-argument : goal.invariant-loop-argument
invariant-loop-argument l =
    (fold with_rule (app_of l.command) (map rule_in (drop l.argument-index l.fn.arguments))
    ≡ fold with_rule (app_of l.fn.command) (map rule_in l.fn.arguments))
    × ((fields_of l.command).has_globals ≡ false)
