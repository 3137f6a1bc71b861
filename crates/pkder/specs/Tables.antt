-- What clap makes of the rows of options and commands.
use Rattle.std.specs.Prelude.{Some, false, length, map, true}
use Rattle.std.specs.List.{fold}
use Rattle.std.specs.Option.{option_or}
use Rattle.clap.specs.Words.{Rule, Shape, new_app, new_rule, with_rule}
use Rattle.pkder.specs.declared.arguments.Argument.{Argument}
use Rattle.pkder.specs.declared.arguments.Subcommand.{Subcommand}

-- the word and the letter of an option
abbrev pub words_of : Rule → Argument → Rule
words_of rule it = elim it.is_option [
  | true ↦ record rule { long = Some it.id.now; short = option_or it.letter rule.short }
  | false ↦ rule
]

abbrev pub rule_in : Argument → Rule
rule_in it = words_of (record (new_rule it.id.now) {
  action = Some it.action;
  value_names = length it.values.now;
  defaults = map (λ v. v.now) it.defaults.now;
  required = it.required;
}) it

abbrev pub shape_in : Subcommand → Shape
shape_in it = (fold with_rule (new_app it.name.now) (map rule_in it.arguments.now)).top
