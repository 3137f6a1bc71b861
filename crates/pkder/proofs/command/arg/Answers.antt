use Rattle.std.proofs.Common.{◌∙◌, Some, ap, length, map}
use Rattle.clap.specs.Words.{Rule, rule_of}
use Rattle.clap.specs.declared.builder.arg.Arg.{Arg}
use Rattle.clap.specs.declared.builder.texts.Texts.TheVariants.{Many}
use Rattle.pkder.specs.Tables.{words_of}
use Rattle.pkder.proofs.command.arg.Goals as goal

pub returns-clause-rule : goal.returns-clause-rule
returns-clause-rule c =
    let row = c.args.argument.now in
    let helped : Arg → Arg = λ a. record a { help = Some row.help } in
    let standing : Arg → Arg = λ a. record a { default_vals = Many row.defaults } in
    let due : Arg → Arg = λ a. record a { required = row.required } in
    let acting : Arg → Arg = λ a. record a { action = Some row.action } in
    let ruled : Rule → Rule = λ rule. record rule {
      action = Some row.action;
      value_names = length row.values.now;
      defaults = map (λ v. v.now) row.defaults.now;
      required = row.required;
    } in
    c.with_words.ensures.words
    ∙ ap (λ a. words_of (rule_of a) row)
    (c.action-arg.ensures
    ∙ ap acting
    (c.required.ensures
    ∙ ap due (c.default_values.ensures ∙ ap standing (c.help.ensures ∙ ap helped c.value_names.ensures))))
    ∙ ap (λ rule. words_of (ruled rule) row) c.new.ensures.rule
