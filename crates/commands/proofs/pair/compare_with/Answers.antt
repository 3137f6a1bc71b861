use Rattle.std.proofs.Common.{◌∙◌, ap, inl, refl, subst, sym}
use Rattle.std.specs.Option.{option_map}
use Rattle.commands.specs.Lines.{name_of_line}
use Rattle.commands.specs.Openings.{why_of}
use Rattle.commands.specs.Outcomes.{words_of}
use Rattle.commands.specs.declared.files.Came.TheVariants.{Ran, Unopened}
use Rattle.commands.specs.declared.outcome.Outcome.TheVariants.{ReadFailed}
use Rattle.commands.proofs.Pairs.{after_name, none_is_opened, none_is_taken}
use Rattle.commands.proofs.pair.compare_with.Goals as goal

pub returns-in-None : goal.returns-in-None
returns-in-None g c =
    let refuses = g.O.Opener.refuses c.args.opener.now in
    let name = c.args.named.names.second.now in
    let input = option_map g.R.Source.remaining c.args.standard.now.input in
    let none = ap (option_map g.R.Source.remaining) (sym c.take.ensures.value ∙ c.in-None.is) in
    let line = after_name (name_of_line c.args.named.second) name (words_of (ReadFailed 0))
    (g.E.Target.contents c.args.standard.now.errors) (g.E.Target.contents c.finish_taken.new.dst)
    (g.E.Target.has_failed c.finish_taken.new.dst) c.args.named.second_shown c.finish_taken.ensures.line in
    inl (
      Ran (ReadFailed 0),
      none_is_taken refuses name input (sym c.is_dash.ensures ∙ c.if-is_dash.true) none,
      ((line, refl, refl), c.finish_taken.ensures.status),
    )

pub returns-in-Err : goal.returns-in-Err
returns-in-Err g c =
    let refuses = g.O.Opener.refuses c.args.opener.now in
    let name = c.args.named.names.second.now in
    let input = option_map g.R.Source.remaining c.args.standard.now.input in
    let why = c.in-Err.why in
    let refused = subst (λ it. refuses it why) c.as_bytes.ensures.value c.in-Err.ensures.refused in
    let line = after_name (name_of_line c.args.named.second) name (why_of why)
    (g.E.Target.contents c.args.standard.now.errors) (g.E.Target.contents c.finish_named.new.dst)
    (g.E.Target.has_failed c.finish_named.new.dst) c.args.named.second_shown c.finish_named.ensures.line in
    inl (
      Unopened why,
      none_is_opened refuses name input why (sym c.is_dash.ensures ∙ c.if-is_dash.false) refused,
      ((line, refl, refl), c.finish_named.ensures.status),
    )
