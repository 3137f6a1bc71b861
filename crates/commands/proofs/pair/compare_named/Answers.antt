use Rattle.std.proofs.Common.{◌∙◌, ap, inl, inr, refl, subst, sym}
use Rattle.std.specs.Option.{option_map}
use Rattle.pk_documents.proofs.DocumentValues.{valued}
use Rattle.commands.specs.Lines.{name_of_line}
use Rattle.commands.specs.Names.{shown_name}
use Rattle.commands.specs.Openings.{why_of}
use Rattle.commands.specs.Outcomes.{words_of}
use Rattle.commands.specs.Standards.{seen}
use Rattle.commands.specs.declared.files.Came.TheVariants.{Ran, Unopened}
use Rattle.commands.specs.declared.outcome.Outcome.TheVariants.{ReadFailed}
use Rattle.commands.proofs.Pairs.{after_name, named_from_file, named_from_input, none_is_opened, none_is_taken}
use Rattle.commands.proofs.pair.compare_named.Goals as goal

pub returns-in-Some : goal.returns-in-Some
returns-in-Some g c =
    let remaining = g.R.Source.remaining in
    let see = seen remaining g.W.Target.contents g.W.Target.has_failed g.W.Flush.is_flushed g.E.Target.contents
    g.E.Target.has_failed in
    let some = ap (option_map remaining) (sym c.take.ensures.value ∙ c.in-Some.is) in
    named_from_input valued (g.O.Opener.known c.args.opener.now) (g.O.Opener.refuses c.args.opener.now)
    c.args.comparison.now c.args.names.first.now c.args.names.second.now (remaining c.in-Some.src)
    (option_map remaining c.take.new.self) (see c.args.standard.now) (see c.compare_with.new.standard)
    c.compare_with.result c.compare_with.ensures (sym c.is_dash.ensures ∙ c.if-is_dash.true) some
    (ap (option_map remaining) c.take.ensures.after)

pub returns-in-None : goal.returns-in-None
returns-in-None g c =
    let refuses = g.O.Opener.refuses c.args.opener.now in
    let name = c.args.names.first.now in
    let input = option_map g.R.Source.remaining c.args.standard.now.input in
    let none = ap (option_map g.R.Source.remaining) (sym c.take.ensures.value ∙ c.in-None.is) in
    let line = after_name (name_of_line c.in-Ok.first) name (words_of (ReadFailed 0))
    (g.E.Target.contents c.args.standard.now.errors) (g.E.Target.contents c.finish_taken.new.dst)
    (g.E.Target.has_failed c.finish_taken.new.dst)
    (c.in-Ok.ensures ∙ ap shown_name c.as_bytes.ensures.value) c.finish_taken.ensures.line in
    inr (inl (
      Ran (ReadFailed 0),
      none_is_taken refuses name input (sym c.is_dash.ensures ∙ c.if-is_dash.true) none,
      ((line, refl, refl), c.finish_taken.ensures.status),
    ))

pub returns-in-Ok-open : goal.returns-in-Ok-open
returns-in-Ok-open g c =
    let remaining = g.R.Source.remaining in
    let known = g.O.Opener.known c.args.opener.now in
    let see = seen remaining g.W.Target.contents g.W.Target.has_failed g.W.Flush.is_flushed g.E.Target.contents
    g.E.Target.has_failed in
    named_from_file valued known (g.O.Opener.refuses c.args.opener.now) c.args.comparison.now c.args.names.first.now
    c.args.names.second.now (g.O.Document.Source.remaining c.in-Ok-open.src)
    (option_map remaining c.args.standard.now.input) (see c.args.standard.now)
    (see c.compare_with-in-Ok-open.new.standard) c.compare_with-in-Ok-open.result c.compare_with-in-Ok-open.ensures
    (sym c.is_dash.ensures ∙ c.if-is_dash.false)
    (c.in-Ok-open.ensures.opened ∙ ap known c.as_bytes-3.ensures.value) refl

pub returns-in-Err : goal.returns-in-Err
returns-in-Err g c =
    let refuses = g.O.Opener.refuses c.args.opener.now in
    let name = c.args.names.first.now in
    let input = option_map g.R.Source.remaining c.args.standard.now.input in
    let why = c.in-Err.why in
    let refused = subst (λ it. refuses it why) c.as_bytes-3.ensures.value c.in-Err.ensures.refused in
    let line = after_name (name_of_line c.in-Ok.first) name (why_of why)
    (g.E.Target.contents c.args.standard.now.errors) (g.E.Target.contents c.finish_named.new.dst)
    (g.E.Target.has_failed c.finish_named.new.dst)
    (c.in-Ok.ensures ∙ ap shown_name c.as_bytes.ensures.value) c.finish_named.ensures.line in
    inr (inl (
      Unopened why,
      none_is_opened refuses name input why (sym c.is_dash.ensures ∙ c.if-is_dash.false) refused,
      ((line, refl, refl), c.finish_named.ensures.status),
    ))
