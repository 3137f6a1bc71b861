use Rattle.std.proofs.Common.{◌∙◌, ap, sym}
use Rattle.std.specs.Option.{option_map}
use Rattle.pk_documents.proofs.DocumentValues.{valued}
use Rattle.commands.specs.Lines.{name_of_line}
use Rattle.commands.specs.Names.{shown_name}
use Rattle.commands.specs.Standards.{file_named, seen}
use Rattle.commands.proofs.Conversions.{converts_named}
use Rattle.commands.proofs.convert.convert.Goals as goal

pub returns-in-Ok-open-clause-converts : goal.returns-in-Ok-open-clause-converts
returns-in-Ok-open-clause-converts g c =
    let known = g.O.Opener.known c.args.opener.now in
    let see =
    seen g.R.Source.remaining g.W.Target.contents g.W.Target.has_failed g.W.Flush.is_flushed g.E.Target.contents
    g.E.Target.has_failed in
    let converted = c.convert_from-converted-in-Ok-open in
    let finished = c.finish_converted-in-Ok-open in
    converts_named valued known (g.O.Opener.refuses c.args.opener.now) g.M.File.NewFile.made
    (g.M.NewFiles.refuses c.args.files.now) c.args.task.now c.in-Some.name.now (name_of_line c.in-Ok.named)
    (option_map (λ it. it.now) c.file_named-to.result) (see c.args.standard.now)
    (see (record { input = c.args.standard.now.input; output = converted.new.dst; errors = finished.new.dst }))
    finished.result converted.result (g.O.Document.Source.remaining c.in-Ok-open.src)
    (g.O.Document.Source.remaining converted.new.src) (g.O.Document.Source.has_failed converted.new.src)
    (file_named (option_map (λ it. it.now) c.args.places.from))
    (file_named (option_map (λ it. it.now) c.args.places.to))
    (option_map g.R.Source.remaining c.args.standard.now.input)
    (ap (option_map (λ it. it.now)) (sym c.in-Some.is) ∙ c.file_named.ensures) c.file_named-to.ensures
    (c.in-Ok.ensures ∙ ap shown_name c.as_bytes.ensures.value)
    (c.in-Ok-open.ensures.opened ∙ ap known c.as_bytes-2.ensures.value) converted.ensures finished.ensures
