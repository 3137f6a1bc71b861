use Rattle.std.proofs.Common.{◌∙◌, ap, refl, subst}
use Rattle.std.specs.Option.{option_map}
use Rattle.pk_documents.proofs.DocumentValues.{valued}
use Rattle.commands.specs.JudgedStreams.{JudgesStream}
use Rattle.commands.specs.Judgements.{Tallied}
use Rattle.commands.specs.Lines.{name_of_line}
use Rattle.commands.specs.Names.{shown_name}
use Rattle.commands.specs.Standards.{seen}
use Rattle.commands.proofs.JudgedStreams.{file_opened, file_unopened}
use Rattle.commands.proofs.judge_streams.judge_file_stream.Goals as goal

pub returns-in-Ok-open-clause-judges : goal.returns-in-Ok-open-clause-judges
returns-in-Ok-open-clause-judges g c =
    let see =
    seen g.R.Source.remaining g.W.Target.contents g.W.Target.has_failed g.W.Flush.is_flushed g.E.Target.contents
    g.E.Target.has_failed in
    let known = g.O.Opener.known c.args.opener.now in
    let shown = name_of_line c.in-Ok.named in
    let octets = g.O.Document.Source.remaining c.in-Ok-open.src in
    let judged = c.judge_stream in
    let old = see c.args.standard.now in
    let new = see judged.new.standard in
    file_opened g.O.Document.Source.has_failed valued known (g.O.Opener.refuses c.args.opener.now) c.args.task.now
    c.args.name.now old new (ap (option_map g.R.Source.remaining) judged.ensures.input) shown octets judged.result
    (c.in-Ok.ensures ∙ ap shown_name c.as_bytes.ensures.value)
    (c.in-Ok-open.ensures.opened ∙ ap known c.as_bytes-2.ensures.value)
    (subst
    (λ it. Tallied (JudgesStream g.O.Document.Source.has_failed valued c.args.task.now shown it octets old new)
    judged.result)
    c.as_bytes-in-Ok-open.ensures.value judged.ensures.judges)

pub returns-in-Err-clause-judges : goal.returns-in-Err-clause-judges
returns-in-Err-clause-judges g c =
    let see =
    seen g.R.Source.remaining g.W.Target.contents g.W.Target.has_failed g.W.Flush.is_flushed g.E.Target.contents
    g.E.Target.has_failed in
    let refuses = g.O.Opener.refuses c.args.opener.now in
    let why = c.in-Err.why in
    let old = see c.args.standard.now in
    let new = see (record {
      input = c.args.standard.now.input;
      output = c.args.standard.now.output;
      errors = c.finish_named.new.dst;
    }) in
    file_unopened g.O.Document.Source.has_failed valued (g.O.Opener.known c.args.opener.now) refuses c.args.task.now
    c.args.name.now old new refl why (name_of_line c.in-Ok.named) c.of_one.result
    (subst (λ it. refuses it why) c.as_bytes-2.ensures.value c.in-Err.ensures.refused)
    (c.in-Ok.ensures ∙ ap shown_name c.as_bytes.ensures.value) (c.finish_named.ensures.line, refl, refl)
    c.of_one.ensures
