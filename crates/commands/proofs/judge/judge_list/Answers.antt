use Rattle.std.proofs.Common.{◌∙◌, ap, sym}
use Rattle.std.specs.Option.{option_map}
use Rattle.pk_documents.proofs.DocumentValues.{valued}
use Rattle.commands.specs.Judgements.{sources_of}
use Rattle.commands.specs.Lines.{name_of_line}
use Rattle.commands.specs.Names.{shown_name}
use Rattle.commands.specs.Standards.{seen}
use Rattle.commands.proofs.Judgements.{listed_from_file, listed_from_input}
use Rattle.commands.proofs.judge.judge_list.Goals as goal

pub returns-then-is_dash-clause-judges : goal.returns-then-is_dash-clause-judges
returns-then-is_dash-clause-judges g c =
    let see =
    seen g.R.Source.remaining g.W.Target.contents g.W.Target.has_failed g.W.Flush.is_flushed g.E.Target.contents
    g.E.Target.has_failed in
    let sources = sources_of g.R.Source.has_failed g.R.Source.remaining g.O.Document.Source.has_failed
    g.O.Document.Source.remaining (g.O.Opener.known c.args.opener.now) (g.O.Opener.refuses c.args.opener.now) in
    let judged = c.judge_listed in
    listed_from_input valued sources c.args.task.now (see c.args.standard.now) (see judged.new.standard) judged.result
    c.args.list.now (name_of_line c.in-Ok.named) c.in-Some.src c.new-then-is_dash.result judged.new.names
    (sym c.is_dash.ensures ∙ c.if-is_dash.true)
    (ap (option_map g.R.Source.remaining) (sym c.take.ensures.value ∙ c.in-Some.is))
    (ap (option_map g.R.Source.remaining) (judged.ensures.input ∙ c.take.ensures.after))
    (c.in-Ok.ensures ∙ ap shown_name c.as_bytes.ensures.value) c.new-then-is_dash.ensures judged.ensures.judges

pub returns-in-Ok-open-clause-judges : goal.returns-in-Ok-open-clause-judges
returns-in-Ok-open-clause-judges g c =
    let see =
    seen g.R.Source.remaining g.W.Target.contents g.W.Target.has_failed g.W.Flush.is_flushed g.E.Target.contents
    g.E.Target.has_failed in
    let sources = sources_of g.R.Source.has_failed g.R.Source.remaining g.O.Document.Source.has_failed
    g.O.Document.Source.remaining (g.O.Opener.known c.args.opener.now) (g.O.Opener.refuses c.args.opener.now) in
    let judged = c.judge_listed-in-Ok-open in
    listed_from_file valued sources c.args.task.now (see c.args.standard.now) (see judged.new.standard) judged.result
    c.args.list.now (name_of_line c.in-Ok.named) c.in-Ok-open.src c.new-in-Ok-open.result judged.new.names
    (sym c.is_dash.ensures ∙ c.if-is_dash.false)
    (c.in-Ok-open.ensures.opened ∙ ap (g.O.Opener.known c.args.opener.now) c.as_bytes-2.ensures.value)
    (ap (option_map g.R.Source.remaining) judged.ensures.input)
    (c.in-Ok.ensures ∙ ap shown_name c.as_bytes.ensures.value) c.new-in-Ok-open.ensures judged.ensures.judges
