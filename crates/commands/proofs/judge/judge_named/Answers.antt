use Rattle.std.proofs.Common.{ap, map}
use Rattle.std.specs.Option.{option_map}
use Rattle.pk_documents.proofs.DocumentValues.{valued}
use Rattle.commands.specs.Judgements.{sources_of}
use Rattle.commands.specs.Lines.{name_of_line}
use Rattle.commands.specs.Standards.{seen}
use Rattle.commands.proofs.Judgements.{named_by_words}
use Rattle.commands.proofs.judge.judge_named.Goals as goal

pub returns-clause-judges : goal.returns-clause-judges
returns-clause-judges g c =
    let see =
    seen g.R.Source.remaining g.W.Target.contents g.W.Target.has_failed g.W.Flush.is_flushed g.E.Target.contents
    g.E.Target.has_failed in
    let sources = sources_of g.R.Source.has_failed g.R.Source.remaining g.O.Document.Source.has_failed
    g.O.Document.Source.remaining (g.O.Opener.known c.args.opener.now) (g.O.Opener.refuses c.args.opener.now) in
    let judged = c.judge_listed in
    named_by_words valued sources c.args.task.now (see c.args.standard.now) (see judged.new.standard) judged.result
    (map (λ name. name.now) c.args.names.now) (name_of_line c.in-Ok.no_list) c.new-2.result judged.new.names
    c.new-2.ensures (ap (option_map g.R.Source.remaining) judged.ensures.input) c.in-Ok.ensures judged.ensures.judges
