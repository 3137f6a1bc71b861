use Rattle.std.proofs.Common.{◌∙◌, ◌&&◌, is_none, map, subst, sym}
use Rattle.std.specs.Option.{option_map}
use Rattle.pk_documents.proofs.DocumentValues.{valued}
use Rattle.commands.specs.JudgedParts.{JudgesAll}
use Rattle.commands.specs.Judgements.{sources_of}
use Rattle.commands.specs.Standards.{seen}
use Rattle.pkder.specs.Responses.{Follows}
use Rattle.pkder.proofs.respond.follow.Goals as goal

pub returns-then-not-is_binary : goal.returns-then-not-is_binary
returns-then-not-is_binary g c =
    let see =
    seen g.R.Source.remaining g.W.Target.contents g.W.Target.has_failed g.W.Flush.is_flushed g.E.Target.contents
    g.E.Target.has_failed in
    let sources = sources_of g.R.Source.has_failed g.R.Source.remaining g.O.Document.Source.has_failed
    g.O.Document.Source.remaining (g.O.Opener.known c.args.system.now.opener)
    (g.O.Opener.refuses c.args.system.now.opener) in
    let order = c.args.order.now in
    let old = see c.args.standard.now in
    let new = see c.judge.new.standard in
    subst
    (λ it. Follows valued sources g.M.File.NewFile.made (g.M.NewFiles.refuses c.args.system.now.files)
    c.args.system.now.is_terminal order it (is_none order.to && c.args.system.now.is_terminal) old new c.judge.result)
    (sym (c.if-not-is_binary.true) ∙ c.is_binary.ensures)
    (subst
    (λ it.
    JudgesAll valued sources order.task order.each order.sums (map (λ name. name.now) it)
    (option_map (λ name. name.now) order.list) old new c.judge.result)
    c.as_slice-names.ensures.value c.judge.ensures)
