use Rattle.std.proofs.Common.{subst, sym}
use Rattle.pk_documents.proofs.DocumentValues.{valued}
use Rattle.commands.specs.Files.{IsLeft}
use Rattle.commands.specs.Judgements.{JudgesNames, Tallied}
use Rattle.commands.specs.Lines.{name_of_line}
use Rattle.commands.specs.NameLists.{HasStopped}
use Rattle.commands.specs.Standards.{seen}
use Rattle.commands.proofs.Judgements.{names_judged}
use Rattle.commands.proofs.judge.judge_listed.Goals as goal

pub returns-clause-judges : goal.returns-clause-judges
returns-clause-judges g c =
    let see =
    seen g.R.Source.remaining g.W.Target.contents g.W.Target.has_failed g.W.Flush.is_flushed g.E.Target.contents
    g.E.Target.has_failed in
    let known = g.O.Opener.known c.args.opener.now in
    let unopened = g.O.Opener.refuses c.args.opener.now in
    let leaves = IsLeft g.O.Document.Source.has_failed g.O.Document.Source.remaining in
    let ended = c.answer_files-end in
    let list = name_of_line c.args.list in
    let names = g.N.Names.left c.args.names.now in
    let stops = HasStopped g.N.Names.left g.N.Names.stops ended.new.names in
    let old = see c.args.standard.now in
    let new = see (record { input = c.args.standard.now.input; output = ended.new.dst; errors = c.finish_files.new.dst }) in
    subst (Tallied (JudgesNames valued known unopened leaves c.args.task.now list names stops old new))
    (sym c.tally_through.ensures)
    (names_judged valued known unopened leaves c.args.task.now list names stops old new ended.ensures.answered.0
    ended.result ended.ensures.answered.1 ended.ensures.failed ended.ensures.flushed c.finish_files.ensures.line)
