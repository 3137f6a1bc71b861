use Rattle.commands.proofs.each.answer_each.Goals as goal

pub returns-clause-answered : goal.returns-clause-answered
returns-clause-answered g c =
    let run = c.run_each-end in
    let flushed = c.files_flushed in
    let said = run.ensures.said in
    (said.0, said.1, (run.result, g.W.Target.contents run.new.dst, said.2, flushed.ensures.kept, flushed.ensures.ends))
