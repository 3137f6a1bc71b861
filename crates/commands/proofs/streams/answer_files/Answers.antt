use Rattle.commands.proofs.streams.answer_files.Goals as goal

pub returns-clause-answered : goal.returns-clause-answered
returns-clause-answered g c =
    let run = c.run_files-end in
    let flushed = c.files_flushed in (
      run.ensures.known.0,
      (
        run.result,
        g.W.Target.contents run.new.dst,
        run.ensures.known.1,
        run.ensures.known.2,
        flushed.ensures.kept,
        flushed.ensures.ends,
      ),
    )
