use Rattle.std.proofs.Common.{◌∙◌, ap}
use Rattle.commands.proofs.Conversions.{done_is}
use Rattle.commands.proofs.new_file.make_file.Goals as goal
use Rattle.commands.proofs.new_file.make_file.Goals.{in-Done+in_ok-place-in-Done, in_default}

pub returns-clause-answered : goal.returns-clause-answered
returns-clause-answered g c =
    let target = g.M.File.Writer.Target in
    let after = c.answer-outcome in (
      target.contents c.in-Ok.dst,
      target.contents after.new.dst,
      target.has_failed after.new.dst,
      g.M.File.Writer.Flush.is_flushed after.new.dst,
      c.in-Ok.ensures.empty,
      record {
        answered = after.ensures.answered;
        silent = λ is_silent. ap target.contents (after.ensures.unwritten is_silent);
        failed = after.ensures.failed;
        whole = after.ensures.flushed;
      },
      elim c.match-outcome.branch [
        | in-Done+in_ok-place-in-Done w ↦
            λ _. ap (λ file. (g.M.File.NewFile.made file).octets) w.file-is
            ∙ ap (λ made. made.octets) w.in_ok-place-in-Done.ensures.placed
        | in_default w ↦ λ done. elim (w.in_default.not-Done (done_is after.result done)) [ ]
      ],
    )
