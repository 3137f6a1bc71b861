use Rattle.std.proofs.Common.{◌+◌, inl, inr, refl, subst, sym}
use Rattle.commands.specs.Inputs.{StopsTaking, TakesFirst}
use Rattle.commands.specs.Replies.{FailedBy, WritesWhole}
use Rattle.commands.proofs.Replies.{unread_fails}
use Rattle.commands.proofs.any.run_on_any.Goals as goal

pub returns-in-Ok-clause-replied : goal.returns-in-Ok-clause-replied
returns-in-Ok-clause-replied g c =
    let task = c.args.task.now in
    let before = g.R.Source.remaining c.args.src.now in
    let after = g.R.Source.remaining c.read_all.new.src in
    let given = c.as_slice-given.result.now in
    let taken : TakesFirst (task.limits.octets + 1) before after given =
    subst (λ o. TakesFirst (task.limits.octets + 1) before after o) (sym c.as_slice-given.ensures.value)
    (subst (λ n. TakesFirst (n + 1) before after c.in-Ok.octets.items) c.octets.ensures.value
    c.in-Ok.ensures.takes) in
    inr (
      given,
      taken,
      c.said_of_any-end.result.0,
      c.said_of_any-end.result.1.items,
      c.said_of_any-end.ensures.said,
      subst
          (λ text. WritesWhole c.said_of_any-end.result.0 text c.write_whole.result (g.W.Target.contents c.args.dst.now)
          (g.W.Target.contents c.write_whole.new.dst))
          c.as_slice.ensures.value c.write_whole.ensures.wrote,
    )

pub returns-in-Ok-clause-failed : goal.returns-in-Ok-clause-failed
returns-in-Ok-clause-failed g c =
    subst (λ failed. FailedBy c.write_whole.result failed (g.W.Target.has_failed c.write_whole.new.dst))
    (sym c.in-Ok.ensures.read) c.write_whole.ensures.failed

pub returns-in-Err-clause-replied : goal.returns-in-Err-clause-replied
returns-in-Err-clause-replied g c =
    let before = g.R.Source.remaining c.args.src.now in
    let after = g.R.Source.remaining c.read_all.new.src in
    inl (
      c.in-Err.error,
      subst (λ n. StopsTaking (n + 1) c.in-Err.error before after) c.octets.ensures.value c.in-Err.ensures.takes,
      c.unread.ensures,
      refl,
      refl,
    )

pub returns-in-Err-clause-failed : goal.returns-in-Err-clause-failed
returns-in-Err-clause-failed g c =
    unread_fails c.in-Err.error _ _ _ c.unread.ensures (c.in-Err.ensures.read, c.requires.writable)
