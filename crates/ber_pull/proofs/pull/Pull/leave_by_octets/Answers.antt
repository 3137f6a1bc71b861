use Rattle.std.proofs.Common.{rules, refl, ap, subst, ◌∙◌}
use Rattle.tlv_core.specs.declared.fault.ReadError.TheVariants as errors
use Rattle.tlv_core.specs.declared.reason.Reason.TheVariants.{Extra}
use Rattle.x690.specs.Points.{fault}
use Rattle.x690.specs.Reads.{Said}
use Rattle.ber_pull.specs.Hears.{Hears}
use Rattle.ber_pull.specs.Standing.{place}
use Rattle.ber_pull.proofs.Hearing.{hears_at, hears_err, hears_stop}
use Rattle.ber_pull.proofs.Containers.{leave_ended, leave_error, leave_extra}
use Rattle.ber_pull.specs.Calls.{read_next}
use Rattle.ber_pull.specs.Hears.{next_at}
use Rattle.ber_pull.proofs.pull.Pull.leave_by_octets.Goals as goal

pub returns-in_err-next_tag-clause-reads : goal.returns-in_err-next_tag-clause-reads
returns-in_err-next_tag-clause-reads g c =
    hears_err _ _ c.from_residual.result c.in_err-next_tag.field-0.0 _ _ _ _ (search rules)
    (leave_error _ _ _ _ _ _ (c.in_err-next_tag.ensures.reads c.requires.live))

pub returns-in-Some-clause-reads : goal.returns-in-Some-clause-reads
returns-in-Some-clause-reads g c =
    let next = subst
    (λ w.
    Hears (read_next c.args.self.now.state) c.args.self.now.state.taken (g.R.Source.remaining c.args.self.now.src.now)
    (Said (next_at (place c.args.self.now.state) w)) c.next_tag.new.self.state.taken
    (g.R.Source.remaining c.next_tag.new.self.src.now)) c.in-Some.is
    (c.in_ok-next_tag.ensures.reads c.requires.live) in
    let first = c.refuse.ensures.first (search rules) in
    hears_stop _ (fault (place c.args.self.now.state) Extra) _ _ _ _ _ _ _
    (first.0 ∙ ap (λ p. errors.Fault (fault p Extra)) c.at-at.ensures.value) (ap (λ s. s.taken) first.1)
    (ap g.R.Source.remaining c.refuse.ensures.same)
    (leave_extra _ _ _ _ _ _ _ _ next)

pub returns-clause-reads : goal.returns-clause-reads
returns-clause-reads g c =
    let next = subst
    (λ w.
    Hears (read_next c.args.self.now.state) c.args.self.now.state.taken (g.R.Source.remaining c.args.self.now.src.now)
    (Said (next_at (place c.args.self.now.state) w)) c.next_tag.new.self.state.taken
    (g.R.Source.remaining c.next_tag.new.self.src.now)) c.in_default.is
    (c.in_ok-next_tag.ensures.reads c.requires.live) in
    hears_at _ _ _ _ _ _ _ _ (ap (λ s. s.taken) c.close.ensures) refl (leave_ended _ _ _ _ _ _ next)
