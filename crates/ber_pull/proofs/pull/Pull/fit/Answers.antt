use Rattle.std.proofs.Common.{arith, ◌<◌, ◌^◌, sym, ap, ◌∙◌}
use Rattle.x690.specs.Points.{fault}
use Rattle.ber_pull.specs.Standing.{failure, no_room}
use Rattle.ber_pull.proofs.Hearing.{hears_stop}
use Rattle.ber_pull.proofs.Headers.{fit_in_room, fit_no_room}
use Rattle.ber_pull.proofs.pull.Pull.fit.Goals as goal

pub returns-then-not-has_room-clause-reads : goal.returns-then-not-has_room-clause-reads
returns-then-not-has_room-clause-reads g c = λ n h.
    let small : c.args.self.now.state.limits.octets < 2 ^ 32 = omega (arith, c.has_room.ensures.bound) in
    hears_stop _ (fault c.args.start (no_room c.args.self.now.state c.args.number)) _ _ _ _ _ _ _
    (ap failure c.no_room.ensures.stands) (ap (λ s. s.taken) c.no_room.ensures.stands)
    (ap g.R.Source.remaining c.no_room.ensures.same)
    (fit_no_room c.args.self.now.state c.args.start n c.args.number _ c.has_room.ensures.small small h
    (sym c.has_room.ensures.value ∙ c.if-not-has_room.true))

pub returns-clause-reads : goal.returns-clause-reads
returns-clause-reads g c = λ n h.
    let small : c.args.self.now.state.limits.octets < 2 ^ 32 = omega (arith, c.has_room.ensures.bound) in
    fit_in_room c.args.self.now.state c.args.start n c.args.number _ c.has_room.ensures.small small h
    (sym c.has_room.ensures.value ∙ c.if-not-has_room.false) (c.has_room.ensures.within c.if-not-has_room.false)
