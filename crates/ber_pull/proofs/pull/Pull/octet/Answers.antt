use Rattle.std.proofs.Common.{sym, ap, ◌∙◌}
use Rattle.x690.specs.Points.{fault}
use Rattle.ber_pull.specs.Standing.{failure, no_room}
use Rattle.ber_pull.proofs.Hearing.{hears_stop}
use Rattle.ber_pull.proofs.Headers.{octet_in_room, octet_no_room}
use Rattle.ber_pull.proofs.pull.Pull.octet.Goals as goal

pub returns-then-not-has_room-clause-reads : goal.returns-then-not-has_room-clause-reads
returns-then-not-has_room-clause-reads g c =
    hears_stop _ (fault c.args.start (no_room c.args.self.now.state 1)) _ _ _ _ _ _ _
    (ap failure c.no_room.ensures.stands) (ap (λ s. s.taken) c.no_room.ensures.stands)
    (ap g.R.Source.remaining c.no_room.ensures.same)
    (octet_no_room c.args.self.now.state c.args.start _ (sym c.has_room.ensures.value ∙ c.if-not-has_room.true))

pub returns-clause-reads : goal.returns-clause-reads
returns-clause-reads g c =
    octet_in_room c.args.self.now.state c.args.start _ _ _ _
    (sym c.has_room.ensures.value ∙ c.if-not-has_room.false) c.next_octet.ensures.reads
