use Rattle.std.proofs.Common.{arith, ◌≡◌, take, get_or, subst, [], ◌∷◌, refl, sym, ap}
use Rattle.tlv_core.specs.declared.reason.Reason.TheVariants.{Truncated}
use Rattle.tlv_core.specs.declared.fault.ReadError.TheVariants.{Read}
use Rattle.x690.specs.Points.{fault}
use Rattle.std.specs.Io.KnownBytes.{Consumes}
use Rattle.x690.specs.Reads.{Said}
use Rattle.x690.specs.Reading.{Ask, Done}
use Rattle.ber_pull.specs.Hears.{Hears}
use Rattle.ber_pull.specs.Standing.{failure}
use Rattle.ber_pull.proofs.Hearing.{hears_stop, hears_octet, hears_ended, hears_error_as, hears_failed_at, no_octet, one_octet}
use Rattle.ber_pull.proofs.pull.Pull.next_octet.Goals as goal

pub returns-in-Ok-eq0-clause-reads : goal.returns-in-Ok-eq0-clause-reads
returns-in-Ok-eq0-clause-reads g c =
    let came = no_octet c.in-Ok-eq0.field-0 _ _ c.read.new.room c.in-Ok-eq0.field-0-test c.in-Ok-eq0.ensures.octets.0 in
    let ended = c.in-Ok-eq0.ensures.octets.1 c.in-Ok-eq0.field-0-test (omega arith) in
    hears_stop _ (fault c.args.self.now.state.taken Truncated) _ _ _ _ _ _ _
    (ap failure c.truncated.ensures.stands) (ap (λ s. s.taken) c.truncated.ensures.stands)
    (ap g.R.Source.remaining c.truncated.ensures.same)
    (hears_ended _ _ _ _ came ended)

pub returns-in-Ok-clause-reads : goal.returns-in-Ok-clause-reads
returns-in-Ok-clause-reads g c =
    let one : take c.in-Ok.field-0 c.read.new.room ≡ get_or c.read.new.room 0 0 ∷ [] =
    one_octet c.in-Ok.field-0 c.read.new.room c.in-Ok.ensures.bound.0 (omega arith) c.in-Ok.field-0-test.1 in
    let came : Consumes (g.R.Source.remaining c.args.self.now.src.now) (g.R.Source.remaining c.read.new.self)
    (get_or c.read.new.room 0 0 ∷ []) = subst
    (λ w. Consumes (g.R.Source.remaining c.args.self.now.src.now) (g.R.Source.remaining c.read.new.self) w)
    one c.in-Ok.ensures.octets.0 in
    subst (λ i.
    Hears (Ask Done) c.args.self.now.state.taken (g.R.Source.remaining c.args.self.now.src.now)
    (Said (get_or c.read.new.room 0 0)) i (g.R.Source.remaining c.read.new.self))
    (sym (ap (λ s. s.taken) c.take.ensures)) (hears_octet _ _ _ _ came)

pub returns-in-Err-clause-reads : goal.returns-in-Err-clause-reads
returns-in-Err-clause-reads g c =
    hears_error_as _ _ (Read c.args.self.now.state.taken) _ _ _ _ (ap failure c.fail_reading.ensures)
    (hears_failed_at _ _ _ _ _ _ refl (ap (λ s. s.taken) c.fail_reading.ensures) c.in-Err.ensures.octets)
