use Rattle.std.proofs.Common.{rules, arith, ◌≡◌, ◌+◌, ◌<◌, ◌≤◌, length, take, refl, ap}
use Rattle.tlv_core.specs.declared.fault.ReadError.TheVariants.{Read}
use Rattle.tlv_core.specs.declared.reason.Reason.TheVariants.{Truncated}
use Rattle.x690.specs.Points.{fault}
use Rattle.ber_pull.specs.Standing.{failure}
use Rattle.ber_pull.proofs.Hearing.{hears_error_as, hears_stop, no_octet}
use Rattle.ber_pull.proofs.Pieces.{octets_ended, octets_failed, octets_memory}
use Rattle.ber_pull.proofs.pull.Pull.fill.Goals as goal

pub returns-in-Ok-eq0-clause-adds : goal.returns-in-Ok-eq0-clause-adds
returns-in-Ok-eq0-clause-adds g c = λ most fit.
    let some : 0 < most = omega (arith, c.requires.some, fit) in
    let came = no_octet c.in-Ok-eq0.field-0 _ _ c.read.new.room c.in-Ok-eq0.field-0-test c.in-Ok-eq0.ensures.octets.0 in
    let ended = c.in-Ok-eq0.ensures.octets.1 c.in-Ok-eq0.field-0-test (search rules) in
    hears_stop _ (fault c.args.self.now.state.taken Truncated) _ _ _ _ _ _ _
    (ap failure c.truncated.ensures.stands) (ap (λ s. s.taken) c.truncated.ensures.stands)
    (ap g.R.Source.remaining c.truncated.ensures.same)
    (octets_ended most _ _ _ some came ended)

pub returns-in-Err-extend_from_slice-clause-adds : goal.returns-in-Err-extend_from_slice-clause-adds
returns-in-Err-extend_from_slice-clause-adds g c = λ most fit.
    let stands = c.halt_without_memory.ensures.stands in
    let came = take c.in-Ok.count c.read.new.room in
    let long : c.in-Ok.count ≡ length came = c.in-Ok.ensures.bound.1 in
    let count : c.halt_without_memory.new.self.state.taken ≡ c.args.self.now.state.taken + length came =
    let z : c.halt_without_memory.new.self.state.taken ≡ c.take.new.self.taken = ap (λ s. s.taken) stands in
    let y : c.take.new.self.taken ≡ c.args.self.now.state.taken + c.in-Ok.count = ap (λ s. s.taken) c.take.ensures in
    omega arith in
    let within : length came ≤ most = omega (arith, long, c.in-Ok.ensures.bound.0, fit) in
    octets_memory most (failure c.halt_without_memory.new.self.state) _ _ _ _ _ came (ap failure stands)
    (ap g.R.Source.remaining c.halt_without_memory.ensures.same) c.in-Ok.ensures.octets.0 count within

pub returns-in-Err-clause-adds : goal.returns-in-Err-clause-adds
returns-in-Err-clause-adds g c = λ most fit.
    let some : 0 < most = omega (arith, c.requires.some, fit) in
    hears_error_as _ _ (Read c.args.self.now.state.taken) _ _ _ _ (ap failure c.fail_reading.ensures)
    (octets_failed most _ _ _ _ _ some refl (ap (λ s. s.taken) c.fail_reading.ensures) c.in-Err.ensures.octets)
