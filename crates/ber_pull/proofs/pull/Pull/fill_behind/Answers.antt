use Rattle.std.proofs.Common.{rules, arith, ◌≡◌, ◌+◌, ◌<◌, ◌≤◌, length, take, is_ok, true, refl, sym, ap, ◌∙◌, length-take-le}
use Rattle.tlv_core.specs.declared.fault.ReadError.TheVariants.{Read}
use Rattle.tlv_core.specs.declared.reason.Reason.TheVariants.{Truncated}
use Rattle.x690.specs.Points.{fault}
use Rattle.x690.specs.ReadHeaders.{next_octets}
use Rattle.ber_pull.specs.Standing.{failure}
use Rattle.ber_pull.proofs.Hearing.{hears_error_as, hears_memory, hears_stop, no_octet}
use Rattle.ber_pull.proofs.Pieces.{came_behind, chosen, octets_ended, octets_failed, still_there}
use Rattle.ber_pull.proofs.pull.Pull.fill_behind.Goals as goal

pub returns-then-is_err-clause-adds : goal.returns-then-is_err-clause-adds
returns-then-is_err-clause-adds g c = λ most fit.
    let stands = c.halt_without_memory.ensures.stands in
    hears_memory (next_octets most) (failure c.halt_without_memory.new.self.state) _ _ _ _
    (ap failure stands) (ap (λ s. s.taken) stands) (ap g.R.Source.remaining c.halt_without_memory.ensures.same)

pub returns-in-Ok-eq0-clause-adds : goal.returns-in-Ok-eq0-clause-adds
returns-in-Ok-eq0-clause-adds g c = λ most fit.
    let some : 0 < most = omega (arith, c.requires.some, fit) in
    let came = no_octet c.in-Ok-eq0.field-0 _ _ c.read.new.room c.in-Ok-eq0.field-0-test c.in-Ok-eq0.ensures.octets.0 in
    let ended = c.in-Ok-eq0.ensures.octets.1 c.in-Ok-eq0.field-0-test (search rules) in
    hears_stop _ (fault c.args.self.now.state.taken Truncated) _ _ _ _ _ _ _
    (ap failure c.truncated.ensures.stands) (ap (λ s. s.taken) c.truncated.ensures.stands)
    (ap g.R.Source.remaining c.truncated.ensures.same)
    (octets_ended most _ _ _ some came ended)

pub returns-in-Err-clause-adds : goal.returns-in-Err-clause-adds
returns-in-Err-clause-adds g c = λ most fit.
    let some : 0 < most = omega (arith, c.requires.some, fit) in
    hears_error_as _ _ (Read c.args.self.now.state.taken) _ _ _ _ (ap failure c.fail_reading.ensures)
    (octets_failed most _ _ _ _ _ some refl (ap (λ s. s.taken) c.fail_reading.ensures) c.in-Err.ensures.octets)

pub returns-in-Ok-clause-adds : goal.returns-in-Ok-clause-adds
returns-in-Ok-clause-adds g c = λ most fit.
    let before = c.args.octets.now.items in
    let room = c.read.new.room in
    let count = c.in-Ok.count in
    let fits : count ≤ length room = c.in-Ok.ensures.bound.0 in
    let size : length (take count room) ≡ count = length-take-le count room fits in
    let here : c.len-before.result ≡ length before = search rules in
    let ok : is_ok c.resize.result ≡ true = search rules in
    let resized = chosen _ _ _ _ ok c.resize.ensures.items in
    let front : take c.len-before.result c.deref_mut.result.now ≡ before =
    still_there _ (c.len-before.result + c.args.size) _ _ _ here (omega arith) (c.deref_mut.ensures.value ∙ resized) in
    let long : length room ≤ c.args.size = search rules in
    let end : c.resize.new.self.len ≡ c.len-before.result + c.args.size = search rules in
    let some : 0 < count = search rules in
    let taken : c.take.new.self.taken ≡ c.args.self.now.state.taken + count = ap (λ s. s.taken) c.take.ensures in
    record {
      octets = take count room;
      is =
          c.truncate.ensures.items
          ∙ came_behind _ _ _ _ _ _ _ _ front fits (ap (λ k. k + count) here) (omega (arith, long, end, fits));
      consumed = c.in-Ok.ensures.octets.0;
      count = taken ∙ ap (λ n. c.args.self.now.state.taken + n) (sym size);
      some = omega (arith, size, some);
      most_of_them = omega (arith, size, long, fits, fit);
    }
