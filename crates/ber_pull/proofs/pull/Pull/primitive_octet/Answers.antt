use Rattle.std.proofs.Common.{◌≡◌, sym, ap, ◌∙◌}
use Rattle.tlv_core.specs.declared.fault.ReadError.TheVariants as errors
use Rattle.tlv_core.specs.declared.reason.Reason.TheVariants.{WrongForm}
use Rattle.x690.specs.Points.{fault}
use Rattle.ber_pull.specs.Standing.{enclosing}
use Rattle.ber_pull.proofs.Hearing.{hears_as, hears_error_as, hears_off, hears_on, hears_stop}
use Rattle.std.proofs.Common.{not}
use Rattle.x690.specs.ReadHeaders.{primitive_contents}
use Rattle.ber_pull.specs.Calls.{read_primitive}
use Rattle.ber_pull.proofs.pull.Pull.primitive_octet.Goals as goal

pub returns-then-given-clause-reads : goal.returns-then-given-clause-reads
unfolding read_primitive
returns-then-given-clause-reads g c = λ given fine is.
    let same : c.unwrap-given.result ≡ given = cc in
    hears_stop _ (fault given.at WrongForm) _ _ _ _ _ _ _
    (c.stop.ensures.is ∙ ap (λ w. errors.Fault (fault w.at WrongForm)) same) (ap (λ s. s.taken) c.stop.ensures.stands)
    (ap g.R.Source.remaining c.stop.ensures.same)
    (hears_off _ _ _ _ _ (ap (λ w. not w.constructed) (sym same) ∙ ap not c.if-given.true))

pub returns-in-Ok-clause-reads : goal.returns-in-Ok-clause-reads
unfolding read_primitive
returns-in-Ok-clause-reads g c = λ given fine is.
    let same : c.unwrap-given.result ≡ given = cc in
    hears_on _ _ _ _ _ _ _ _ (ap (λ w. not w.constructed) (sym same) ∙ ap not c.if-given.false)
    (hears_as _ _ _ _ _ _ _
    (ap (λ w. primitive_contents c.args.self.now.state.limits (enclosing c.args.self.now.state) w.at) same)
    c.in-Ok.ensures.reads)

pub returns-in-Err-clause-reads : goal.returns-in-Err-clause-reads
unfolding read_primitive
returns-in-Err-clause-reads g c = λ given fine is.
    let same : c.unwrap-given.result ≡ given = cc in
    hears_on _ _ _ _ _ _ _ _ (ap (λ w. not w.constructed) (sym same) ∙ ap not c.if-given.false)
    (hears_as _ _ _ _ _ _ _
    (ap (λ w. primitive_contents c.args.self.now.state.limits (enclosing c.args.self.now.state) w.at) same)
    (hears_error_as _ _ _ _ _ _ _ c.failure-in-Err.ensures c.in-Err.ensures.reads))
