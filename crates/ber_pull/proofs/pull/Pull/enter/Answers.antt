use Rattle.std.proofs.Common.{◌≡◌, sym, ap, ◌∙◌}
use Rattle.tlv_core.specs.declared.fault.ReadError.TheVariants as errors
use Rattle.tlv_core.specs.declared.reason.Reason.TheVariants.{WrongForm}
use Rattle.x690.specs.Points.{fault}
use Rattle.x690.specs.ReadHeaders.{read_length}
use Rattle.ber_pull.specs.Lengths.{form_of}
use Rattle.ber_pull.specs.Standing.{enclosing, opening, used}
use Rattle.ber_pull.proofs.Hearing.{hears_as, hears_at, hears_error_as, hears_said, hears_stop, no_false, no_true}
use Rattle.ber_pull.proofs.Containers.{enter_error, enter_opens, enter_primitive}
use Rattle.ber_pull.proofs.pull.Pull.enter.Goals as goal

pub returns-then-not-given-clause-reads : goal.returns-then-not-given-clause-reads
returns-then-not-given-clause-reads g c = λ given fine is.
    let same : c.unwrap-given.result ≡ given = cc in
    hears_stop _ (fault given.at WrongForm) _ _ _ _ _ _ _
    (c.stop.ensures.is ∙ ap (λ w. errors.Fault (fault w.at WrongForm)) same) (ap (λ s. s.taken) c.stop.ensures.stands)
    (ap g.R.Source.remaining c.stop.ensures.same)
    (enter_primitive _ _ _ _ (ap (λ w. w.constructed) (sym same) ∙ no_true _ c.if-not-given.true))

pub returns-in-Err-clause-reads : goal.returns-in-Err-clause-reads
returns-in-Err-clause-reads g c = λ given fine is.
    let same : c.unwrap-given.result ≡ given = cc in
    hears_error_as _ _ _ _ _ _ _ c.failure-in-Err.ensures
    (enter_error c.args.self.now.state given _ _ _ _ _
    (ap (λ w. w.constructed) (sym same) ∙ no_false _ c.if-not-given.false)
    (hears_as _ _ _ _ _ _ _
    (ap (λ w. read_length c.args.self.now.state.limits (enclosing c.args.self.now.state).nearest_end w.at) same)
    c.in-Err.ensures.reads))

pub returns-in-Ok-clause-reads : goal.returns-in-Ok-clause-reads
returns-in-Ok-clause-reads g c = λ given fine is.
    let same : c.unwrap-given.result ≡ given = cc in
    let stands = c.open.ensures.stands
    ∙ ap (opening (form_of c.in-Ok.form))
    (c.use_given.ensures ∙ ap (used c.length.new.self.state.taken) c.in-Ok.ensures.stands) in
    hears_at _ _ _ _ _ _ _ _ (ap (λ s. s.taken) stands) (ap g.R.Source.remaining c.open.ensures.same)
    (hears_said _ _ _ _ _ _ _ (ap enclosing (sym stands))
    (enter_opens c.args.self.now.state given (form_of c.in-Ok.form) _ _ _ _
    (ap (λ w. w.constructed) (sym same) ∙ no_false _ c.if-not-given.false)
    (hears_as _ _ _ _ _ _ _
    (ap (λ w. read_length c.args.self.now.state.limits (enclosing c.args.self.now.state).nearest_end w.at) same)
    c.in-Ok.ensures.reads)))
