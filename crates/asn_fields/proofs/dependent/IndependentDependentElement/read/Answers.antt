use Rattle.std.proofs.Common.{rules, sym}
use Rattle.ber_pull.specs.Standing.{enclosing}
use Rattle.ber_pull.proofs.Hearing.{hears_as}
use Rattle.asn_elements.proofs.ReaderAnswers.{value_err}
use Rattle.asn_fields.specs.Dependents.{read_given_behind}
use Rattle.asn_fields.proofs.dependent.IndependentDependentElement.read.Goals as goal

pub returns-in_err-value-clause-reads : goal.returns-in_err-value-clause-reads
returns-in_err-value-clause-reads g c = λ fields given same fine is.
    let old = c.args.pull.now in
    let alike =
    sym (g.met.T.Element.closed old.state.limits fields (enclosing old.state) given.at given.tag given.constructed) in
    value_err old c.read.new.pull (read_given_behind g.T.Element.type_term fields old.state given)
    (λ x. g.T.DerText.value x.0) c.from_residual.result c.in_err-value.field-0.0 (search rules)
    (hears_as _ _ _ _ _ _ _ alike (c.in_err-value.ensures.reads given fine is))

pub returns-clause-reads : goal.returns-clause-reads
returns-clause-reads g c = λ fields given same fine is.
    let old = c.args.pull.now in
    let alike =
    sym (g.met.T.Element.closed old.state.limits fields (enclosing old.state) given.at given.tag given.constructed) in
    let read = c.in_ok-value.ensures.reads given fine is in
    (read.0, read.1, hears_as _ _ _ _ _ _ _ alike read.2)
