use Rattle.std.proofs.Common.{rules, ◌≡◌, ◌∙◌, None, Some, ap, sym}
use Rattle.tlv_core.specs.declared.fault.ReadError.TheVariants as errors
use Rattle.x690.specs.Points.{fault}
use Rattle.x690.specs.TypeTerms.{RuledType}
use Rattle.ber_pull.specs.Standing.{enclosing}
use Rattle.asn_elements.proofs.RuledReadings.{rule_holds, rule_refuses, ruled, ruled_error}
use Rattle.ber_pull.proofs.Hearing.{hears_as}
use Rattle.asn_elements.proofs.ReaderAnswers.{place_given, refused_by, value_err}
use Rattle.asn_fields.specs.Dependents.{read_given_behind}
use Rattle.asn_fields.proofs.ruled_behind.RuledBehindDependentElement.read.Goals as goal

pub returns-in_err-value-clause-reads : goal.returns-in_err-value-clause-reads
returns-in_err-value-clause-reads g c = λ fields given same fine is.
    let old = c.args.pull.now in
    let T = g.T.Element.type_term in
    let rule = g.K.FieldRules.rule in
    let alike =
    sym (g.met.T.Element.closed old.state.limits fields (enclosing old.state) given.at given.tag given.constructed) in
    value_err old c.read.new.pull (read_given_behind (RuledType rule T) fields old.state given)
    (λ x. g.T.DerText.value x.value) c.from_residual.result c.in_err-value.field-0.0 (search rules)
    (ruled_error old.state.limits rule T fields (enclosing old.state) given.at given.tag given.constructed _ _ _ _ _
    (hears_as _ _ _ _ _ _ _ alike (c.in_err-value.ensures.reads given fine is)))

pub returns-in-Some-clause-reads : goal.returns-in-Some-clause-reads
returns-in-Some-clause-reads g c = λ fields given same fine is.
    let old = c.args.pull.now in
    let T = g.T.Element.type_term in
    let rule = g.K.FieldRules.rule in
    let why = c.in-Some.why in
    let alike =
    sym (g.met.T.Element.closed old.state.limits fields (enclosing old.state) given.at given.tag given.constructed) in
    let found = c.in_ok-value.ensures.reads given fine is in
    let refused : rule fields found.0 ≡ Some why =
    g.met.K.FieldRules.fair fields _ found.0 _ same found.1 ∙ sym c.judge.ensures ∙ c.in-Some.is in
    let first = c.refuse.ensures.first c.in_ok-value.ensures.frame.keeps.0 in
    let at : c.at-at.result ≡ given.at = c.at-at.ensures.value ∙ place_given old.state given is in
    refused_by (read_given_behind (RuledType rule T) fields old.state given) old c.read.new.pull c.refuse.new.self
    (fault given.at why) c.refuse.result
    (first.0 ∙ ap (λ p. errors.Fault (fault p why)) at) first.1 c.refuse.ensures.same
    (ruled old.state.limits rule T fields
    (enclosing old.state) given.at given.tag given.constructed found.0 _ _ _ _ _ _ _
    (hears_as _ _ _ _ _ _ _ alike found.2) (rule_refuses given.at (rule fields found.0) why found.0 _ _ refused))

pub returns-clause-reads : goal.returns-clause-reads
returns-clause-reads g c = λ fields given same fine is.
    let old = c.args.pull.now in
    let T = g.T.Element.type_term in
    let rule = g.K.FieldRules.rule in
    let alike =
    sym (g.met.T.Element.closed old.state.limits fields (enclosing old.state) given.at given.tag given.constructed) in
    let found = c.in_ok-value.ensures.reads given fine is in
    let none : rule (g.A.FieldsText.values c.args.earlier.now) (g.T.DerText.value c.in_ok-value.value) ≡ None =
    search rules in
    let allowed : rule fields found.0 ≡ None = g.met.K.FieldRules.fair fields _ found.0 _ same found.1 ∙ none in (
      found.0,
      found.1,
      ruled old.state.limits rule T fields
          (enclosing old.state) given.at given.tag given.constructed found.0 _ _ _ _ _ _ _
          (hears_as _ _ _ _ _ _ _ alike found.2) (rule_holds given.at (rule fields found.0) found.0 _ _ allowed),
    )
