use Rattle.std.proofs.Common.{rules, ◌≡◌, ◌∙◌, [], None, ap, sym}
use Rattle.tlv_core.specs.declared.fault.ReadError.TheVariants as errors
use Rattle.x690.specs.Points.{fault}
use Rattle.x690.specs.TypeTerms.{RuledType}
use Rattle.asn_elements.proofs.RuledReadings.{rule_holds, rule_refuses, ruled, ruled_error}
use Rattle.asn_elements.proofs.ReaderAnswers.{place_given, refused_by, value_err}
use Rattle.asn_elements.specs.Reading.{read_given}
use Rattle.asn_fields.proofs.ruled.RuledElement.read.Goals as goal

pub returns-in_err-value-clause-reads : goal.returns-in_err-value-clause-reads
returns-in_err-value-clause-reads g c = λ given fine is.
    value_err c.args.pull.now c.read.new.pull
    (read_given (RuledType g.K.Rules.rule g.T.Element.type_term) c.args.pull.now.state given)
    _ c.from_residual.result c.in_err-value.field-0.0
    (search rules)
    (ruled_error _ _ _ _ _ _ _ _ _ _ _ _ _ (c.in_err-value.ensures.reads given fine is))

pub returns-in-Some-clause-reads : goal.returns-in-Some-clause-reads
returns-in-Some-clause-reads g c = λ given fine is.
    let r = c.in_ok-value.ensures.reads given fine is in
    let first = c.refuse.ensures.first (search rules) in
    let at : c.at-at.result ≡ given.at = c.at-at.ensures.value ∙ place_given c.args.pull.now.state given is in
    refused_by (read_given (RuledType g.K.Rules.rule g.T.Element.type_term) c.args.pull.now.state given)
    c.args.pull.now c.read.new.pull c.refuse.new.self
    (fault given.at c.in-Some.why) c.refuse.result
    (first.0 ∙ ap (λ p. errors.Fault (fault p c.in-Some.why)) at) first.1 c.refuse.ensures.same
    (ruled _ _ _ _ _ _ _ _ _ _ _ _ _ _ _ _ r.2
    (rule_refuses _ _ _ _ _ _
    (g.met.K.Rules.fair [] [] r.0 (g.T.DerText.value c.in_ok-value.value) tt r.1
    ∙ (sym c.judge.ensures ∙ c.in-Some.is))))

pub returns-clause-reads : goal.returns-clause-reads
returns-clause-reads g c = λ given fine is.
    let r = c.in_ok-value.ensures.reads given fine is in
    let none : g.K.Rules.rule [] (g.T.DerText.value c.in_ok-value.value) ≡ None = search rules in (
      r.0,
      r.1,
      ruled _ _ _ _ _ _ _ _ _ _ _ _ _ _ _ _ r.2
          (rule_holds _ _ _ _ _ (g.met.K.Rules.fair [] [] r.0 (g.T.DerText.value c.in_ok-value.value) tt r.1 ∙ none)),
    )
