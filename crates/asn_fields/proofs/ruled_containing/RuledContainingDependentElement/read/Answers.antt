use Rattle.std.proofs.Common.{rules, ◌≡◌, ◌∙◌, None, Some, ap, subst, sym}
use Rattle.tlv_core.specs.declared.fault.ReadError.TheVariants as errors
use Rattle.x690.specs.DerTexts.{der}
use Rattle.x690.specs.Layouts.{universal}
use Rattle.x690.specs.Points.{fault}
use Rattle.x690.specs.Reads.{Refused, Said}
use Rattle.x690.specs.TypeTerms.{ContainingType}
use Rattle.x690.specs.Values.{Leaf, Same}
use Rattle.ber_pull.specs.Hears.{heard_error}
use Rattle.ber_pull.specs.Standing.{enclosing}
use Rattle.ber_pull.specs.View.{Answers}
use Rattle.asn_elements.proofs.RuledReadings.{rule_holds, rule_refuses}
use Rattle.asn_elements.proofs.ReaderAnswers.{place_given, refused_by, value_err}
use Rattle.asn_elements.specs.Contained.{read_given_contained}
use Rattle.asn_fields.specs.Dependents.{read_given_behind}
use Rattle.asn_elements.proofs.Contained.{containing, containing_error, same_octets_inside}
use Rattle.asn_fields.proofs.ruled_containing.RuledContainingDependentElement.read.Goals as goal

pub returns-in_err-inner-clause-reads : goal.returns-in_err-inner-clause-reads
returns-in_err-inner-clause-reads g c = λ fields given same fine is.
    let old = c.args.pull.now in
    let new = c.read_contained.new.pull in
    let T = g.T.Element.type_term in
    let rule = g.K.FieldRules.rule in
    let e = c.in_err-inner.field-0.0 in
    let read = subst
    (λ own. Answers old new (read_given_contained own T fields old.state given) (heard_error e)) c.universal_tag.ensures
    (c.in_err-inner.ensures.reads fields given fine is) in
    value_err old new (read_given_behind (ContainingType (universal 4) rule T) fields old.state given)
    (λ x. Leaf (universal 4) (der (g.T.DerText.value x.string.inner))) c.from_residual.result e (search rules)
    (containing_error old.state.limits (universal 4) rule T fields
    (enclosing old.state) given.at given.tag given.constructed e _ _ _ _ read)

pub returns-in-Some-clause-reads : goal.returns-in-Some-clause-reads
returns-in-Some-clause-reads g c = λ fields given same fine is.
    let old = c.args.pull.now in
    let new = c.read_contained.new.pull in
    let T = g.T.Element.type_term in
    let rule = g.K.FieldRules.rule in
    let why = c.in-Some.why in
    let found = c.in_ok-inner.ensures.reads fields given fine is in
    let v = found.0 in
    let read = subst (λ own. Answers old new (read_given_contained own T fields old.state given) (Said v))
    c.universal_tag.ensures found.2 in
    let refused : rule fields v ≡ Some why =
    g.met.K.FieldRules.fair fields _ v _ same found.1 ∙ sym c.judge.ensures ∙ c.in-Some.is in
    let first = c.refuse.ensures.first c.in_ok-inner.ensures.frame.keeps.0 in
    let at : c.at-at.result ≡ given.at = c.at-at.ensures.value ∙ place_given old.state given is in
    refused_by
    (read_given_behind (ContainingType (universal 4) rule T) fields old.state given) old new c.refuse.new.self
    (fault given.at why) c.refuse.result
    (first.0 ∙ ap (λ p. errors.Fault (fault p why)) at) first.1 c.refuse.ensures.same
    (containing old.state.limits (universal 4) rule T fields
    (enclosing old.state) given.at given.tag given.constructed v (Refused (fault given.at why)) _ _ _ _ _ _ read
    (rule_refuses given.at (rule fields v) why (Leaf (universal 4) (der v)) _ _ refused))

pub returns-clause-reads : goal.returns-clause-reads
returns-clause-reads g c = λ fields given same fine is.
    let old = c.args.pull.now in
    let new = c.read_contained.new.pull in
    let T = g.T.Element.type_term in
    let rule = g.K.FieldRules.rule in
    let found = c.in_ok-inner.ensures.reads fields given fine is in
    let v = found.0 in
    let w = Leaf (universal 4) (der v) in
    let read = subst (λ own. Answers old new (read_given_contained own T fields old.state given) (Said v))
    c.universal_tag.ensures found.2 in
    let none : rule (g.A.FieldsText.values c.args.earlier.now) (g.T.DerText.value c.in_ok-inner.inner) ≡ None =
    search rules in
    let allowed : rule fields v ≡ None = g.met.K.FieldRules.fair fields _ v _ same found.1 ∙ none in (
      w,
      same_octets_inside (universal 4) v _ (subst (λ x. Same v (g.T.DerText.value x)) (sym c.new.ensures) found.1),
      containing old.state.limits (universal 4) rule T fields
          (enclosing old.state) given.at given.tag given.constructed v (Said w) _ _ _ _ _ _ read
          (rule_holds given.at (rule fields v) w _ _ allowed),
    )
