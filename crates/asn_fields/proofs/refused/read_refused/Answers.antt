use Rattle.std.proofs.Common.{rules, ◌≡◌, ◌∙◌, ap, ap₂, subst, true}
use Rattle.tlv_core.specs.declared.fault.ReadError.TheVariants as errors
use Rattle.tlv_core.specs.declared.reason.Reason.TheVariants.{WrongTag}
use Rattle.x690.specs.Layouts.{same_tag}
use Rattle.x690.specs.Points.{fault}
use Rattle.x690.specs.ReadTypes.{read_type}
use Rattle.x690.specs.Reading.{Fail, Reading, require}
use Rattle.x690.specs.TypeTerms.{RefusedType}
use Rattle.x690.specs.Values.{Value}
use Rattle.ber_pull.specs.Hears.{heard_error}
use Rattle.ber_pull.specs.Standing.{enclosing}
use Rattle.ber_pull.specs.View.{Answers, standing}
use Rattle.ber_pull.proofs.Hearing.{hears_at}
use Rattle.asn_elements.proofs.ReaderAnswers.{fine_still, refused_by, value_err}
use Rattle.asn_fields.proofs.Refusing.{refused_as, refused_here}
use Rattle.asn_fields.proofs.refused.read_refused.Goals as goal

pub returns-in_err-at-clause-reads : goal.returns-in_err-at-clause-reads
returns-in_err-at-clause-reads g c = λ given earlier fine is.
    let s = standing c.args.pull.now in
    let p : Reading Value = Fail (fault given.at g.K.RefusedTag.why) in
    value_err c.args.pull.now c.expect_tag.new.pull
    (read_type s.limits (RefusedType g.K.RefusedTag.own g.K.RefusedTag.why) earlier
    (enclosing s) given.at given.tag given.constructed) _ c.from_residual.result c.in_err-at.field-0.0
    (search rules)
    (refused_as s.limits g.K.RefusedTag.own g.K.RefusedTag.why earlier
    (enclosing s) given.at given.tag given.constructed _ _ _ _ _
    (subst (λ own.
    Answers c.args.pull.now c.expect_tag.new.pull (require (same_tag own given.tag) (fault given.at WrongTag) p)
    (heard_error c.in_err-at.field-0.0)) c.tag.ensures
    (c.in_err-at.ensures.stops given fine is p)))

pub returns-clause-reads : goal.returns-clause-reads
returns-clause-reads g c = λ given earlier fine is.
    let s = standing c.args.pull.now in
    let here = c.in_ok-at.ensures.is given fine is in
    let same = c.in_ok-at.ensures.same in
    let first = c.refuse.ensures.first (fine_still c.args.pull.now c.expect_tag.new.pull same fine) in
    let why = g.K.RefusedTag.why in
    refused_by
    (read_type s.limits (RefusedType g.K.RefusedTag.own why) earlier (enclosing s) given.at given.tag given.constructed)
    c.args.pull.now c.expect_tag.new.pull c.refuse.new.self
    (fault given.at why) c.refuse.result
    (first.0 ∙ ap₂ (λ p w. errors.Fault (fault p w)) here.0 c.reason.ensures) first.1 c.refuse.ensures.same
    (hears_at _ _ _ _ _ _ _ _ (ap (λ z. z.taken) same.0) (ap g.R.Source.remaining same.1)
    (refused_here s.limits g.K.RefusedTag.own why earlier (enclosing s) given.at given.tag given.constructed _ _
    (subst (λ own. same_tag own given.tag ≡ true) c.tag.ensures here.1)))
