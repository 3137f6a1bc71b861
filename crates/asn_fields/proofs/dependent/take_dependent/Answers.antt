use Rattle.std.proofs.Common.{◌≡◌, ◌∙◌, ◌<◌, ◌^◌, Bool, ap, length, subst, sym, true}
use Rattle.tlv_core.specs.Identifier.{Tag}
use Rattle.tlv_core.specs.declared.reason.Reason.TheVariants.{Missing, WrongTag}
use Rattle.x690.specs.DerTexts.{der}
use Rattle.x690.specs.Points.{fault}
use Rattle.x690.specs.Values.{value_tag}
use Rattle.x690_laws.proofs.ReadingOfElements.{each_refl}
use Rattle.asn_fields.specs.Insides.{BeginsBefore}
use Rattle.ber_pull.specs.Hears.{next_at}
use Rattle.ber_pull.specs.declared.state.Given.{Given}
use Rattle.asn_fields.proofs.FieldReadings.{take_missing, take_read, take_wrong}
use Rattle.ber_pull.proofs.Hearing.{hears_stop}
use Rattle.asn_fields.proofs.Insides.{field_given}
use Rattle.asn_fields.specs.Apart.{may_begin}
use Rattle.asn_fields.specs.Fields.{next_of}
use Rattle.asn_fields.proofs.FieldTags.{field_tagged, stands_there}
use Rattle.asn_fields.proofs.FieldAnswers.{of_value, value_through}
use Rattle.asn_fields.proofs.ShortFields.{field_short}
use Rattle.asn_fields.proofs.Dependents.{there_as}
use Rattle.asn_fields.proofs.dependent.take_dependent.Goals as goal

pub returns-in-None-clause-reads : goal.returns-in-None-clause-reads
returns-in-None-clause-reads g c = λ fields same outer inside a.
    let first = c.refuse.ensures.first c.requires.fine in
    hears_stop _ (fault c.args.next.at Missing) _ _ _ _ _ _ _ first.0 (ap (λ s. s.taken) first.1)
    (ap g.R.Source.remaining c.refuse.ensures.same)
    (take_missing outer.limits _ fields inside c.args.next.at c.args.next.tag _ _ c.in-None.is)

pub returns-then-not-fits-clause-reads : goal.returns-then-not-fits-clause-reads
returns-then-not-fits-clause-reads g c = λ fields same outer inside a.
    let first = c.refuse-then-not-fits.ensures.first c.requires.fine in
    hears_stop _ (fault c.args.next.at WrongTag) _ _ _ _ _ _ _ first.0 (ap (λ s. s.taken) first.1)
    (ap g.R.Source.remaining c.refuse-then-not-fits.ensures.same)
    (take_wrong outer.limits _ fields inside c.args.next.at c.args.next.tag
    (c.in-Some.tag, c.in-Some.field-0-1) _ _ c.in-Some.is (sym c.fits-fits.ensures ∙ c.if-not-fits.true))

pub returns-clause-reads : goal.returns-clause-reads
returns-clause-reads g c = λ fields same outer inside a.
    let at = c.args.next.at in
    let n = c.args.next.tag in
    let t : Tag × Bool = (c.in-Some.tag, c.in-Some.field-0-1) in
    let given : Given = record { at = at; tag = c.in-Some.tag; constructed = c.in-Some.field-0-1 } in
    let is = field_given outer inside c.args.pull.now.state at n t a c.in-Some.is in
    let on = sym c.fits-fits.ensures ∙ c.if-not-fits.false in
    value_through c.read.result g.F.DependentElement.value _ _ _ _ _ _ (λ h x.
    take_read outer.limits g.F.DependentElement.type_term fields inside at n t h _ _ _ _ c.in-Some.is on
    (there_as outer inside c.args.pull.now.state
    (next_of c.args.next) g.F.DependentElement.type_term fields at c.in-Some.tag c.in-Some.field-0-1 h _ _ _ _ a x))
    (c.read.ensures.reads fields given same c.requires.fine is)

pub returns-clause-short : goal.returns-clause-short
returns-clause-short g c =
    let a = c.requires.inside.2 in
    let at = c.args.next.at in
    let n = c.args.next.tag in
    let t : Tag × Bool = (c.in-Some.tag, c.in-Some.field-0-1) in
    let given : Given = record { at = at; tag = c.in-Some.tag; constructed = c.in-Some.field-0-1 } in
    let fields = g.A.FieldsText.values c.args.earlier.now in
    of_value c.read.result g.F.DependentElement.value _ _ _ _ _
    (λ field. length (der (g.F.DependentElement.value field)) < 2 ^ 32)
    (λ x v same h.
    field_short g.F.DependentElement.type_term fields c.args.pull.now.state at c.in-Some.tag c.in-Some.field-0-1
    v
    (g.F.DependentElement.value x) _ _ _
    (subst (λ w. BeginsBefore c.args.pull.now.state (next_at at w)) c.in-Some.is a.begins) h same)
    (c.read.ensures.reads fields given (each_refl fields) c.requires.fine
    (field_given c.requires.inside.0 c.requires.inside.1 c.args.pull.now.state at n t a c.in-Some.is))

pub returns-clause-begins : goal.returns-clause-begins
returns-clause-begins g c =
    let a = c.requires.inside.2 in
    let at = c.args.next.at in
    let n = c.args.next.tag in
    let t : Tag × Bool = (c.in-Some.tag, c.in-Some.field-0-1) in
    let given : Given = record { at = at; tag = c.in-Some.tag; constructed = c.in-Some.field-0-1 } in
    let fields = g.A.FieldsText.values c.args.earlier.now in
    of_value c.read.result g.F.DependentElement.value _ _ _ _ _
    (λ field. may_begin g.F.DependentElement.type_term (value_tag (g.F.DependentElement.value field)) ≡ true)
    (λ x v same h.
    field_tagged g.F.DependentElement.type_term fields c.args.pull.now.state at c.in-Some.tag c.in-Some.field-0-1
    v
    (g.F.DependentElement.value x) _ _ _
    (subst (λ w. BeginsBefore c.args.pull.now.state (next_at at w)) c.in-Some.is a.begins) h same)
    (c.read.ensures.reads fields given (each_refl fields) c.requires.fine
    (field_given c.requires.inside.0 c.requires.inside.1 c.args.pull.now.state at n t a c.in-Some.is))

pub returns-clause-memory : goal.returns-clause-memory
returns-clause-memory g c = λ other.
    let t : Tag × Bool = (c.in-Some.tag, c.in-Some.field-0-1) in
    absurd (stands_there g.F.DependentElement.type_term c.args.next.tag t c.in-Some.is
    (sym c.fits-fits.ensures ∙ c.if-not-fits.false) other)
