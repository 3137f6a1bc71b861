use Rattle.std.proofs.Common.{rules, Bool, Some, None, sym, subst, ◌∙◌}
use Rattle.tlv_core.specs.Identifier.{Tag}
use Rattle.ber_pull.specs.Hears.{next_at}
use Rattle.ber_pull.proofs.Hearing.{hears_done, hears_error, hears_then}
use Rattle.asn_fields.proofs.FieldReadings.{optional_absent, optional_other, optional_read}
use Rattle.asn_fields.proofs.Insides.{field_given, stands_some, used_within}
use Rattle.ber_pull.specs.declared.state.Given.{Given}
use Rattle.asn_fields.specs.Fields.{next_of}
use Rattle.asn_fields.specs.Insides.{BeginsBefore}
use Rattle.asn_fields.proofs.FieldTags.{field_tagged, stands_there}
use Rattle.asn_fields.proofs.ShortFields.{field_short}
use Rattle.asn_fields.proofs.FieldAnswers.{with_error}
use Rattle.x690_laws.proofs.ReadingOfElements.{each_refl}
use Rattle.asn_fields.proofs.Dependents.{there_as}
use Rattle.asn_fields.proofs.dependent.optional_dependent.Goals as goal

pub returns-in-None-clause-reads : goal.returns-in-None-clause-reads
returns-in-None-clause-reads g c = λ fields same outer inside a.
    (None, tt, optional_absent outer.limits _ fields inside c.args.next.now.at c.args.next.now.tag _ _ c.in-None.is)

pub returns-then-not-fits-clause-reads : goal.returns-then-not-fits-clause-reads
returns-then-not-fits-clause-reads g c = λ fields same outer inside a. (
  None,
  tt,
  optional_other outer.limits _ fields inside c.args.next.now.at c.args.next.now.tag
      (c.in-Some.tag, c.in-Some.field-0-1) _ _ c.in-Some.is (sym c.fits-fits.ensures ∙ c.if-not-fits.true),
)

pub returns-in_err-field-clause-reads : goal.returns-in_err-field-clause-reads
returns-in_err-field-clause-reads g c = λ fields same outer inside a.
    let at = c.args.next.now.at in
    let n = c.args.next.now.tag in
    let t : Tag × Bool = (c.in-Some.tag, c.in-Some.field-0-1) in
    let given : Given = record { at = at; tag = c.in-Some.tag; constructed = c.in-Some.field-0-1 } in
    let is = field_given outer inside c.args.pull.now.state at n t a c.in-Some.is in
    let on = sym c.fits-fits.ensures ∙ c.if-not-fits.false in
    with_error _ _ c.from_residual.result c.in_err-field.field-0.0 (search rules)
    (optional_read outer.limits g.F.DependentElement.type_term fields inside at n t _ _ _ _ _ c.in-Some.is on
    (hears_error _ _ _ _ _ _ _
    (there_as outer inside c.args.pull.now.state
    (next_of c.args.next.now) g.F.DependentElement.type_term fields at c.in-Some.tag c.in-Some.field-0-1 _ _ _ _ _ a
    (c.in_err-field.ensures.reads fields given same c.requires.fine is))))

pub returns-in_err-next-clause-reads : goal.returns-in_err-next-clause-reads
returns-in_err-next-clause-reads g c = λ fields same outer inside a.
    let at = c.args.next.now.at in
    let n = c.args.next.now.tag in
    let t : Tag × Bool = (c.in-Some.tag, c.in-Some.field-0-1) in
    let given : Given = record { at = at; tag = c.in-Some.tag; constructed = c.in-Some.field-0-1 } in
    let is = field_given outer inside c.args.pull.now.state at n t a c.in-Some.is in
    let on = sym c.fits-fits.ensures ∙ c.if-not-fits.false in
    let read = c.in_ok-field.ensures.reads fields given same c.requires.fine is in
    let within = used_within outer inside c.args.pull.now.state (next_of c.args.next.now) c.read.new.pull.state a
    (stands_some at n t c.in-Some.is) c.in_ok-field.ensures.stands in
    with_error _ _ c.from_residual-in_err-next.result c.in_err-next.field-0.0 (search rules)
    (optional_read outer.limits g.F.DependentElement.type_term fields inside at n t _ _ _ _ _ c.in-Some.is on
    (hears_then _ _ read.0 _ _ _ _ _ _ _
    (there_as outer inside c.args.pull.now.state
    (next_of c.args.next.now)
    g.F.DependentElement.type_term fields at c.in-Some.tag c.in-Some.field-0-1 _ _ _ _ _ a read.2)
    (hears_error _ _ _ _ _ _ _ (c.in_err-next.ensures.reads outer inside within))))

pub returns-clause-reads : goal.returns-clause-reads
returns-clause-reads g c = λ fields same outer inside a.
    let at = c.args.next.now.at in
    let n = c.args.next.now.tag in
    let t : Tag × Bool = (c.in-Some.tag, c.in-Some.field-0-1) in
    let given : Given = record { at = at; tag = c.in-Some.tag; constructed = c.in-Some.field-0-1 } in
    let is = field_given outer inside c.args.pull.now.state at n t a c.in-Some.is in
    let on = sym c.fits-fits.ensures ∙ c.if-not-fits.false in
    let read = c.in_ok-field.ensures.reads fields given same c.requires.fine is in
    let within = used_within outer inside c.args.pull.now.state (next_of c.args.next.now) c.read.new.pull.state a
    (stands_some at n t c.in-Some.is) c.in_ok-field.ensures.stands in (
      Some read.0,
      read.1,
      optional_read outer.limits g.F.DependentElement.type_term fields inside at n t _ _ _ _ _ c.in-Some.is on
          (hears_then _ _ read.0 _ _ _ _ _ _ _
          (there_as outer inside c.args.pull.now.state
          (next_of c.args.next.now)
          g.F.DependentElement.type_term fields at c.in-Some.tag c.in-Some.field-0-1 _ _ _ _ _ a read.2)
          (hears_then _ _ (next_of c.in_ok-next.field-0) _ _ _ _ _ _ _ (c.in_ok-next.ensures.reads outer inside within)
          (hears_done _ _ _))),
    )

pub returns-clause-short : goal.returns-clause-short
returns-clause-short g c =
    let outer = c.requires.inside.0 in
    let inside = c.requires.inside.1 in
    let a = c.requires.inside.2 in
    let fields = g.A.FieldsText.values c.args.earlier.now in
    let at = c.args.next.now.at in
    let n = c.args.next.now.tag in
    let t : Tag × Bool = (c.in-Some.tag, c.in-Some.field-0-1) in
    let given : Given = record { at = at; tag = c.in-Some.tag; constructed = c.in-Some.field-0-1 } in
    let read = c.in_ok-field.ensures.reads fields given (each_refl fields) c.requires.fine
    (field_given outer inside c.args.pull.now.state at n t a c.in-Some.is) in
    field_short g.F.DependentElement.type_term fields c.args.pull.now.state at c.in-Some.tag c.in-Some.field-0-1
    read.0
    (g.F.DependentElement.value c.in_ok-field.field) _ _ _
    (subst (λ w. BeginsBefore c.args.pull.now.state (next_at at w)) c.in-Some.is a.begins) read.2 read.1

pub returns-clause-begins : goal.returns-clause-begins
returns-clause-begins g c =
    let outer = c.requires.inside.0 in
    let inside = c.requires.inside.1 in
    let a = c.requires.inside.2 in
    let fields = g.A.FieldsText.values c.args.earlier.now in
    let at = c.args.next.now.at in
    let n = c.args.next.now.tag in
    let t : Tag × Bool = (c.in-Some.tag, c.in-Some.field-0-1) in
    let given : Given = record { at = at; tag = c.in-Some.tag; constructed = c.in-Some.field-0-1 } in
    let read = c.in_ok-field.ensures.reads fields given (each_refl fields) c.requires.fine
    (field_given outer inside c.args.pull.now.state at n t a c.in-Some.is) in
    field_tagged g.F.DependentElement.type_term fields c.args.pull.now.state at c.in-Some.tag c.in-Some.field-0-1
    read.0
    (g.F.DependentElement.value c.in_ok-field.field) _ _ _
    (subst (λ w. BeginsBefore c.args.pull.now.state (next_at at w)) c.in-Some.is a.begins) read.2 read.1

pub returns-in_err-field-clause-absent : goal.returns-in_err-field-clause-absent
returns-in_err-field-clause-absent g c = λ other.
    let t : Tag × Bool = (c.in-Some.tag, c.in-Some.field-0-1) in
    absurd (stands_there g.F.DependentElement.type_term c.args.next.now.tag t c.in-Some.is
    (sym c.fits-fits.ensures ∙ c.if-not-fits.false) other)

pub returns-in_err-next-clause-absent : goal.returns-in_err-next-clause-absent
returns-in_err-next-clause-absent g c = λ other.
    let t : Tag × Bool = (c.in-Some.tag, c.in-Some.field-0-1) in
    absurd (stands_there g.F.DependentElement.type_term c.args.next.now.tag t c.in-Some.is
    (sym c.fits-fits.ensures ∙ c.if-not-fits.false) other)

pub returns-clause-absent : goal.returns-clause-absent
returns-clause-absent g c = λ other.
    let t : Tag × Bool = (c.in-Some.tag, c.in-Some.field-0-1) in
    absurd (stands_there g.F.DependentElement.type_term c.args.next.now.tag t c.in-Some.is
    (sym c.fits-fits.ensures ∙ c.if-not-fits.false) other)
