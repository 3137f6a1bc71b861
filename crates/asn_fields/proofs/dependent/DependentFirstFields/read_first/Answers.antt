use Rattle.std.proofs.Common.{rules, ◌∷◌, [], ap, append-nil, arith, length}
use Rattle.x690.specs.DerTexts.{der}
use Rattle.asn_fields.proofs.FieldAnswers.{with_error}
use Rattle.asn_fields.proofs.PartTexts.{length_both}
use Rattle.asn_fields.proofs.BegunSequence.{after_due_behind, stopped_at_due_behind}
use Rattle.asn_fields.proofs.dependent.DependentFirstFields.read_first.Goals as goal

pub returns-in_err-earlier-clause-reads : goal.returns-in_err-earlier-clause-reads
returns-in_err-earlier-clause-reads g c = λ k s whole finish rest a.
    with_error _ _ c.from_residual.result c.in_err-earlier.field-0.0 (search rules)
    (c.in_err-earlier.ensures.reads k s whole finish _ a)

pub returns-in_err-field-clause-reads : goal.returns-in_err-field-clause-reads
returns-in_err-field-clause-reads g c = λ k s whole finish rest a.
    let earlier = c.in_ok-earlier.ensures.reads k s whole finish _ a in
    with_error _ _ c.from_residual-in_err-field.result c.in_err-field.field-0.0 (search rules)
    (stopped_at_due_behind earlier _ _ _ c.in_err-field.ensures.reads)

pub returns-clause-reads : goal.returns-clause-reads
returns-clause-reads g c = λ k s whole finish rest a.
    let earlier = c.in_ok-earlier.ensures.reads k s whole finish _ a in
    after_due_behind earlier _ c.in_ok-field.ensures.reads c.in_ok-field.ensures.stands

pub returns-clause-short : goal.returns-clause-short
returns-clause-short g c =
    let a = g.A.FieldsText.values c.in_ok-earlier.earlier in
    let v = g.F.DependentElement.value c.in_ok-field.field in
    omega (
      arith,
      length_both a (v ∷ []),
      ap length (append-nil (der v)),
      c.in_ok-earlier.ensures.short,
      c.in_ok-field.ensures.short,
    )
