use Rattle.std.proofs.Common.{rules, arith}
use Rattle.asn_fields.proofs.FieldAnswers.{with_error}
use Rattle.asn_fields.proofs.BegunSequence.{behind_both}
use Rattle.asn_fields.proofs.PartTexts.{length_both}
use Rattle.asn_fields.proofs.field_list.Tuple2IndependentFields.read.Goals as goal

pub returns-in_err-first-clause-reads : goal.returns-in_err-first-clause-reads
returns-in_err-first-clause-reads g c = λ k s whole finish rest ws a.
    with_error _ _ c.from_residual.result c.in_err-first.field-0.0 (search rules)
    (c.in_err-first.ensures.reads k s whole finish (g.B.FieldsText.listing.types rest) ws a)

pub returns-in_err-rest-clause-reads : goal.returns-in_err-rest-clause-reads
returns-in_err-rest-clause-reads g c = λ k s whole finish rest ws a.
    with_error _ _ c.from_residual-in_err-rest.result c.in_err-rest.field-0.0 (search rules)
    (c.in_err-rest.ensures.reads k s whole finish rest _
    (c.in_ok-first.ensures.reads k s whole finish (g.B.FieldsText.listing.types rest) ws a))

pub returns-clause-reads : goal.returns-clause-reads
returns-clause-reads g c = λ k s whole finish rest ws a.
    behind_both ws _ _
    (c.in_ok-rest.ensures.reads k s whole finish rest _
    (c.in_ok-first.ensures.reads k s whole finish (g.B.FieldsText.listing.types rest) ws a))

pub returns-clause-short : goal.returns-clause-short
returns-clause-short g c =
    let a = g.A.FieldsText.values c.in_ok-first.first in
    let b = g.B.FieldsText.values c.in_ok-rest.rest in
    omega (arith, length_both a b, c.in_ok-first.ensures.short, c.in_ok-rest.ensures.short)
