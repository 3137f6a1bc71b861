use Rattle.std.proofs.Common.{rules, refl}
use Rattle.asn_fields.proofs.FieldAnswers.{with_error}
use Rattle.asn_fields.proofs.BegunSequence.{after_begin, after_end, answered, stopped_at_begin, stopped_at_end}
use Rattle.asn_fields.proofs.sequence.read_sequence_as.Goals as goal

pub returns-in_err-next-clause-reads : goal.returns-in_err-next-clause-reads
returns-in_err-next-clause-reads g c = λ given earlier fine is.
    with_error _ _ c.from_residual.result c.in_err-next.field-0.0 (search rules)
    (stopped_at_begin _ _ _ _ _ _ _ _ _ _ _ _ refl (c.in_err-next.ensures.reads given fine is))

pub returns-in_err-fields-clause-reads : goal.returns-in_err-fields-clause-reads
returns-in_err-fields-clause-reads g c = λ given earlier fine is.
    let begun = after_begin _ _ _ _ _ refl (c.in_ok-next.ensures.reads given fine is) c.in_ok-next.ensures.stands in
    with_error _ _ c.from_residual-in_err-fields.result c.in_err-fields.field-0.0 (search rules)
    (c.in_err-fields.ensures.reads _ _ _ _ _ begun)

pub returns-in_err-end-clause-reads : goal.returns-in_err-end-clause-reads
returns-in_err-end-clause-reads g c = λ given earlier fine is.
    let begun = after_begin _ _ _ _ _ refl (c.in_ok-next.ensures.reads given fine is) c.in_ok-next.ensures.stands in
    let fields = c.in_ok-fields.ensures.reads _ _ _ _ _ begun in
    with_error _ _ c.from_residual-in_err-end.result c.in_err-end.field-0.0 (search rules)
    (stopped_at_end fields _ _ _ c.in_err-end.ensures.reads)

pub returns-clause-reads : goal.returns-clause-reads
returns-clause-reads g c = λ given earlier fine is.
    let begun = after_begin _ _ _ _ _ refl (c.in_ok-next.ensures.reads given fine is) c.in_ok-next.ensures.stands in
    let fields = c.in_ok-fields.ensures.reads _ _ _ _ _ begun in
    answered (after_end fields c.in_ok-end.ensures.reads)
