use Rattle.std.proofs.Common.{rules}
use Rattle.asn_fields.proofs.FieldAnswers.{with_error}
use Rattle.asn_fields.proofs.BegunSequence.{after_default, fields_as, stopped_at_default}
use Rattle.asn_fields.proofs.default_false.DefaultFalseIndependentFields.read.Goals as goal

pub returns-in_err-field-clause-reads : goal.returns-in_err-field-clause-reads
returns-in_err-field-clause-reads g c = λ k s whole finish rest ws a.
    with_error _ _ c.from_residual.result c.in_err-field.field-0.0 (search rules)
    (stopped_at_default a _ _ _ c.in_err-field.ensures.reads)

pub returns-clause-reads : goal.returns-clause-reads
returns-clause-reads g c = λ k s whole finish rest ws a.
    fields_as ws c.is_true.ensures (after_default a _ c.in_ok-field.ensures.reads c.in_ok-field.ensures.stands)
