use Rattle.std.proofs.Common.{rules, ap}
use Rattle.asn_fields.proofs.BegunSequence.{after_due, stopped_at_due}
use Rattle.asn_fields.proofs.FieldAnswers.{with_error}
use Rattle.x690.specs.Layouts.{universal}
use Rattle.x690_laws.proofs.LengthsOfTexts.{der_leaf}
use Rattle.ber_pull.proofs.Hearing.{hears_memory}
use Rattle.private_keys.proofs.number_reading.append_integer.Goals as goal

pub returns-in_err-due_integer-clause-reads : goal.returns-in_err-due_integer-clause-reads
returns-in_err-due_integer-clause-reads g c = λ k s whole finish rest ws a.
    with_error _ _ c.from_residual.result c.in_err-due_integer.field-0.0 (search rules)
    (stopped_at_due a _ _ _ c.in_err-due_integer.ensures.reads)

pub returns-in-Ok-clause-reads : goal.returns-in-Ok-clause-reads
returns-in-Ok-clause-reads g c = λ k s whole finish rest ws a.
    after_due a _ c.in_ok-due_integer.ensures.reads c.in_ok-due_integer.ensures.stands

pub returns-in-Err-clause-reads : goal.returns-in-Err-clause-reads
returns-in-Err-clause-reads g c = λ k s whole finish rest ws a.
    let behind = after_due a _ c.in_ok-due_integer.ensures.reads c.in_ok-due_integer.ensures.stands in
    let first = c.no_memory.ensures.first c.in_ok-due_integer.ensures.frame.keeps.0 in
    behind.onward.rest _ _ _
    (hears_memory _ c.no_memory.result _ _ _ _ first.0 (ap (λ z. z.taken) first.1)
    (ap g.R.Source.remaining c.no_memory.ensures.same))

pub returns-in-Ok-clause-put : goal.returns-in-Ok-clause-put
returns-in-Ok-clause-put g c = rw (der_leaf (universal 2) c.due_integer.new.contents.items) (search rules)
