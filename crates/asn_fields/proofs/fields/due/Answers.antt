use Rattle.std.proofs.Common.{[], rules}
use Rattle.ber_pull.proofs.Hearing.{hears_as}
use Rattle.asn_fields.specs.Fields.{next_of}
use Rattle.asn_fields.proofs.FieldAnswers.{with_error}
use Rattle.asn_fields.proofs.FieldReadings.{due_any}
use Rattle.asn_fields.proofs.fields.due.Goals as goal

pub returns-in_err-field-clause-reads : goal.returns-in_err-field-clause-reads
returns-in_err-field-clause-reads g c = λ earlier outer inside a.
    with_error _ _ c.from_residual.result c.in_err-field.field-0.0 (search rules)
    (hears_as _ _ _ _ _ _ _
    (due_any outer.limits g.T.Element.type_term earlier inside (next_of c.args.next.now) g.met.T.Element.closed)
    (c.in_err-field.ensures.reads [] tt outer inside a))

pub returns-clause-reads : goal.returns-clause-reads
returns-clause-reads g c = λ earlier outer inside a.
    let read = c.in_ok-field.ensures.reads [] tt outer inside a in (
      read.0,
      read.1,
      hears_as _ _ _ _ _ _ _
          (due_any outer.limits g.T.Element.type_term earlier inside (next_of c.args.next.now) g.met.T.Element.closed)
          read.2,
    )
