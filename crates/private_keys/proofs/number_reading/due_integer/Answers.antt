use Rattle.std.proofs.Common.{rules}
use Rattle.asn_fields.proofs.FieldReadings.{take_then}
use Rattle.asn_fields.proofs.FieldAnswers.{with_error}
use Rattle.asn_fields.proofs.Insides.{within_none}
use Rattle.asn_fields.specs.Fields.{next_of}
use Rattle.ber_pull.proofs.Hearing.{hears_done, hears_error, hears_then}
use Rattle.private_keys.proofs.number_reading.due_integer.Goals as goal

pub returns-in_err-take_integer-clause-reads : goal.returns-in_err-take_integer-clause-reads
returns-in_err-take_integer-clause-reads g c = λ fields outer inside a.
    with_error _ _ c.from_residual.result c.in_err-take_integer.field-0.0 (search rules)
    (take_then _ _ _ _ _ _ _ _ _ _
    (hears_error _ _ _ _ _ _ _ (c.in_err-take_integer.ensures.reads fields outer inside a)))

pub ahead-requires-clause-used : goal.ahead-requires-clause-used
ahead-requires-clause-used g c =
    let outer = c.requires.inside.0 in
    let inside = c.requires.inside.1 in
    within_none outer inside c.take_integer.new.pull.state
    (c.in_ok-take_integer.ensures.stands outer inside c.requires.inside.2)

pub returns-in_err-next-clause-reads : goal.returns-in_err-next-clause-reads
returns-in_err-next-clause-reads g c = λ fields outer inside a.
    let read = c.in_ok-take_integer.ensures.reads fields outer inside a in
    with_error _ _ c.from_residual-in_err-next.result c.in_err-next.field-0.0 (search rules)
    (take_then _ _ _ _ _ _ _ _ _ _
    (hears_then _ _ read.0 _ _ _ _ _ _ _ read.2
    (hears_error _ _ _ _ _ _ _
    (c.in_err-next.ensures.reads outer inside (c.in_ok-take_integer.ensures.stands outer inside a)))))

pub returns-clause-reads : goal.returns-clause-reads
returns-clause-reads g c = λ fields outer inside a.
    let read = c.in_ok-take_integer.ensures.reads fields outer inside a in
    let behind = c.in_ok-next.ensures.reads outer inside (c.in_ok-take_integer.ensures.stands outer inside a) in (
      read.0,
      read.1,
      take_then _ _ _ _ _ _ _ _ _ _
          (hears_then _ _ read.0 _ _ _ _ _ _ _ read.2
          (hears_then _ _ (next_of c.in_ok-next.field-0) _ _ _ _ _ _ _ behind (hears_done _ _ _))),
    )
