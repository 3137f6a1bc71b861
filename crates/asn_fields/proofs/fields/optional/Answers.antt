use Rattle.std.specs.Option.{option_map}
use Rattle.std.proofs.Common.{[], rules, subst}
use Rattle.ber_pull.proofs.Hearing.{hears_as}
use Rattle.asn_fields.specs.Fields.{SameField, next_of}
use Rattle.asn_fields.proofs.FieldAnswers.{with_error}
use Rattle.asn_fields.proofs.FieldReadings.{optional_any}
use Rattle.asn_fields.proofs.fields.optional.Goals as goal

pub returns-in_err-found-clause-reads : goal.returns-in_err-found-clause-reads
returns-in_err-found-clause-reads g c = λ earlier outer inside a.
    with_error _ _ c.from_residual.result c.in_err-found.field-0.0 (search rules)
    (hears_as _ _ _ _ _ _ _
    (optional_any outer.limits g.T.Element.type_term earlier inside (next_of c.args.next.now) g.met.T.Element.closed)
    (c.in_err-found.ensures.reads [] tt outer inside a))

pub returns-in-Some-clause-reads : goal.returns-in-Some-clause-reads
returns-in-Some-clause-reads g c = λ earlier outer inside a.
    let read = c.in_ok-found.ensures.reads [] tt outer inside a in (
      read.0,
      subst (λ o. SameField read.0 (option_map (λ x. g.T.DerText.value x.0) o)) c.in-Some.is read.1,
      hears_as _ _ _ _ _ _ _
          (optional_any outer.limits g.T.Element.type_term earlier inside (next_of c.args.next.now)
          g.met.T.Element.closed)
          read.2,
    )

pub returns-in-None-clause-reads : goal.returns-in-None-clause-reads
returns-in-None-clause-reads g c = λ earlier outer inside a.
    let read = c.in_ok-found.ensures.reads [] tt outer inside a in (
      read.0,
      subst (λ o. SameField read.0 (option_map (λ x. g.T.DerText.value x.0) o)) c.in-None.is read.1,
      hears_as _ _ _ _ _ _ _
          (optional_any outer.limits g.T.Element.type_term earlier inside (next_of c.args.next.now)
          g.met.T.Element.closed)
          read.2,
    )
