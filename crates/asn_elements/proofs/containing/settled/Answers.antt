use Rattle.std.proofs.Common.{rules, ◌≡◌, Err, Some, ap, subst}
use Rattle.tlv_core.specs.declared.fault.Fault.{Fault}
use Rattle.tlv_core.specs.declared.fault.ReadError.TheVariants as errors
use Rattle.tlv_core.specs.declared.reason.Reason.TheVariants.{Inner}
use Rattle.ber_pull.proofs.Hearing.{hears_memory}
use Rattle.asn_elements.specs.Contained.{CameInside}
use Rattle.asn_elements.specs.Whole.{read_inside}
use Rattle.asn_elements.proofs.ReaderAnswers.{refused_by}
use Rattle.asn_elements.proofs.Contained.{inside_refused, inside_said}
use Rattle.asn_elements.proofs.containing.settled.Goals as goal

pub returns-in-Ok-clause-reads : goal.returns-in-Ok-clause-reads
returns-in-Ok-clause-reads g c = λ limits octets came.
    let T = g.T.Element.type_term in
    let inside = subst (CameInside limits T octets g.T.DerText.value) c.in-Ok.is came in
    (inside.0, inside.1, inside_said limits T c.args.at octets inside.0 _ _ inside.2)

pub returns-in-Err-Fault-clause-reads : goal.returns-in-Err-Fault-clause-reads
returns-in-Err-Fault-clause-reads g c = λ limits octets came.
    let T = g.T.Element.type_term in
    let old = c.args.pull.now in
    let found = c.in-Err-Fault.fault in
    let is : c.args.read ≡ Err (errors.Fault found) = search rules in
    let inside = subst (CameInside limits T octets g.T.DerText.value) is came in
    let outer : Fault = record { at = c.args.at; why = Inner; inside = Some (found.at, found.why) } in
    let first = c.refuse.ensures.first c.requires.fine in
    refused_by _ old old c.refuse.new.self outer c.refuse.result first.0 first.1 c.refuse.ensures.same
    (inside_refused limits T c.args.at octets found _ _ inside)

pub returns-in-Err-Memory-clause-reads : goal.returns-in-Err-Memory-clause-reads
returns-in-Err-Memory-clause-reads g c = λ limits octets came.
    let first = c.no_memory.ensures.first c.requires.fine in
    hears_memory (read_inside limits g.T.Element.type_term _ c.args.at octets) c.no_memory.result _ _ _ _ first.0
    (ap (λ s. s.taken) first.1) (ap g.R.Source.remaining c.no_memory.ensures.same)
