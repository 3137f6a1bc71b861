use Rattle.std.proofs.Common.{◌∙◌, ap, sym}
use Rattle.asn_names.specs.NamingSteps.{state_of}
use Rattle.asn_names.proofs.Mismatches.{events_mismatch}
use Rattle.asn_names.proofs.naming.take_events.Goals as goal

pub returns-in-Some : goal.returns-in-Some
returns-in-Some c =
    events_mismatch c.args.subject.now.document.now c.args.subject.now.root c.args.events.now c.loop-event.event-index
    c.event-item.result (state_of c.loop-event.naming) (state_of c.take_event.new.naming) c.in-Some.mismatch _
    c.loop-event-test.true c.event-item.is
    (ap (λ p. (state_of c.take_event.new.naming, p)) (sym c.in-Some.is) ∙ c.in_ok-mismatch.ensures)
    c.loop-event.invariant
