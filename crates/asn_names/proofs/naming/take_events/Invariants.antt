use Rattle.std.proofs.Common.{◌≡◌, drop}
use Rattle.asn_names.specs.Naming.{after_events}
use Rattle.asn_names.specs.NamingSteps.{state_of}
use Rattle.asn_names.proofs.naming.take_events.Given as goal

abbrev pub invariant-loop-event : goal.invariant-loop-event
invariant-loop-event l =
    after_events l.fn.subject.document.now l.fn.subject.root (drop l.event-index l.events) (state_of l.naming)
    ≡ after_events l.fn.subject.document.now l.fn.subject.root l.events (state_of l.fn.naming)
