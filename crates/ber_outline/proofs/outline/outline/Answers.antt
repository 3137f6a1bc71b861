use Rattle.std.proofs.Common.{◌≡◌, ◌∙◌, None, ap, length, subst, sym}
use Rattle.ber_outline.specs.Outlines.{IsOutline}
use Rattle.ber_outline.specs.Steps.{StopsAt, open_after}
use Rattle.ber_outline.proofs.Progress.{Went, went_all, went_more, went_stops}
use Rattle.ber_outline.proofs.outline.outline.Goals as goal

pub returns-in-Err-Fault-default : goal.returns-in-Err-Fault-default
returns-in-Err-Fault-default c =
    rw c.in-Err-Fault-default.field-0-0-is
    (went_stops c.args.limits c.args.document.now c.loop-event.events.items c.loop-event.pull.state
    c.loop-event.pull.src.now.now c.loop-event.invariant.went c.in-Err-Fault-default.fault
    c.in-Err-Fault-default.element
    (subst (λ e. StopsAt e c.in-Err-Fault-default.element c.loop-event.pull.state c.loop-event.pull.src.now.now)
    c.in-Err-Fault-default.field-0-0-is c.in-Err-Fault-default.ensures))

pub returns-then-depth-eq0 : goal.returns-then-depth-eq0
returns-then-depth-eq0 c =
    let leads = c.in-Ok.ensures in
    let depth : length c.next_event.new.pull.state.containers ≡ c.depth_after-depth.result =
    leads.depth
    ∙ (ap (open_after c.in-Ok.event) (sym c.loop-event.invariant.depth) ∙ sym c.depth_after-depth.ensures) in
    subst (λ events. IsOutline c.args.limits c.args.document.now events None) (sym c.in-Ok-push.ensures.items)
    (went_all c.args.limits c.args.document.now c.loop-event.events.items c.loop-event.pull.state
    c.loop-event.pull.src.now.now c.loop-event.invariant.went c.in-Ok.event c.next_event.new.pull.state
    c.next_event.new.pull.src.now.now leads (depth ∙ c.if-depth-eq0.true))

pub loop-event-preserved : goal.loop-event-preserved
loop-event-preserved c =
    let leads = c.in-Ok.ensures in
    let depth : length c.next_event.new.pull.state.containers ≡ c.depth_after-depth.result =
    leads.depth
    ∙ (ap (open_after c.in-Ok.event) (sym c.loop-event.invariant.depth) ∙ sym c.depth_after-depth.ensures) in
    record {
      went = subst (λ events. Went c.args.limits c.args.document.now events c.next_event.new.pull.state
          c.next_event.new.pull.src.now.now) (sym c.in-Ok-push.ensures.items)
          (went_more c.args.limits c.args.document.now c.loop-event.events.items c.loop-event.pull.state
          c.loop-event.pull.src.now.now c.loop-event.invariant.went c.in-Ok.event c.next_event.new.pull.state
          c.next_event.new.pull.src.now.now leads (λ h. c.if-depth-eq0.false (sym depth ∙ h)));
      depth = sym depth;
    }
