-- Naming that ends at an event.
use Rattle.std.proofs.Common.{List, None, Option, Some, ◌≡◌, ◌∙◌, ◌<◌, ◌∷◌, ap, drop, get_or, length, suc, sym, ℕ}
use Rattle.std.proofs.Math.Seq.{drop-cons}
use Rattle.std.specs.Borrow.{Bor}
use Rattle.ber_outline.specs.declared.event.Event.{Event}
use Rattle.pkix_shapes.specs.declared.shape.Shape.{Shape}
use Rattle.asn_names.specs.Naming.{after_events}
use Rattle.asn_names.specs.NamingSteps.{State, happened}
use Rattle.asn_names.specs.declared.element.Mismatch.{Mismatch}

-- where the event of this number is the mismatch, so it is for the events from it on
pub events_mismatch : (document : List ℕ) (root : Bor Shape) (events : List Event) (i : ℕ) (event : Event)
    (state after : State) (mismatch : Mismatch) (end : State × Option Mismatch)
    → i < length events → event ≡ get_or events i event
    → (after, Some mismatch) ≡ happened document root event state
    → after_events document root (drop i events) state ≡ end → (after, Some mismatch) ≡ end
events_mismatch document root events i event state after mismatch end within is next whole =
    let rest = drop (suc i) events in
    let left : drop i events ≡ event ∷ rest = drop-cons events i event within ∙ ap (λ e. e ∷ rest) (sym is) in
    let here : (after, Some mismatch) ≡ after_events document root (event ∷ rest) state =
    ap (λ t. elim t.1 [ None ↦ after_events document root rest t.0 | Some p ↦ t ]) next in
    here ∙ (ap (λ es. after_events document root es state) (sym left) ∙ whole)
