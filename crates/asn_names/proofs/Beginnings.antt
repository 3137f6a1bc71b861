-- An element that begins at a place of the innermost open container.
use Rattle.std.proofs.Common.{List, Option, Some, ◌≡◌, drop, subst, sym, ℕ}
use Rattle.std.specs.Prelude.{IfOk}
use Rattle.std.specs.Borrow.{Bor}
use Rattle.std.specs.declared.result.Result.{Result}
use Rattle.pkix_shapes.specs.declared.shape.Shape.{Shape}
use Rattle.asn_names.specs.NamingSteps.{State, began, begins, begins_at, begins_taken, taken, without_innermost}
use Rattle.asn_names.specs.declared.element.Level.{Level}
use Rattle.asn_names.specs.declared.element.Mismatch.{Mismatch}
use Rattle.asn_names.specs.declared.level.Place.{Place}
use Rattle.asn_names.specs.declared.naming_state.Beginning.{Beginning}
use Rattle.asn_names.specs.declared.naming_state.Taken.{Taken}

-- what is said of an element at the place that was taken is said of an element that begins
pub began_placed : {E : Type 0} (document : List ℕ) (root : Bor Shape) (beginning : Beginning) (state : State)
    (found : Taken) (place : Place) (outer : List (ℕ × Level)) (result : Result (Option Mismatch) E) (after : State)
    → found ≡ taken state.containers root beginning.header.tag → found.place ≡ Some place
    → outer ≡ drop 1 state.containers
    → IfOk result (λ mismatch. (after, mismatch)
    ≡ begins_at document beginning found place (record { elements = state.elements; containers = outer }))
    → IfOk result (λ mismatch. (after, mismatch) ≡ began document root beginning state)
began_placed document root beginning state found place outer result after is placed left said =
    let a = subst (λ cs. IfOk result (λ mismatch. (after, mismatch)
    ≡ begins_at document beginning found place (record { elements = state.elements; containers = cs }))) left said in
    let b = subst (λ o. IfOk result (λ mismatch. (after, mismatch)
    ≡ begins document beginning found o (without_innermost state))) (sym placed) a in
    subst (λ u. IfOk result (λ mismatch. (after, mismatch)
    ≡ begins_taken document beginning u (without_innermost state))) is b
