-- Answers and errors of a field that are handed on; fields that are the same.
use Rattle.std.proofs.Common.{◌≡◌, ℕ, List, IfOk, Option, Result, Ok, Err, sym, subst}
use Rattle.std.specs.Result.{MatchResult}
use Rattle.tlv_core.specs.declared.fault.ReadError.{ReadError}
use Rattle.x690.specs.Reading.{Reading}
use Rattle.x690.specs.Reads.{Heard, Said}
use Rattle.x690.specs.Values.{Same, Value}
use Rattle.ber_pull.specs.Hears.{Hears, heard_error}

-- a value or an error, by a reading that is answered as another one
pub value_through : {T : Type 0} (r : Result T ReadError) (value : T → Value) (p q : Reading Value) (k i : ℕ)
    (s u : Option (List ℕ))
    → ((h : Heard Value) → Hears p k s h i u → Hears q k s h i u)
    → MatchResult r (λ x. (v : Value) × Same v (value x) × Hears p k s (Said v) i u)
    (λ e. Hears p k s (heard_error e) i u)
    → MatchResult r (λ x. (v : Value) × Same v (value x) × Hears q k s (Said v) i u)
    (λ e. Hears q k s (heard_error e) i u)
value_through (Ok x) value p q k i s u f h = (h.0, h.1, f (Said h.0) h.2)
value_through (Err e) value p q k i s u f h = f (heard_error e) h

-- what follows of a value that was answered
pub of_value : {T : Type 0} (r : Result T ReadError) (value : T → Value) (p : Reading Value) (k i : ℕ)
    (s u : Option (List ℕ)) (Holds : T → Type 0)
    → ((x : T) (v : Value) → Same v (value x) → Hears p k s (Said v) i u → Holds x)
    → MatchResult r (λ x. (v : Value) × Same v (value x) × Hears p k s (Said v) i u)
    (λ e. Hears p k s (heard_error e) i u)
    → IfOk r Holds
of_value (Ok x) value p k i s u Holds f h = f x h.0 h.1 h.2
of_value (Err e) value p k i s u Holds f h = tt

-- what holds of an error holds of a result that is one
pub with_error : {T E : Type 0} (Holds : T → Type 0) (Fails : E → Type 0) (r : Result T E) (e : E) → r ≡ Err e → Fails e
    → MatchResult r Holds Fails
with_error {T} Holds Fails r e h x = subst (λ w. MatchResult {T = T} w Holds Fails) (sym h) x
