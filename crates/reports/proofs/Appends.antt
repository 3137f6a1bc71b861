-- What is put after a text, or after tokens, call by call.
use Rattle.std.proofs.Common.{◌≡◌, ℕ, Err, List, Ok, OnOk, Result, ◌++◌, ◌∙◌, ap, append_assoc, cond, is_ok, subst}

-- the same in other words
pub in_words : {A T E : Type 0} (result : Result T E) (new old said words : List A) → OnOk result (new ≡ old ++ said)
    → said ≡ words → OnOk result (new ≡ old ++ words)
in_words result new old said words h e = subst (λ s. OnOk result (new ≡ old ++ s)) e h

-- what went out before, and what goes after it
pub past : {A T E : Type 0} (result : Result T E) (new mid old first said : List A) → mid ≡ old ++ first
    → OnOk result (new ≡ mid ++ said) → OnOk result (new ≡ old ++ (first ++ said))
past result new mid old first said m h =
    subst (λ s. OnOk result (new ≡ s)) (ap (λ s. s ++ said) m ∙ append_assoc old first said) h

-- the same where the text goes on
pub further : {A : Type 0} (new mid old first said : List A) → mid ≡ old ++ first → new ≡ mid ++ said
    → new ≡ old ++ (first ++ said)
further new mid old first said m h = h ∙ ap (λ s. s ++ said) m ∙ append_assoc old first said

-- what a call has put that says what it leaves either way
pub put : {T E : Type 0} (result : Result T E) (new old said : List ℕ)
    → new ≡ cond (is_ok result) (old ++ said) old → OnOk result (new ≡ old ++ said)
put (Ok it) new old said h = h
put (Err error) new old said h = tt
