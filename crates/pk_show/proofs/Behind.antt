-- What is put after a text, call by call.
use Rattle.std.proofs.Common.{◌≡◌, ℕ, List, OnOk, Result, ◌++◌, ◌∙◌, ap, append_assoc, subst}

-- the same lines in other words
pub in_words : {T E : Type 0} (result : Result T E) (new old lines words : List ℕ) → OnOk result (new ≡ old ++ lines)
    → lines ≡ words → OnOk result (new ≡ old ++ words)
in_words result new old lines words h e = subst (λ s. OnOk result (new ≡ old ++ s)) e h

-- what went out before, and what goes after it
pub past : {T E : Type 0} (result : Result T E) (new mid old first lines : List ℕ) → mid ≡ old ++ first
    → OnOk result (new ≡ mid ++ lines) → OnOk result (new ≡ old ++ (first ++ lines))
past result new mid old first lines m h =
    subst (λ s. OnOk result (new ≡ s)) (ap (λ s. s ++ lines) m ∙ append_assoc old first lines) h

-- the same where the text goes on
pub further : (new mid old first lines : List ℕ) → mid ≡ old ++ first → new ≡ mid ++ lines
    → new ≡ old ++ (first ++ lines)
further new mid old first lines m h = h ∙ ap (λ s. s ++ lines) m ∙ append_assoc old first lines
