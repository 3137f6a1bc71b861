-- Where the texts after the first begin.
use Rattle.std.proofs.Common.{◌≡◌, ap, refl, ◌-◌, ◌<◌, ℕ, zero, suc, List, [], ◌∷◌, drop, get_or, length, arith}
use Rattle.x690.specs.DerTexts.{texts_of}
use Rattle.x690.specs.Values.{Value}
use Rattle.asn_elements.specs.Members.{starts_from}

-- the first text begins at 0
pub starts_whole : (vs : List Value) (ss : List ℕ) → ss ≡ drop 1 (starts_from 0 vs) → 0 < length (texts_of vs)
    → 0 ∷ ss ≡ starts_from 0 vs
starts_whole [] ss s h = absurd (omega arith)
starts_whole (v ∷ vs) ss s h = ap (λ z. 0 ∷ z) s

-- where a later text begins
pub start_before : (ss : List ℕ) (k : ℕ) → (k ≡ 0 → ⊥) → get_or ss (k - 1) 0 ≡ get_or (0 ∷ ss) k 0
start_before ss zero h = absurd (h refl)
start_before ss (suc k) h = ap (λ j. get_or ss j 0) (let e : suc k - 1 ≡ k = omega arith in e)
