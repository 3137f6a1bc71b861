-- The octets that a reading asks for.
use Rattle.std.proofs.Common.{◌≡◌, ℕ, ◌+◌, ◌<◌, ◌⊎◌, inl, inr, ⊎_elim, List, [], ◌∷◌, ◌++◌, length, refl, sym, ◌∙◌, ap, ap₂, arith, append-nil}
use Rattle.std.proofs.lemmas.List.{length-append}
use Rattle.tlv_core.specs.declared.reason.Reason.TheVariants.{Truncated}
use Rattle.x690.specs.Points.{fault}
use Rattle.x690.specs.Reading.{Ask, Done, Fail, Halted, Reading, Took, Where, run, ◌>>=◌}
use Rattle.x690.specs.Reads.{Needs}
use Rattle.x690.proofs.Runs.{halt_bind, run_bind}

-- an octet stands in no empty list
pub none_there : (some : List ℕ) (x : ℕ) (more : List ℕ) → [] ≡ some ++ (x ∷ more) → ⊥
none_there [] x more e = cc
none_there (y ∷ some) x more e = cc

-- One that stands in two lists stands in the first, or in the second after all of the first.
pub cut_in_two : (first second some : List ℕ) (x : ℕ) (more : List ℕ) → first ++ second ≡ some ++ (x ∷ more)
    → ((rest : List ℕ) × (first ≡ some ++ (x ∷ rest)))
    ⊎ ((behind : List ℕ) × (some ≡ first ++ behind) × (second ≡ behind ++ (x ∷ more)))
cut_in_two [] second some x more e = inr (some, refl, e)
cut_in_two (y ∷ first) second [] x more e = let same : y ≡ x = cc in inl (first, ap (λ z. z ∷ first) same)
cut_in_two (y ∷ first) second (z ∷ some) x more e =
    let same : y ≡ z = cc in
    let others : first ++ second ≡ some ++ (x ∷ more) = cc in
    ⊎_elim (λ a. inl (a.0, ap₂ (λ v w. v ∷ w) same a.1)) (λ b. inr (b.0, ap₂ (λ v w. v ∷ w) (sym same) b.1, b.2))
    (cut_in_two first second some x more others)

-- One that stands in the longer of two lists with which others begin stands after all of the shorter.
pub longer : (xs ys us vs : List ℕ) → xs ++ us ≡ ys ++ vs → length ys < length xs
    → (x : ℕ) × (more : List ℕ) × (xs ≡ ys ++ (x ∷ more))
longer [] ys us vs e more = absurd (omega arith)
longer (x ∷ xs) [] us vs e more = (x, xs, refl)
longer (x ∷ xs) (y ∷ ys) us vs e more =
    let same : x ≡ y = cc in
    let others : xs ++ us ≡ ys ++ vs = cc in
    let h = longer xs ys us vs others (omega arith) in
    (h.0, h.1, ap₂ (λ a b. a ∷ b) same h.2)

asked : {A : Type 0} (g : ℕ → Reading A) (k y : ℕ) (s : List ℕ) → Needs (g y) (k + 1) s → Needs (Ask g) k (y ∷ s)
unfolding run
asked {A} g k y s n = go
  where
    go : (some : List ℕ) (x : ℕ) (more : List ℕ) → y ∷ s ≡ some ++ (x ∷ more)
        → run (Ask g) k some ≡ Halted (fault (k + length some) Truncated)
    go [] x more e = let here : k ≡ k + 0 = omega arith in ap (λ z. Halted (fault z Truncated)) here
    go (z ∷ some) x more e =
        let same : z ≡ y = cc in
        let others : s ≡ some ++ (x ∷ more) = cc in
        let here : k + 1 + length some ≡ k + length (z ∷ some) = omega arith in
        ap (λ w. run (g w) (k + 1) some) same ∙ n some x more others ∙ ap (λ w. Halted (fault w Truncated)) here

-- a reading asks for all that it takes
pub needs_taken : {A : Type 0} (p : Reading A) (k : ℕ) (octets : List ℕ) (a : A) (q : ℕ) → run p k octets ≡ Took a q []
    → Needs p k octets
unfolding run
needs_taken (Done b) k octets a q h =
    let none : octets ≡ [] = cc in λ some x more e. absurd (none_there some x more (sym none ∙ e))
needs_taken (Fail g) k octets a q h = absurd cc
needs_taken (Where g) k octets a q h = needs_taken (g k) k octets a q h
needs_taken (Ask g) k [] a q h = absurd cc
needs_taken (Ask g) k (y ∷ s) a q h = asked g k y s (needs_taken (g y) (k + 1) s a q h)

-- what the first of two readings asks for, the two ask for,
pub needs_first : {A B : Type 0} (p : Reading A) (f : A → Reading B) (k : ℕ) (octets : List ℕ) → Needs p k octets
    → Needs (p >>= f) k octets
needs_first p f k octets n = λ some x more e. halt_bind p f k some (fault (k + length some) Truncated) (n some x more e)

-- and after what it takes what the second asks for
pub needs_then : {A B : Type 0} (p : Reading A) (f : A → Reading B) (a : A) (k j : ℕ) (first second : List ℕ)
    → ((y : List ℕ) → run p k (first ++ y) ≡ Took a j y) → j ≡ k + length first → Needs (f a) j second
    → Needs (p >>= f) k (first ++ second)
needs_then p f a k j first second any place n = λ some x more e. ⊎_elim
    (λ h.
    needs_first p f k first (needs_taken p k first a j (ap (run p k) (sym (append-nil first)) ∙ any [])) some x h.0 h.1)
    (λ h.
    let long : length some ≡ length first + length h.0 = ap length h.1 ∙ length-append first h.0 in
    let here : j + length h.0 ≡ k + length some = omega (arith, place, long) in
    ap (run (p >>= f) k) h.1
    ∙ run_bind p f k (first ++ h.0) a j h.0 (any h.0)
    ∙ n h.0 x more h.2
    ∙ ap (λ w. Halted (fault w Truncated)) here)
    (cut_in_two first second some x more e)
