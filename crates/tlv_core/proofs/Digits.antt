-- Numbers as digits in base 128 and 256.
use Rattle.std.proofs.Common.{◌≡◌, ℕ, zero, suc, ◌+◌, ◌/◌, ◌%◌, ◌^◌, ◌<◌, ◌≤◌, ◌≢◌, ◌==◌, Bool, true, false, List, [], ◌∷◌, ◌++◌, length, refl, sym, ◌∙◌, ap, arith, pow-suc}
use Rattle.std.proofs.lemmas.Bool.Decides.{nat_tests}
use Rattle.std.proofs.lemmas.List.{length-append}
use Rattle.tlv_core.specs.Identifier.{leading_base128}
use Rattle.tlv_core.specs.Length.{number_octets}

abbrev choose : Bool → List ℕ → List ℕ → List ℕ
choose b s t = elim b [ true ↦ s | false ↦ t ]

-- the base-128 digits but the last

pub leading_none : (k n : ℕ) → n ≡ 0 → leading_base128 k n ≡ []
unfolding leading_base128
leading_none zero n h = refl
leading_none (suc k) n h = go (n == 0) (grind (arith, nat_tests))
  where
    go : (b : Bool) → b ≡ true → choose b [] (leading_base128 k (n / 128) ++ ((128 + n % 128) ∷ [])) ≡ []
    go true e = refl
    go false e = cc

pub leading_more : (k n : ℕ) → n ≢ 0 → leading_base128 (suc k) n ≡ leading_base128 k (n / 128) ++ ((128 + n % 128) ∷ [])
unfolding leading_base128
leading_more k n h = go (n == 0) (grind (arith, nat_tests))
  where
    go : (b : Bool) → b ≡ false
        → choose b [] (leading_base128 k (n / 128) ++ ((128 + n % 128) ∷ []))
        ≡ leading_base128 k (n / 128) ++ ((128 + n % 128) ∷ [])
    go true e = cc
    go false e = refl

-- as many steps as are enough give the same
pub leading_steps : (k j n : ℕ) → n ≤ k → n ≤ j → leading_base128 k n ≡ leading_base128 j n
leading_steps zero j n h g = let z : n ≡ 0 = omega arith in leading_none zero n z ∙ sym (leading_none j n z)
leading_steps (suc k) zero n h g = let z : n ≡ 0 = omega arith in leading_none (suc k) n z ∙ sym (leading_none zero n z)
leading_steps (suc k) (suc j) n h g = go (n == 0) refl (leading_steps k j (n / 128) (omega arith) (omega arith))
  where
    go : (b : Bool) → (n == 0) ≡ b → leading_base128 k (n / 128) ≡ leading_base128 j (n / 128)
        → leading_base128 (suc k) n ≡ leading_base128 (suc j) n
    go true e ih = let z : n ≡ 0 = grind (arith, nat_tests) in leading_none (suc k) n z ∙ sym (leading_none (suc j) n z)
    go false e ih =
        let z : n ≢ 0 = grind (arith, nat_tests) in
        leading_more k n z ∙ ap (λ s. s ++ ((128 + n % 128) ∷ [])) ih ∙ sym (leading_more j n z)

-- the last digit apart
pub leading_last : (n : ℕ) → 0 < n → leading_base128 n n ≡ leading_base128 (n / 128) (n / 128) ++ ((128 + n % 128) ∷ [])
leading_last zero h = absurd (omega arith)
leading_last (suc k) h =
    let n = suc k in
    leading_more k n (omega arith)
    ∙ ap (λ s. s ++ ((128 + n % 128) ∷ [])) (leading_steps k (n / 128) (n / 128) (omega arith) (omega arith))

no_leading : (n : ℕ) → leading_base128 zero n ≡ []
unfolding leading_base128
no_leading n = refl

-- a number below a power of the base has no more digits
pub leading_length : (j k n : ℕ) → n < 128 ^ j → length (leading_base128 k n) ≤ j
leading_length j zero n h = let z : length (leading_base128 zero n) ≡ 0 = ap length (no_leading n) in omega arith
leading_length zero (suc k) n h =
    let z : length (leading_base128 (suc k) n) ≡ 0 = ap length (leading_none (suc k) n (omega arith)) in omega arith
leading_length (suc j) (suc k) n h = go (n == 0) refl (leading_length j k (n / 128) (omega (arith, pow-suc 128 j)))
  where
    go : (b : Bool) → (n == 0) ≡ b → length (leading_base128 k (n / 128)) ≤ j
        → length (leading_base128 (suc k) n) ≤ suc j
    go true e ih =
        let z : length (leading_base128 (suc k) n) ≡ 0 =
        ap length (leading_none (suc k) n (grind (arith, nat_tests))) in
        omega arith
    go false e ih =
        let y : length (leading_base128 (suc k) n) ≡ length (leading_base128 k (n / 128) ++ ((128 + n % 128) ∷ [])) =
        ap length (leading_more k n (grind (arith, nat_tests))) in
        omega (arith, length-append (leading_base128 k (n / 128)) ((128 + n % 128) ∷ []))

-- big-endian octets

pub number_none : (k n : ℕ) → n ≡ 0 → number_octets k n ≡ []
unfolding number_octets
number_none zero n h = refl
number_none (suc k) n h = go (n == 0) (grind (arith, nat_tests))
  where
    go : (b : Bool) → b ≡ true → choose b [] (number_octets k (n / 256) ++ ((n % 256) ∷ [])) ≡ []
    go true e = refl
    go false e = cc

pub number_more : (k n : ℕ) → n ≢ 0 → number_octets (suc k) n ≡ number_octets k (n / 256) ++ ((n % 256) ∷ [])
unfolding number_octets
number_more k n h = go (n == 0) (grind (arith, nat_tests))
  where
    go : (b : Bool) → b ≡ false
        → choose b [] (number_octets k (n / 256) ++ ((n % 256) ∷ [])) ≡ number_octets k (n / 256) ++ ((n % 256) ∷ [])
    go true e = cc
    go false e = refl

-- as many steps as are enough give the same
pub number_steps : (k j n : ℕ) → n ≤ k → n ≤ j → number_octets k n ≡ number_octets j n
number_steps zero j n h g = let z : n ≡ 0 = omega arith in number_none zero n z ∙ sym (number_none j n z)
number_steps (suc k) zero n h g = let z : n ≡ 0 = omega arith in number_none (suc k) n z ∙ sym (number_none zero n z)
number_steps (suc k) (suc j) n h g = go (n == 0) refl (number_steps k j (n / 256) (omega arith) (omega arith))
  where
    go : (b : Bool) → (n == 0) ≡ b → number_octets k (n / 256) ≡ number_octets j (n / 256)
        → number_octets (suc k) n ≡ number_octets (suc j) n
    go true e ih = let z : n ≡ 0 = grind (arith, nat_tests) in number_none (suc k) n z ∙ sym (number_none (suc j) n z)
    go false e ih =
        let z : n ≢ 0 = grind (arith, nat_tests) in
        number_more k n z ∙ ap (λ s. s ++ ((n % 256) ∷ [])) ih ∙ sym (number_more j n z)

-- the last digit apart
pub number_last : (n : ℕ) → 0 < n → number_octets n n ≡ number_octets (n / 256) (n / 256) ++ ((n % 256) ∷ [])
number_last zero h = absurd (omega arith)
number_last (suc k) h =
    let n = suc k in
    number_more k n (omega arith)
    ∙ ap (λ s. s ++ ((n % 256) ∷ [])) (number_steps k (n / 256) (n / 256) (omega arith) (omega arith))

no_number : (n : ℕ) → number_octets zero n ≡ []
unfolding number_octets
no_number n = refl

-- a number below a power of the base has no more digits
pub number_length : (j k n : ℕ) → n < 256 ^ j → length (number_octets k n) ≤ j
number_length j zero n h = let z : length (number_octets zero n) ≡ 0 = ap length (no_number n) in omega arith
number_length zero (suc k) n h =
    let z : length (number_octets (suc k) n) ≡ 0 = ap length (number_none (suc k) n (omega arith)) in omega arith
number_length (suc j) (suc k) n h = go (n == 0) refl (number_length j k (n / 256) (omega (arith, pow-suc 256 j)))
  where
    go : (b : Bool) → (n == 0) ≡ b → length (number_octets k (n / 256)) ≤ j → length (number_octets (suc k) n) ≤ suc j
    go true e ih =
        let z : length (number_octets (suc k) n) ≡ 0 = ap length (number_none (suc k) n (grind (arith, nat_tests))) in
        omega arith
    go false e ih =
        let y : length (number_octets (suc k) n) ≡ length (number_octets k (n / 256) ++ ((n % 256) ∷ [])) =
        ap length (number_more k n (grind (arith, nat_tests))) in
        omega (arith, length-append (number_octets k (n / 256)) ((n % 256) ∷ []))
