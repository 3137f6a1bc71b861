-- Base-128 digits end where their number ends.
use Rattle.std.proofs.Common.{◌≡◌, ◌≢◌, ℕ, zero, suc, ◌+◌, ◌*◌, ◌/◌, ◌%◌, ◌<◌, ◌≤◌, ◌==◌, Bool, true, false, List, [], ◌∷◌, ◌++◌, refl, sym, ◌∙◌, ap, ap₂, subst, append_assoc, arith}
use Rattle.std.proofs.lemmas.Bool.Decides.{nat_tests}
use Rattle.tlv_core.specs.Identifier.{leading_base128, base128}
use Rattle.tlv_core.proofs.Digits.{leading_none, leading_more, leading_steps, leading_last}

-- octets with bit 8 set on all but the last
abbrev pub IsRun : List ℕ → Type 0
IsRun [] = ⊥
IsRun (x ∷ []) = x < 128
IsRun (x ∷ y ∷ octets) = (128 ≤ x) × (x < 256) × IsRun (y ∷ octets)

-- the number whose digits these are, `high` standing before them
abbrev pub run_value : ℕ → List ℕ → ℕ
run_value high [] = high
run_value high (x ∷ octets) = run_value (high * 128 + x % 128) octets

pub run_alone : (s t x y : List ℕ) → IsRun s → IsRun t → s ++ x ≡ t ++ y → (s ≡ t) × (x ≡ y)
run_alone [] t x y h k e = absurd h
run_alone (a ∷ s) [] x y h k e = absurd k
run_alone (a ∷ []) (b ∷ []) x y h k e = (cc, cc)
run_alone (a ∷ []) (b ∷ b' ∷ t) x y h k e = let q : a ≡ b = cc in absurd (omega (arith, h, k.0))
run_alone (a ∷ a' ∷ s) (b ∷ []) x y h k e = let q : a ≡ b = cc in absurd (omega (arith, k, h.0))
run_alone (a ∷ a' ∷ s) (b ∷ b' ∷ t) x y h k e =
    let q : a ≡ b = cc in
    let rest : (a' ∷ s) ++ x ≡ (b' ∷ t) ++ y = cc in
    let both = run_alone (a' ∷ s) (b' ∷ t) x y h.2 k.2 rest in
    (cc, both.1)

run_longer : (x : ℕ) (s : List ℕ) → 128 ≤ x → x < 256 → IsRun s → IsRun (x ∷ s)
run_longer x [] l m h = absurd h
run_longer x (y ∷ s) l m h = (l, m, h)

-- a run that begins with the octets before the last of another one goes on after them with a run
pub run_beyond : (h s d r : List ℕ) → IsRun (h ++ 0 ∷ []) → IsRun d → h ++ s ≡ d ++ r
    → (e : List ℕ) × (d ≡ h ++ e) × IsRun e × (s ≡ e ++ r)
run_beyond [] s d r g k q = (d, refl, k, q)
run_beyond (a ∷ h) s [] r g k q = absurd k
run_beyond (a ∷ []) s (b ∷ []) r g k q = let z : a ≡ b = cc in absurd (omega (arith, g.0, k))
run_beyond (a ∷ a' ∷ h) s (b ∷ []) r g k q = let z : a ≡ b = cc in absurd (omega (arith, g.0, k))
run_beyond (a ∷ []) s (b ∷ b' ∷ d) r g k q = let z : a ≡ b = cc in (b' ∷ d, cc, k.2, cc)
run_beyond (a ∷ a' ∷ h) s (b ∷ b' ∷ d) r g k q =
    let z : a ≡ b = cc in
    let rest : (a' ∷ h) ++ s ≡ (b' ∷ d) ++ r = cc in
    let i = run_beyond (a' ∷ h) s (b' ∷ d) r g.2 k.2 rest in
    let longer : b' ∷ d ≡ (a' ∷ h) ++ i.0 = i.1 in
    (i.0, cc, i.2, i.3)

-- after a number there is at least one digit more
pub run_value_more : (high : ℕ) (s : List ℕ) → IsRun s → high * 128 ≤ run_value high s
run_value_more high [] h = absurd h
run_value_more high (x ∷ []) h = omega arith
run_value_more high (x ∷ y ∷ s) h = let i = run_value_more (high * 128 + x % 128) (y ∷ s) h.2 in omega (arith, i)

-- the leading digits, and a run after them
leading_run : (k n : ℕ) (s : List ℕ) → IsRun s → IsRun (leading_base128 k n ++ s)
unfolding leading_base128
leading_run zero n s h = h
leading_run (suc k) n s h =
    go (n == 0) refl
    (leading_run k (n / 128) ((128 + n % 128) ∷ s) (run_longer (128 + n % 128) s (omega arith) (omega arith) h))
  where
    go : (b : Bool) → (n == 0) ≡ b → IsRun (leading_base128 k (n / 128) ++ ((128 + n % 128) ∷ s))
        → IsRun (leading_base128 (suc k) n ++ s)
    go true e i = subst (λ l. IsRun (l ++ s)) (sym (leading_none (suc k) n (grind (arith, nat_tests)))) h
    go false e i = subst (λ l. IsRun (l ++ s)) (sym (leading_more k n (grind (arith, nat_tests)))) (rw append_assoc i)

pub leading_value : (k n : ℕ) (s : List ℕ) → n ≤ k → run_value 0 (leading_base128 k n ++ s) ≡ run_value n s
unfolding leading_base128
leading_value zero n s h = let e : n ≡ 0 = omega arith in ap (λ m. run_value m s) (sym e)
leading_value (suc k) n s h = go (n == 0) refl (leading_value k (n / 128) ((128 + n % 128) ∷ s) (omega arith))
  where
    go : (b : Bool) → (n == 0) ≡ b
        → run_value 0 (leading_base128 k (n / 128) ++ ((128 + n % 128) ∷ s)) ≡ run_value (n / 128) ((128 + n % 128) ∷ s)
        → run_value 0 (leading_base128 (suc k) n ++ s) ≡ run_value n s
    go true e i =
        let z : n ≡ 0 = grind (arith, nat_tests) in
        ap (λ l. run_value 0 (l ++ s)) (leading_none (suc k) n z) ∙ ap (λ m. run_value m s) (sym z)
    go false e i =
        let q : n / 128 * 128 + (128 + n % 128) % 128 ≡ n = omega arith in
        ap (λ l. run_value 0 (l ++ s)) (leading_more k n (grind (arith, nat_tests)))
        ∙ ap (λ l. run_value 0 l) (append_assoc (leading_base128 k (n / 128)) ((128 + n % 128) ∷ []) s)
        ∙ i
        ∙ ap (λ m. run_value m s) q

-- the last digit apart
pub base128_last : (n : ℕ) → base128 n ≡ leading_base128 (n / 128) (n / 128) ++ ((n % 128) ∷ [])
unfolding base128
base128_last n = ap (λ s. s ++ ((n % 128) ∷ [])) (leading_steps n (n / 128) (n / 128) (omega arith) (omega arith))

pub leading_open : (n : ℕ) → IsRun (leading_base128 n n ++ 0 ∷ [])
leading_open n = let z : 0 < 128 = omega arith in leading_run n n (0 ∷ []) z

pub base128_run : (n : ℕ) → IsRun (base128 n)
base128_run n =
    let last : n % 128 < 128 = omega arith in
    subst IsRun (sym (base128_last n)) (leading_run (n / 128) (n / 128) ((n % 128) ∷ []) last)

pub base128_value : (n : ℕ) → run_value 0 (base128 n) ≡ n
base128_value n =
    ap (λ s. run_value 0 s) (base128_last n) ∙ leading_value (n / 128) (n / 128) ((n % 128) ∷ []) (omega arith)
    ∙ (let q : n / 128 * 128 + n % 128 % 128 ≡ n = omega arith in q)

-- No number's digits begin another's.
pub base128_alone : (m n : ℕ) (x y : List ℕ) → base128 m ++ x ≡ base128 n ++ y → (m ≡ n) × (x ≡ y)
base128_alone m n x y e =
    let both = run_alone (base128 m) (base128 n) x y (base128_run m) (base128_run n) e in
    (sym (base128_value m) ∙ ap (λ s. run_value 0 s) both.0 ∙ base128_value n, both.1)

-- one digit more, which others follow
pub leading_next : (n x : ℕ) → 128 ≤ x → x < 256 → 0 < n * 128 + x % 128
    → leading_base128 (n * 128 + x % 128) (n * 128 + x % 128) ≡ leading_base128 n n ++ (x ∷ [])
leading_next n x h g z =
    let m = n * 128 + x % 128 in
    let d : m / 128 ≡ n = omega arith in
    let d' : 128 + m % 128 ≡ x = omega arith in
    leading_last m z ∙ ap₂ (λ (a : ℕ) (b : ℕ). leading_base128 a a ++ (b ∷ [])) d d'

-- the last digit
pub base128_next : (n x : ℕ) → x < 128 → base128 (n * 128 + x % 128) ≡ leading_base128 n n ++ (x ∷ [])
base128_next n x h =
    let m = n * 128 + x % 128 in
    let d : m / 128 ≡ n = omega arith in
    let d' : m % 128 ≡ x = omega arith in
    base128_last m ∙ ap₂ (λ (a : ℕ) (b : ℕ). leading_base128 a a ++ (b ∷ [])) d d'

abbrev head : List ℕ → ℕ
head [] = 0
head (x ∷ s) = x

leading_first : (k n : ℕ) (s : List ℕ) → n ≤ k → 0 < n → head (leading_base128 k n ++ s) ≢ 128
leading_first zero n s h g z = omega arith
leading_first (suc k) n s h g z = go (n / 128 == 0) refl (leading_first k (n / 128) ((128 + n % 128) ∷ s) (omega arith))
  where
    is : head (leading_base128 k (n / 128) ++ ((128 + n % 128) ∷ s)) ≡ 128
    is =
        sym (ap head (append_assoc (leading_base128 k (n / 128)) ((128 + n % 128) ∷ []) s))
        ∙ sym (ap (λ w. head (w ++ s)) (leading_more k n (omega arith)))
        ∙ z

    go : (b : Bool) → (n / 128 == 0) ≡ b
        → (0 < n / 128 → head (leading_base128 k (n / 128) ++ ((128 + n % 128) ∷ s)) ≢ 128) → ⊥
    go true e i =
        let e0 : n / 128 ≡ 0 = grind (arith, nat_tests) in
        let y : 128 + n % 128 ≡ 128 =
        sym (ap (λ w. head (w ++ ((128 + n % 128) ∷ s))) (leading_none k (n / 128) e0)) ∙ is in
        omega arith
    go false e i = let e0 : n / 128 ≢ 0 = grind (arith, nat_tests) in i (omega arith) is

-- the first digit isn't a needless 0
pub base128_first : (n : ℕ) (s t : List ℕ) → base128 n ++ s ≢ 128 ∷ t
base128_first n s t z = go (n / 128 == 0) refl
  where
    is : head (leading_base128 (n / 128) (n / 128) ++ ((n % 128) ∷ s)) ≡ 128
    is =
        sym (ap head (append_assoc (leading_base128 (n / 128) (n / 128)) ((n % 128) ∷ []) s))
        ∙ sym (ap (λ w. head (w ++ s)) (base128_last n))
        ∙ ap head z

    go : (b : Bool) → (n / 128 == 0) ≡ b → ⊥
    go true e =
        let y : n % 128 ≡ 128 = sym
        (ap (λ w. head (w ++ ((n % 128) ∷ s))) (leading_none (n / 128) (n / 128) (grind (arith, nat_tests))))
        ∙ is in
        omega arith
    go false e =
        let e0 : n / 128 ≢ 0 = grind (arith, nat_tests) in
        leading_first (n / 128) (n / 128) ((n % 128) ∷ s) (omega arith) (omega arith) is
