-- Identifiers and lengths delimit themselves.
use Rattle.std.proofs.Common.{◌≡◌, ℕ, ◌+◌, ◌*◌, ◌<◌, ◌≤◌, ◌≢◌, ◌⊎◌, inl, inr, ⊎_elim, nat_lt, Bool, true, false, cond, List, [], ◌∷◌, ◌++◌, length, refl, sym, ◌∙◌, ap, arith}
use Rattle.std.proofs.lemmas.Bool.Decides.{nat_tests}
use Rattle.tlv_core.specs.Identifier.{IsTag, Tag, base128, identifier}
use Rattle.tlv_core.specs.Length.{SpellsLength}
use Rattle.tlv_core.proofs.Base128.{base128_alone}

abbrev pub branch : Bool → List ℕ → List ℕ → List ℕ
branch b s t = elim b [ true ↦ s | false ↦ t ]

pub record IsShort (t : Tag) (f : Bool) : Type 0 where
  pub small : t.number < 31
  pub is : identifier t f ≡ (t.class * 64 + cond f 32 0 + t.number) ∷ []

pub record IsLong (t : Tag) (f : Bool) : Type 0 where
  pub large : 31 ≤ t.number
  pub is : identifier t f ≡ (t.class * 64 + cond f 32 0 + 31) ∷ base128 t.number

pub identifier_cases : (t : Tag) (f : Bool) → IsShort t f ⊎ IsLong t f
unfolding identifier
identifier_cases t f = go (nat_lt t.number 31) refl
  where
    go : (b : Bool) → nat_lt t.number 31 ≡ b → IsShort t f ⊎ IsLong t f
    go true e = inl (record { small = grind (arith, nat_tests); is = rw (e, identifier) refl })
    go false e = inr (record { large = grind (arith, nat_tests); is = rw (e, identifier) refl })

lead_alone : (c d m n : ℕ) (f g : Bool) → m ≤ 31 → n ≤ 31 → c * 64 + cond f 32 0 + m ≡ d * 64 + cond g 32 0 + n
    → (c ≡ d) × (f ≡ g) × (m ≡ n)
lead_alone c d m n true true h k e = (omega arith, refl, omega arith)
lead_alone c d m n true false h k e = absurd (omega arith)
lead_alone c d m n false true h k e = absurd (omega arith)
lead_alone c d m n false false h k e = (omega arith, refl, omega arith)

-- equal fronts, replaced
pub along : {s s' t t' : List ℕ} (x y : List ℕ) → s ≡ s' → t ≡ t' → s ++ x ≡ t ++ y → s' ++ x ≡ t' ++ y
along x y p q e = sym (ap (λ v. v ++ x) p) ∙ e ∙ ap (λ v. v ++ y) q

tag_path : (t u : Tag) → t.class ≡ u.class → t.number ≡ u.number → t ≡ u
tag_path t u p q = λ i. record { class = p i; number = q i }

pub identifier_alone : (t u : Tag) (f g : Bool) (x y : List ℕ) → identifier t f ++ x ≡ identifier u g ++ y
    → (t ≡ u) × (f ≡ g) × (x ≡ y)
identifier_alone t u f g x y e = ⊎_elim
    (λ a. ⊎_elim
    (λ b.
    let e' : ((t.class * 64 + cond f 32 0 + t.number) ∷ []) ++ x ≡ ((u.class * 64 + cond g 32 0 + u.number) ∷ []) ++ y =
    along x y a.is b.is e in
    let l = lead_alone t.class u.class t.number u.number f g (omega arith) (omega arith) cc in
    (tag_path t u l.0 l.2, l.1, cc))
    (λ b.
    let e' : ((t.class * 64 + cond f 32 0 + t.number) ∷ []) ++ x
    ≡ ((u.class * 64 + cond g 32 0 + 31) ∷ base128 u.number) ++ y = along x y a.is b.is e in
    let l = lead_alone t.class u.class t.number 31 f g (omega arith) (omega arith) cc in absurd (omega arith))
    (identifier_cases u g))
    (λ a. ⊎_elim
    (λ b.
    let e' : ((t.class * 64 + cond f 32 0 + 31) ∷ base128 t.number) ++ x
    ≡ ((u.class * 64 + cond g 32 0 + u.number) ∷ []) ++ y = along x y a.is b.is e in
    let l = lead_alone t.class u.class 31 u.number f g (omega arith) (omega arith) cc in absurd (omega arith))
    (λ b.
    let e' : ((t.class * 64 + cond f 32 0 + 31) ∷ base128 t.number) ++ x
    ≡ ((u.class * 64 + cond g 32 0 + 31) ∷ base128 u.number) ++ y = along x y a.is b.is e in
    let l = lead_alone t.class u.class 31 31 f g (omega arith) (omega arith) cc in
    let d = base128_alone t.number u.number x y cc in
    (tag_path t u l.0 d.0, l.1, d.1))
    (identifier_cases u g))
    (identifier_cases t f)

-- an identifier begins with an octet that isn't 0
pub record Starts (s : List ℕ) : Type 0 where
  pub first : ℕ
  pub rest : List ℕ
  pub is : s ≡ first ∷ rest
  pub nonzero : first ≢ 0

pub identifier_starts : (t : Tag) (f : Bool) → IsTag t → Starts (identifier t f)
identifier_starts t f h = ⊎_elim
    (λ a. record {
      first = t.class * 64 + cond f 32 0 + t.number;
      rest = [];
      is = a.is;
      nonzero = λ z. h.not_end (omega arith);
    })
    (λ a. record {
      first = t.class * 64 + cond f 32 0 + 31;
      rest = base128 t.number;
      is = a.is;
      nonzero = λ z. absurd (omega arith);
    })
    (identifier_cases t f)

pub split_alone : (s t x y : List ℕ) → length s ≡ length t → s ++ x ≡ t ++ y → (s ≡ t) × (x ≡ y)
split_alone [] [] x y h e = (refl, e)
split_alone [] (b ∷ t) x y h e = absurd (omega arith)
split_alone (a ∷ s) [] x y h e = absurd (omega arith)
split_alone (a ∷ s) (b ∷ t) x y h e =
    let rest : s ++ x ≡ t ++ y = cc in
    let both = split_alone s t x y (omega arith) rest in
    (cc, both.1)

pub len_alone : (m n : ℕ) (s t x y : List ℕ) → SpellsLength m s → SpellsLength n t → s ++ x ≡ t ++ y
    → (m ≡ n) × (s ≡ t) × (x ≡ y)
unfolding SpellsLength
len_alone m n [] t x y h k e = absurd (omega arith)
len_alone m n (a ∷ s) [] x y h k e = absurd (omega arith)
len_alone m n (a ∷ s) (b ∷ t) x y h k e =
    let q : a ≡ b = cc in
    let rest : s ++ x ≡ t ++ y = cc in
    ⊎_elim (λ h'. ⊎_elim (λ k'. (cc, cc, cc)) (λ k'. absurd (omega arith)) k)
    (λ h'.
    ⊎_elim (λ k'. absurd (omega arith)) (λ k'. let both = split_alone s t x y (omega arith) rest in (cc, cc, both.1)) k)
    h

-- the indefinite form's octet is no length
pub len_definite : (n : ℕ) (s x y : List ℕ) → SpellsLength n s → s ++ x ≡ 128 ∷ y → ⊥
unfolding SpellsLength
len_definite n [] x y h e = absurd (omega arith)
len_definite n (a ∷ s) x y h e =
    let q : a ≡ 128 = cc in ⊎_elim (λ h'. absurd (omega arith)) (λ h'. absurd (omega arith)) h
