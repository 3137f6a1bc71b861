-- The padded order of octet lists.
use Rattle.std.proofs.Common.{◌≡◌, ℕ, ◌⊎◌, Bool, true, false, inl, inr, ⊎_elim, List, [], ◌∷◌, ◌++◌, refl, arith}
use Rattle.std.proofs.lemmas.Bool.Decides.{nat_tests}
use Rattle.x690.specs.DerTexts.{padded_less}
use Rattle.x690_laws.specs.ValueLaws.{EqualityByOrder}

pub bool_cases : (b : Bool) → (b ≡ true) ⊎ (b ≡ false)
bool_cases true = inl refl
bool_cases false = inr refl

pub lt_nil : (x : List ℕ) → padded_less x [] ≡ false
unfolding padded_less
lt_nil [] = refl
lt_nil (a ∷ x) = refl

pub lt_irrefl : (x : List ℕ) → padded_less x x ≡ false
unfolding padded_less
lt_irrefl [] = refl
lt_irrefl (a ∷ x) = let ih = lt_irrefl x in grind (arith, nat_tests)

pub lt_trans : (x y z : List ℕ) → padded_less x y ≡ true → padded_less y z ≡ true → padded_less x z ≡ true
unfolding padded_less
lt_trans [] [] z h k = cc
lt_trans [] (b ∷ y) [] h k = cc
lt_trans [] (b ∷ y) (c ∷ z) h k = let ih = lt_trans [] y z in grind (arith, nat_tests)
lt_trans (a ∷ x) [] z h k = cc
lt_trans (a ∷ x) (b ∷ y) [] h k = cc
lt_trans (a ∷ x) (b ∷ y) (c ∷ z) h k = let ih = lt_trans x y z in grind (arith, nat_tests)

pub ge_trans : (x y z : List ℕ) → padded_less x y ≡ false → padded_less y z ≡ false → padded_less x z ≡ false
unfolding padded_less
ge_trans [] [] z h k = k
ge_trans [] (b ∷ y) [] h k = refl
ge_trans [] (b ∷ y) (c ∷ z) h k = let ih = ge_trans [] y z in grind (arith, nat_tests)
ge_trans (a ∷ x) [] [] h k = refl
ge_trans (a ∷ x) [] (c ∷ z) h k = let ih = ge_trans x [] z (lt_nil x) in grind (arith, nat_tests)
ge_trans (a ∷ x) (b ∷ y) [] h k = refl
ge_trans (a ∷ x) (b ∷ y) (c ∷ z) h k = let ih = ge_trans x y z in grind (arith, nat_tests)

pub lt_asym : (x y : List ℕ) → padded_less x y ≡ true → padded_less y x ≡ false
lt_asym x y h =
    ⊎_elim (λ k. let l = lt_trans x y x h k in let m = lt_irrefl x in cc) (λ k. k) (bool_cases (padded_less y x))

pub equality_by_order : EqualityByOrder
equality_by_order = record {
  equal_refl = λ x. (lt_irrefl x, lt_irrefl x);
  equal_sym = λ x y e. (e.1, e.0);
  equal_trans = λ x y z e f. (ge_trans x y z e.0 f.0, ge_trans z y x f.1 e.1);
}

-- lists that are equal by the padded order: one begins the other
pub ties : (x y : List ℕ) → padded_less x y ≡ false → padded_less y x ≡ false
    → ((z : List ℕ) × (y ≡ x ++ z)) ⊎ ((z : List ℕ) × (x ≡ y ++ z))
unfolding padded_less
ties [] y h k = inl (y, refl)
ties (a ∷ x) [] h k = inr (a ∷ x, refl)
ties (a ∷ x) (b ∷ y) h k =
    let e : a ≡ b = grind (arith, nat_tests) in
    let h' : padded_less x y ≡ false = grind (arith, nat_tests) in
    let k' : padded_less y x ≡ false = grind (arith, nat_tests) in
    ⊎_elim (λ f. inl (f.0, (let g = f.1 in cc))) (λ f. inr (f.0, (let g = f.1 in cc))) (ties x y h' k')
