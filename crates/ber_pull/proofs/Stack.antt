-- The open containers, in an array with the innermost last, as a list with the innermost first.
use Rattle.std.proofs.Common.{◌≡◌, ℕ, zero, suc, ◌+◌, ◌-◌, ◌<◌, ◌≤◌, List, [], ◌∷◌, length, take, set, get_or, reverse, refl, sym, ap, ◌∙◌, arith, Option, Some}
use Rattle.ber_pull.specs.Standing.{first_of, with_ended}
use Rattle.ber_pull.specs.declared.state.Container.{Container}
use Rattle.ber_pull.specs.declared.state.Container.TheVariants.{Definite, Indefinite, Ended}
use Rattle.std.proofs.Math.Seq.{take-length}
use Rattle.std.proofs.lemmas.List.{length-take, length-reverse, reverse-append, take_more, take_more_set}

pub depth_is : {A : Type 0} (n : ℕ) (xs : List A) → n ≤ length xs → length (reverse (take n xs)) ≡ n
depth_is n xs h =
    let e : length (reverse (take n xs)) ≡ length (take n xs) = length-reverse (take n xs) in
    omega (arith, length-take n xs)

-- one more of them
pub reverse_more : {A : Type 0} (n : ℕ) (xs : List A) (d : A) → n < length xs
    → reverse (take (n + 1) xs) ≡ get_or xs n d ∷ reverse (take n xs)
reverse_more n xs d h = ap reverse (take_more xs n d h) ∙ reverse-append (take n xs) (get_or xs n d ∷ [])

-- one more of them, which is put there
pub reverse_more_set : {A : Type 0} (n : ℕ) (xs : List A) (y : A) → n < length xs
    → reverse (take (n + 1) (set xs n y)) ≡ y ∷ reverse (take n xs)
reverse_more_set n xs y h = ap reverse (take_more_set xs n y h) ∙ reverse-append (take n xs) (y ∷ [])

-- the innermost, and those around it
pub reverse_last : {A : Type 0} (n : ℕ) (xs : List A) (d : A) → 0 < n → n ≤ length xs
    → reverse (take n xs) ≡ get_or xs (n - 1) d ∷ reverse (take (n - 1) xs)
reverse_last n xs d p h =
    let e : n ≡ n - 1 + 1 = omega arith in
    ap (λ k. reverse (take k xs)) e ∙ reverse_more (n - 1) xs d (omega arith)

-- the last of a whole list is the first of it in reverse
pub first_is_last : (xs : List Container) (d : Container) → 0 < length xs
    → first_of (reverse xs) ≡ Some (get_or xs (length xs - 1) d)
first_is_last xs d h =
    ap (λ w. first_of (reverse w)) (sym (take-length xs))
    ∙ ap first_of (reverse_last (length xs) xs d h (omega arith))

some_depth : (n : ℕ) (xs : List Container) (x : Container) → first_of (reverse (take n xs)) ≡ Some x → 0 < n
some_depth zero xs x h = cc
some_depth (suc n) xs x h = omega arith

-- the innermost is put back as ended
pub end_is : (n : ℕ) (xs : List Container) (around : Option ℕ)
    → first_of (reverse (take n xs)) ≡ Some (Indefinite around) → n ≤ length xs
    → reverse (take n (set xs (n - 1) (Ended around)))
    ≡ with_ended (first_of (reverse (take n xs))) (reverse (take n xs))
end_is n xs around first h =
    let some : 0 < n = some_depth n xs (Indefinite around) first in
    let e : n ≡ n - 1 + 1 = omega arith in
    let put : reverse (take n (set xs (n - 1) (Ended around))) ≡ Ended around ∷ reverse (take (n - 1) xs) = ap
    (λ k. reverse (take k (set xs (n - 1) (Ended around)))) e
    ∙ reverse_more_set (n - 1) xs (Ended around) (omega arith) in
    let last = reverse_last n xs (Definite 0) some h in
    rw (first, put, last) refl
