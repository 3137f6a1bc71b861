-- Members in another order: pairings, and multisets that are the same.
use Rattle.std.proofs.Common.{◌≡◌, ◌<◌, List, [], ◌∷◌, ℕ, zero, suc, ap, get_or, inl, inr, length, refl, set, subst, sym, arith}
use Rattle.std.specs.List.{swap}
use Rattle.std.specs.List.Sorted.{IsPermutation}
use Rattle.std.proofs.lemmas.List.Sorted.{IsPermutation-keeps}
use Rattle.tlv_core.specs.Identifier.{Tag}
use Rattle.x690.specs.Lists.{Each, Paired, Picked}
use Rattle.x690.specs.Values.{Same, SetOf, Value, members, values_of}
use Rattle.x690_laws.proofs.ListsPaired.{paired_add, paired_take}
use Rattle.x690_laws.proofs.ValuesSame.{paired_bag}

abbrev Alike : {A : Type 0} → A → A → Type 0
Alike x y = x ≡ y

paired_self : {A : Type 0} (xs : List A) → Paired Alike xs xs
paired_self [] = refl
paired_self (x ∷ xs) = (x, xs, inl (refl, refl), refl, paired_self xs)

-- the list without its i-th member
abbrev without : {A : Type 0} → List A → ℕ → List A
without [] i = []
without (x ∷ xs) zero = xs
without (x ∷ xs) (suc i) = x ∷ without xs i

picked_at : {A : Type 0} (xs : List A) (i : ℕ) (x : A) → i < length xs → x ≡ get_or xs i x → Picked x xs (without xs i)
picked_at [] i x h e = absurd (omega arith)
picked_at (y ∷ xs) zero x h e = inl (e, refl)
picked_at (y ∷ xs) (suc i) x h e = inr (without xs i, refl, picked_at xs i x (omega arith) e)

picked_set : {A : Type 0} (xs : List A) (i : ℕ) (x : A) → i < length xs → Picked x (set xs i x) (without xs i)
picked_set [] i x h = absurd (omega arith)
picked_set (y ∷ xs) zero x h = inl (refl, refl)
picked_set (y ∷ xs) (suc i) x h = inr (without xs i, refl, picked_set xs i x (omega arith))

-- the first member and a later one exchanged
first_moved : {A : Type 0} (x y : A) (xs : List A) (j : ℕ) → j < length xs → y ≡ get_or xs j y
    → Paired Alike (x ∷ xs) (y ∷ set xs j x)
first_moved x y xs j h e = (
  x,
  y ∷ without xs j,
  inr (without xs j, refl, picked_set xs j x h),
  refl,
  paired_add Alike y y xs (without xs j) (y ∷ without xs j) (without xs j) (picked_at xs j y h e)
      (inl (refl, refl)) refl (paired_self (without xs j)),
)

exchanged : {A : Type 0} (xs : List A) (i j : ℕ) (x y : A) → i < length xs → j < length xs → x ≡ get_or xs i x
    → y ≡ get_or xs j y → Paired Alike xs (set (set xs i y) j x)
exchanged [] i j x y h k e f = absurd (omega arith)
exchanged (z ∷ xs) zero zero x y h k e f = subst (λ w. Paired Alike (z ∷ xs) (w ∷ xs)) (sym e) (paired_self (z ∷ xs))
exchanged (z ∷ xs) zero (suc j) x y h k e f =
    subst (λ w. Paired Alike (z ∷ xs) (y ∷ set xs j w)) (sym e) (first_moved z y xs j (omega arith) f)
exchanged (z ∷ xs) (suc i) zero x y h k e f =
    subst (λ w. Paired Alike (z ∷ xs) (x ∷ set xs i w)) (sym f) (first_moved z x xs i (omega arith) e)
exchanged (z ∷ xs) (suc i) (suc j) x y h k e f =
    (z, set (set xs i y) j x, inl (refl, refl), refl, exchanged xs i j x y (omega arith) (omega arith) e f)

nothing : {A : Type 0} (bs cs : List A) → bs ≡ [] → Paired Alike bs cs → cs ≡ []
nothing [] cs p q = q
nothing (b ∷ bs) cs p q = cc

-- what is paired with a list is paired with the list in another order
paired_on : {A B : Type 0} (R : A → B → Type 0) (as' : List A) (bs cs : List B) → Paired R as' bs → Paired Alike bs cs
    → Paired R as' cs
paired_on R [] bs cs p q = nothing bs cs p q
paired_on R (a ∷ as') bs cs p q =
    let t = paired_take Alike p.0 bs p.1 cs p.2 q in
    (t.partner, t.left, t.choose, subst (λ w. R a w) t.related p.3, paired_on R as' p.1 t.left p.4 t.paired)

paired_in_place : (vs ws : List Value) → Each Same vs ws → Paired Same vs ws
paired_in_place [] [] h = refl
paired_in_place [] (w ∷ ws) h = absurd h
paired_in_place (v ∷ vs) [] h = absurd h
paired_in_place (v ∷ vs) (w ∷ ws) h = (w, ws, inl (refl, refl), h.0, paired_in_place vs ws h.1)

get_or_in : {A : Type 0} (xs : List A) (i : ℕ) (d : A) → i < length xs → get_or xs i d ≡ get_or xs i (get_or xs i d)
get_or_in [] i d h = absurd (omega arith)
get_or_in (x ∷ xs) zero d h = refl
get_or_in (x ∷ xs) (suc i) d h = get_or_in xs i d (omega arith)

swapped : {A : Type 0} (xs : List A) (i j : ℕ) → i < length xs → j < length xs → Paired Alike xs (swap xs i j)
swapped [] i j h k = absurd (omega arith)
swapped (x ∷ xs) i j h k =
    exchanged (x ∷ xs) i j (get_or (x ∷ xs) i x) (get_or (x ∷ xs) j x) h k (get_or_in (x ∷ xs) i x h)
    (get_or_in (x ∷ xs) j x k)

-- a list is paired with its members in another order
pub permuted : {A : Type 0} (xs ys : List A) → IsPermutation xs ys → Paired Alike xs ys
permuted xs ys p =
    IsPermutation-keeps xs (λ l. Paired Alike xs l) (paired_self xs)
    (λ l i j a b q. paired_on Alike xs l (swap l i j) q (swapped l i j a b)) ys p

pub paired_permuted : (vs ws ws' : List Value) → Each Same vs ws → IsPermutation ws ws' → Paired Same vs ws'
paired_permuted vs ws ws' h p = paired_on Same vs ws ws' (paired_in_place vs ws h) (permuted ws ws' p)

members_are : (vs : List Value) → members (values_of vs) ≡ vs
members_are [] = refl
members_are (v ∷ vs) = ap (λ z. v ∷ z) (members_are vs)

-- multisets of such members are the same
pub same_sets : (own : Tag) (vs ws ws' : List Value) → Each Same vs ws → IsPermutation ws ws'
    → Same (SetOf own (values_of vs)) (SetOf own (values_of ws'))
unfolding Same
same_sets own vs ws ws' h p = (
  refl,
  paired_bag (values_of vs) (members (values_of ws'))
      (subst (λ z. Paired Same z (members (values_of ws'))) (sym (members_are vs))
      (subst (λ z. Paired Same vs z) (sym (members_are ws')) (paired_permuted vs ws ws' h p))),
)
