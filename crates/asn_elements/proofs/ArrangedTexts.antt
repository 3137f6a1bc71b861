-- Texts of values sorted by the plain order of octets: they are arranged as in SET OF.
use Rattle.std.proofs.Common.{◌≡◌, ◌∙◌, ◌+◌, ap, ap₂, arith, false, get_or, map, refl, subst, suc, sym, true, List, [], ◌∷◌, ℕ}
use Rattle.std.proofs.lemmas.Bool.Decides.{nat_tests}
use Rattle.std.proofs.lemmas.Cmp.{same_from_slice_cmp}
use Rattle.std.proofs.lemmas.List.{map-id}
use Rattle.std.proofs.lemmas.List.Elements.{All-from_recursion, recursion_from_All}
use Rattle.std.proofs.lemmas.List.Sorted.{All-permutation, IsPermutation-sym}
use Rattle.std.specs.Cmp.Lexicographic.{slice_cmp}
use Rattle.std.specs.List.{AllByRecursion}
use Rattle.std.specs.List.Sorted.{IsPermutation, IsSorted}
use Rattle.std.specs.Ordering.{is_lt, nat_cmp, on}
use Rattle.x690.specs.DerTexts.{Ascends, arrange, der, padded_less}
use Rattle.x690.specs.Values.{Value, values_of}
use Rattle.x690_laws.specs.ValueLaws.{plain_less}
use Rattle.x690_laws.proofs.TextsAsLayouts.{arrangement}
use Rattle.x690_laws.proofs.LengthsOfTexts.{ders_values}
use Rattle.asn_elements.specs.Members.{ascends}
use Rattle.asn_elements.proofs.Ascending.{ascends_by}
use Rattle.asn_elements.proofs.PairedMembers.{permuted}

-- it is the text of a value
abbrev pub IsText : List ℕ → Type 0
IsText text = (v : Value) × (text ≡ der v)

-- the order of octet slices
plain_is : (xs ys : List ℕ) → is_lt (slice_cmp nat_cmp xs ys) ≡ plain_less xs ys
plain_is xs ys =
    same_from_slice_cmp nat_cmp is_lt plain_less refl (λ _ _. refl) (λ _ _. refl)
    (λ x y xs ys o h. grind (arith, nat_tests)) xs ys (slice_cmp nat_cmp xs ys) refl

pub not_less : (xs ys : List ℕ) → IsText xs → IsText ys → is_lt (slice_cmp nat_cmp xs ys) ≡ false
    → padded_less xs ys ≡ false
not_less xs ys x y h =
    let p = arrangement.plain_order x.0 y.0 in
    let q = plain_is xs ys in
    let a = x.1 in
    let b = y.1 in
    cc

texts_ascend : {A : Type 0} (g : A → List ℕ) (xs : List A) → AllByRecursion IsText (map g xs)
    → IsSorted (on g (slice_cmp nat_cmp)) xs → Ascends (map g xs)
texts_ascend g [] t h = tt
texts_ascend g (x ∷ []) t h = tt
texts_ascend g (x ∷ y ∷ ys) t h = (
  not_less (g y) (g x) t.1.0 t.0 (h 0 x (omega arith) (omega arith)),
  texts_ascend g (y ∷ ys) t.1 (λ k d p q.
      subst (λ n. is_lt (slice_cmp nat_cmp (g (get_or (x ∷ y ∷ ys) n d)) (g (get_or (x ∷ y ∷ ys) (suc k) d))) ≡ false)
      (let e : suc k + 1 ≡ suc (k + 1) = omega arith in e) (h (suc k) d (omega arith) (omega arith))),
)

texts_each : {A : Type 0} (g : A → List ℕ) (f : A → Value) → ((x : A) → g x ≡ der (f x)) → (xs : List A)
    → AllByRecursion IsText (map g xs)
texts_each g f e [] = tt
texts_each g f e (x ∷ xs) = ((f x, e x), texts_each g f e xs)

same_map : {A B : Type 0} (g h : A → B) → ((x : A) → g x ≡ h x) → (xs : List A) → map g xs ≡ map h xs
same_map g h e [] = refl
same_map g h e (x ∷ xs) = ap₂ (λ a b. a ∷ b) (e x) (same_map g h e xs)

-- members that are sorted by their texts ascend
pub sorted_ascend : {A : Type 0} (g : A → List ℕ) (f : A → Value) → ((x : A) → g x ≡ der (f x)) → (xs : List A)
    → IsSorted (on g (slice_cmp nat_cmp)) xs → ascends (map (λ x. der (f x)) xs) ≡ true
sorted_ascend g f e xs h =
    ap ascends (sym (same_map g (λ x. der (f x)) e xs))
    ∙ ascends_by (map g xs) (texts_ascend g xs (texts_each g f e xs) h)

-- and so do texts that are sorted
pub sorted_texts_ascend : (vs : List Value) → IsSorted (slice_cmp nat_cmp) (map der vs) → ascends (map der vs) ≡ true
sorted_texts_ascend vs h =
    let texts = map der vs in
    let each = texts_each der (λ v. v) (λ v. refl) vs in
    subst (λ z. ascends z ≡ true) (map-id texts)
    (ascends_by (map (λ t. t) texts)
    (texts_ascend (λ t. t) texts (subst (AllByRecursion IsText) (sym (map-id texts)) each) h))

-- sorted, they are in the order of SET OF
pub sorted_arranged : {A : Type 0} (g : A → List ℕ) (vs : List Value) (xs : List A)
    → IsPermutation (map der vs) (map g xs) → IsSorted (on g (slice_cmp nat_cmp)) xs → map g xs ≡ arrange (map der vs)
sorted_arranged g vs xs p h =
    let all = recursion_from_All IsText (map g xs)
    (All-permutation IsText (map der vs) (map g xs) p
    (All-from_recursion IsText (map der vs) (texts_each der (λ v. v) (λ v. refl) vs))) in
    let pairs = permuted (map g xs) (map der vs) (IsPermutation-sym (map der vs) (map g xs) p) in
    arrangement.one_arrangement (values_of vs) (map g xs) (texts_ascend g xs all h) (rw (ders_values vs) pairs)
    ∙ ap arrange (ders_values vs)
