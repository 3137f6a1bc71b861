-- Numbers in one text: those that stand there, and one more after them.
use Rattle.std.proofs.Common.{◌≡◌, ◌∙◌, ◌+◌, ◌-◌, ◌*◌, ◌^◌, ◌++◌, ◌<◌, ◌≤◌, ◌∷◌, List, [], Option, ℕ, add-one, ap, ap₂, append-nil, arith, below_more, drop, get_or, get_or-set_other, get_or-set_same, length, length-append, map, refl, set, slice_index, slice_range, subst, suc, sym, take, zero, ⊎_elim}
use Rattle.std.proofs.Math.Seq.{get_or-append_seam}
use Rattle.std.proofs.lemmas.Bool.{cases_lt}
use Rattle.std.proofs.lemmas.List.{get_or_append_left, map-append, take-append-le}
use Rattle.std.proofs.lemmas.Slice.{between_is}
use Rattle.x690.specs.DerTexts.{der, texts_of}
use Rattle.x690.specs.ReadHeaders.{Next}
use Rattle.x690.specs.Reading.{Reading}
use Rattle.x690.specs.TypeTerms.{Fields}
use Rattle.x690.specs.Values.{Value, leaf_at}
use Rattle.ber_pull.specs.Standing.{Standing}
use Rattle.asn_fields.specs.BegunSequence.{BegunSequence}
use Rattle.asn_fields.proofs.BegunSequence.{behind_both}
use Rattle.asn_fields.proofs.PartTexts.{texts_both}
use Rattle.private_keys.specs.RsaNumbers.{first_of, integer_value, integers_due, number_in, values_in}

-- The first ones.

first_length : (at : ℕ → List ℕ) (n : ℕ) → length (first_of at n) ≡ n
first_length at zero = refl
first_length at (suc n) = omega (arith, length-append (first_of at n) (at n ∷ []), first_length at n)

first_still : (at at' : ℕ → List ℕ) (n : ℕ) → ((i : ℕ) → i < n → at' i ≡ at i) → first_of at' n ≡ first_of at n
first_still at at' zero h = refl
first_still at at' (suc n) h =
    ap₂ (λ all one. all ++ (one ∷ [])) (first_still at at' n (λ i below. h i (omega (arith, below)))) (h n (omega arith))

first_at : (at : ℕ → List ℕ) (n i : ℕ) → i < n → get_or (first_of at n) i [] ≡ at i
first_at at zero i h = absurd (omega (arith, h))
first_at at (suc n) i h =
    ⊎_elim
    (λ below.
    get_or_append_left (first_of at n) (at n ∷ []) [] i (omega (arith, below, first_length at n))
    ∙ first_at at n i below)
    (λ above.
    let last : i ≡ length (first_of at n) = omega (arith, above, h, first_length at n) in
    let here : n ≡ i = omega (arith, above, h) in
    ap (λ k. get_or (first_of at n ++ (at n ∷ [])) k []) last
    ∙ get_or-append_seam (first_of at n) (at n) [] []
    ∙ ap at here)
    (cases_lt i n)

leaf_get : (contents : List (List ℕ)) (i : ℕ) → i < length contents
    → leaf_at (i ∷ []) (map integer_value contents) ≡ get_or contents i []
unfolding leaf_at
leaf_get [] i h = absurd (omega (arith, h))
leaf_get (x ∷ contents) zero h = refl
leaf_get (x ∷ contents) (suc i) h = leaf_get contents i (omega (arith, h))

pub first_leaf : (at : ℕ → List ℕ) (n i : ℕ) → i < n → leaf_at (i ∷ []) (map integer_value (first_of at n)) ≡ at i
first_leaf at n i h = leaf_get (first_of at n) i (omega (arith, h, first_length at n)) ∙ first_at at n i h

-- One more after them.
module _ (text contents begins ends : List ℕ) (i begin end : ℕ) (text' : List ℕ)
    (room : i < length begins) (room' : i < length ends)
    (inside : (j : ℕ) → j < i → (slice_index begins j ≤ slice_index ends j) × (slice_index ends j ≤ length text))
    (put : text' ≡ text ++ der (integer_value contents)) (within : begin ≤ length text')
    (here : slice_range text' begin (length text') ≡ contents) (last : end ≡ length text') where
  abbrev begins' : List ℕ
  begins' = set begins i begin

  abbrev ends' : List ℕ
  ends' = set ends i end

  other : (j : ℕ) → j < i → j ≡ i → ⊥
  other j below same = omega (arith, same, below)

  still : (j : ℕ) → j < i → number_in text' begins' ends' j ≡ number_in text begins ends j
  still j below =
      ap₂ (slice_range text') (get_or-set_other begins i j begin 0 (other j below))
      (get_or-set_other ends i j end 0 (other j below))
      ∙ between_is text' (slice_index begins j) (slice_index ends j)
      ∙ ap (λ t. drop (slice_index begins j) (take (slice_index ends j) t)) put
      ∙ ap (drop (slice_index begins j))
      (take-append-le (slice_index ends j) text (der (integer_value contents)) (inside j below).1)
      ∙ sym (between_is text (slice_index begins j) (slice_index ends j))

  newest : number_in text' begins' ends' i ≡ contents
  newest =
      ap₂ (slice_range text') (get_or-set_same begins i begin 0 room) (get_or-set_same ends i end 0 room' ∙ last)
      ∙ here

  pub values_more : values_in text' begins' ends' (i + 1)
      ≡ values_in text begins ends i ++ (integer_value contents ∷ [])
  values_more =
      let at = number_in text begins ends in
      let at' = number_in text' begins' ends' in
      ap (λ n. map integer_value (first_of at' n)) (add-one i)
      ∙ ap₂ (λ all one. map integer_value (all ++ (one ∷ []))) (first_still at at' i still) newest
      ∙ map-append integer_value (first_of at i) (contents ∷ [])

  pub text_more : text ≡ texts_of (values_in text begins ends i) → text' ≡ texts_of (values_in text' begins' ends' (i + 1))
  text_more e =
      put
      ∙ ap₂ (λ a b. a ++ b) e (sym (append-nil (der (integer_value contents))))
      ∙ sym (texts_both (values_in text begins ends i) (integer_value contents ∷ []))
      ∙ ap texts_of (sym values_more)

  pub short_more : text ≡ texts_of (values_in text begins ends i)
      → length (texts_of (values_in text begins ends i)) ≤ i * 2 ^ 32 → length (der (integer_value contents)) < 2 ^ 32
      → length (texts_of (values_in text' begins' ends' (i + 1))) ≤ (i + 1) * 2 ^ 32
  short_more e short one =
      let longer = ap length put ∙ length-append text (der (integer_value contents)) in
      omega (arith, ap length (text_more e), longer, ap length e, short, one)

  pub inside_more : (j : ℕ) → j < i + 1
      → (slice_index begins' j ≤ slice_index ends' j) × (slice_index ends' j ≤ length text')
  inside_more =
      below_more (λ j. (slice_index begins' j ≤ slice_index ends' j) × (slice_index ends' j ≤ length text')) i
      (λ j below.
      let b = get_or-set_other begins i j begin 0 (other j below) in
      let e = get_or-set_other ends i j end 0 (other j below) in
      let longer = ap length put ∙ length-append text (der (integer_value contents)) in
      let old = inside j below in (omega (arith, b, e, old.0), omega (arith, e, old.1, longer)))
      (let b = get_or-set_same begins i begin 0 room in
      let e = get_or-set_same ends i end 0 room' in (omega (arith, b, e, last, within), omega (arith, e, last)))

  pub each_more : (P : List ℕ → Type 0) → ((j : ℕ) → j < i → P (number_in text begins ends j)) → P contents → (j : ℕ)
      → j < i + 1 → P (number_in text' begins' ends' j)
  each_more P old now =
      below_more (λ j. P (number_in text' begins' ends' j)) i (λ j below. subst P (sym (still j below)) (old j below))
      (subst P (sym newest) now)

-- What is left of a SEQUENCE.
module _ {k : ℕ} {s : Option (List ℕ)} {whole : Reading Value} {finish : List Value → Reading Value} {next : Next}
    {now : Standing} {t : Option (List ℕ)} where
  pub begun_next : (i : ℕ) (rest : Fields) (ws : List Value) → i < 8
      → BegunSequence k s whole finish (integers_due (8 - i) rest) ws next now t
      → BegunSequence k s whole finish (integers_due 1 (integers_due (8 - (i + 1)) rest)) ws next now t
  begun_next i rest ws below a =
      let more : 8 - i ≡ suc (8 - (i + 1)) = omega (arith, below) in
      subst (λ n. BegunSequence k s whole finish (integers_due n rest) ws next now t) more a

  pub begun_more : (fields : Fields) (ws vs vs' : List Value) (v : Value) → vs' ≡ vs ++ (v ∷ [])
      → BegunSequence k s whole finish fields ((ws ++ vs) ++ (v ∷ [])) next now t
      → BegunSequence k s whole finish fields (ws ++ vs') next now t
  begun_more fields ws vs vs' v e a =
      subst (λ z. BegunSequence k s whole finish fields (ws ++ z) next now t) (sym e) (behind_both ws vs (v ∷ []) a)
