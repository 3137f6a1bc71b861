use Rattle.std.proofs.Common.{◌≡◌, ◌∙◌, ◌<◌, ◌+◌, ◌-◌, ℕ, Bool, List, [], ap, ap₂, arith, false, get_or, length, map, refl, subst, sym}
use Rattle.std.proofs.lemmas.List.{get_or_default, length-map}
use Rattle.std.proofs.lemmas.List.Sorted.{all_adjacent_more}
use Rattle.std.specs.Cmp.Lexicographic.{slice_cmp}
use Rattle.std.specs.Ordering.{is_lt, nat_cmp}
use Rattle.x690.specs.DerTexts.{der}
use Rattle.asn_elements.proofs.MemberTexts.{starts_length}
use Rattle.asn_elements.proofs.texts.ascend.Goals as goal

-- what was found of a text and the one before it
less : (texts : List (List ℕ)) (i : ℕ) (text before : List ℕ) (answer : Bool) → 0 < i → i < length texts
    → text ≡ get_or texts i [] → before ≡ get_or texts (i - 1) [] → answer ≡ is_lt (slice_cmp nat_cmp text before)
    → (d : List ℕ) → is_lt (slice_cmp nat_cmp (get_or texts i d) (get_or texts (i - 1) d)) ≡ answer
less texts i text before answer some inside text_is before_is told d =
    ap₂ (λ x y. is_lt (slice_cmp nat_cmp x y)) (get_or_default texts i d [] inside ∙ sym text_is)
    (get_or_default texts (i - 1) d [] (omega arith) ∙ sym before_is)
    ∙ sym told

pub loop-i-preserved : goal.loop-i-preserved
loop-i-preserved c = λ values stands.
    let as_many = ap length stands.1 ∙ (starts_length 0 values ∙ sym (length-map values der)) in
    let i = c.loop-i.i in
    all_adjacent_more (map der values) (λ text next. is_lt (slice_cmp nat_cmp next text) ≡ false) i (omega arith)
    (c.loop-i.invariant values stands)
    (λ d.
    less (map der values) i c.text_at.result.now c.text_at-before.result.now c.is_lt.result (omega arith) (omega arith)
    (c.text_at.ensures values stands) (c.text_at-before.ensures values stands)
    (c.is_lt.ensures ∙ ap is_lt c.cmp.ensures) d
    ∙ c.if-is_lt.false)

pub returns : goal.returns
returns c = λ values stands.
    let as_many = ap length stands.1 ∙ (starts_length 0 values ∙ sym (length-map values der)) in
    (λ is_true k d low high. c.loop-i.invariant values stands k d (omega arith), λ sorted. refl)

pub returns-then-is_lt : goal.returns-then-is_lt
returns-then-is_lt c = λ values stands.
    let texts = map der values in
    let as_many = ap length stands.1 ∙ (starts_length 0 values ∙ sym (length-map values der)) in
    let i = c.loop-i.i in
    let at : i - 1 + 1 ≡ i = omega arith in
    let found = less texts i c.text_at.result.now c.text_at-before.result.now c.is_lt.result (omega arith) (omega arith)
    (c.text_at.ensures values stands) (c.text_at-before.ensures values stands)
    (c.is_lt.ensures ∙ ap is_lt c.cmp.ensures) []
    ∙ c.if-is_lt.true in (
      λ is_true. cc,
      λ sorted.
          sym (subst (λ k. is_lt (slice_cmp nat_cmp (get_or texts k []) (get_or texts (i - 1) [])) ≡ false) at
          (sorted (i - 1) [] (omega arith) (omega arith)))
          ∙ found,
    )
