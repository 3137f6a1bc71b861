-- Values made in one way that have one DER text are the same.
use Rattle.std.proofs.Common.{◌≡◌, ◌∙◌, ◌++◌, Bool, false, true, List, [], ◌∷◌, ℕ, ap, ap₂, length, map, refl, sym, arith, ◌≤◌}
use Rattle.std.proofs.lemmas.List.{length-append}
use Rattle.tlv_core.specs.Identifier.{Tag}
use Rattle.x690.specs.DerTexts.{Ascends, arrange, der, der_element, der_texts}
use Rattle.x690.specs.Lists.{Each, join}
use Rattle.x690.specs.Values.{Leaf, Same, Sequence, SetOf, Value, values_of}
use Rattle.x690_laws.proofs.LengthsOfHeaders.{element_length, identifier_some}
use Rattle.x690_laws.proofs.LengthsOfTexts.{ders_values}
use Rattle.x690_laws.proofs.ValuesOfTrees.{same_sequence, same_set}
use Rattle.x690_laws.proofs.ReadingSound.{each_paired, items_values}
use Rattle.x690_laws.proofs.TextsAsLayouts.{IsText, SameElement, Texts, arrange_ascends, der_text, element_alone}

-- elements with one text have the same tag, form and contents
element_one : (t u : Tag) (f g : Bool) (c d : List ℕ) → der_element t f c ≡ der_element u g d
    → SameElement t u f g c d [] []
element_one t u f g c d e = element_alone t u f g c d [] [] (ap (λ z. z ++ []) e)

pub each_sequence : (t : Tag) (vs ws : List Value) → Each Same vs ws
    → Same (Sequence t (values_of vs)) (Sequence t (values_of ws))
each_sequence t vs ws h = same_sequence t (values_of vs) (values_of ws) (rw (items_values vs, items_values ws) h)

each_set : (t : Tag) (vs ws : List Value) → Each Same vs ws → Same (SetOf t (values_of vs)) (SetOf t (values_of ws))
each_set t vs ws h =
    same_set t (values_of vs) (values_of ws) (rw (items_values vs, items_values ws) (each_paired Same vs ws h))

pub one_contents : (t u : Tag) (a b : List ℕ) → der (Leaf t a) ≡ der (Leaf u b) → a ≡ b
unfolding der
one_contents t u a b e = (element_one t u false false a b e).contents

pub leaf_one_text : (t u : Tag) (a b : List ℕ) → der (Leaf t a) ≡ der (Leaf u b) → Same (Leaf t a) (Leaf u b)
unfolding der Same
leaf_one_text t u a b e = let one = element_one t u false false a b e in (one.tags, one.contents)

-- texts one after another are told apart

text_some : (x : List ℕ) → IsText x → 1 ≤ length x
text_some x h = omega (arith, ap length h.is, element_length h.tag h.form h.contents, identifier_some h.tag h.form)

texts_alone : (xs ys : List (List ℕ)) → Texts xs → Texts ys → join xs ≡ join ys → xs ≡ ys
texts_alone [] [] h k e = refl
texts_alone [] (y ∷ ys) h k e = absurd (omega (arith, text_some y k.0, ap length e, length-append y (join ys)))
texts_alone (x ∷ xs) [] h k e = absurd (omega (arith, text_some x h.0, ap length e, length-append x (join xs)))
texts_alone (x ∷ xs) (y ∷ ys) h k e =
    let p = h.0 in
    let q = k.0 in
    let e' : der_element p.tag p.form p.contents ++ join xs ≡ der_element q.tag q.form q.contents ++ join ys =
    ap (λ z. z ++ join xs) (sym p.is) ∙ e ∙ ap (λ z. z ++ join ys) q.is in
    let a = element_alone p.tag q.tag p.form q.form p.contents q.contents (join xs) (join ys) e' in
    let first : x ≡ y = p.is
    ∙ (ap (λ t. der_element t p.form p.contents) a.tags
    ∙ (ap (λ f. der_element q.tag f p.contents) a.forms
    ∙ (ap (λ c. der_element q.tag q.form c) a.contents ∙ sym q.is))) in
    ap₂ (λ z zs. z ∷ zs) first (texts_alone xs ys h.1 k.1 a.rests)

texts_each : (vs : List Value) → Texts (map der vs)
texts_each [] = tt
texts_each (v ∷ vs) = (der_text v, texts_each vs)

-- members of containers

pub sequence_texts : (t : Tag) (vs ws : List Value) → der (Sequence t (values_of vs)) ≡ der (Sequence t (values_of ws))
    → map der vs ≡ map der ws
unfolding der
sequence_texts t vs ws e =
    let joined =
    (element_one t t true true (join (der_texts (values_of vs))) (join (der_texts (values_of ws))) e).contents in
    texts_alone (map der vs) (map der ws) (texts_each vs) (texts_each ws)
    (ap join (sym (ders_values vs)) ∙ joined ∙ ap join (ders_values ws))

set_texts : (t : Tag) (vs ws : List Value) → Ascends (map der vs) → Ascends (map der ws)
    → der (SetOf t (values_of vs)) ≡ der (SetOf t (values_of ws)) → map der vs ≡ map der ws
unfolding der
set_texts t vs ws p q e =
    let joined = (element_one t t true true (join (arrange (der_texts (values_of vs))))
    (join (arrange (der_texts (values_of ws)))) e).contents in
    let as_is = λ (us : List Value) (h : Ascends (map der us)).
    ap (λ z. join (arrange z)) (ders_values us) ∙ ap join (arrange_ascends (map der us) (texts_each us) h) in
    texts_alone (map der vs) (map der ws) (texts_each vs) (texts_each ws) (sym (as_is vs p) ∙ joined ∙ as_is ws q)

-- Members of one kind, of which those with one text are the same.
module _ {A : Type 0} (value : A → Value)
    (one : (x y : A) → der (value x) ≡ der (value y) → Same (value x) (value y)) where
  each_one : (xs ys : List A) → map der (map value xs) ≡ map der (map value ys)
      → Each Same (map value xs) (map value ys)
  each_one [] [] e = tt
  each_one [] (y ∷ ys) e = cc
  each_one (x ∷ xs) [] e = cc
  each_one (x ∷ xs) (y ∷ ys) e = (one x y cc, each_one xs ys cc)

  pub list_one_text : (t : Tag) (xs ys : List A)
      → der (Sequence t (values_of (map value xs))) ≡ der (Sequence t (values_of (map value ys)))
      → Same (Sequence t (values_of (map value xs))) (Sequence t (values_of (map value ys)))
  list_one_text t xs ys e =
      each_sequence t (map value xs) (map value ys) (each_one xs ys (sequence_texts t (map value xs) (map value ys) e))

  pub set_one_text : (t : Tag) (xs ys : List A) → Ascends (map der (map value xs)) → Ascends (map der (map value ys))
      → der (SetOf t (values_of (map value xs))) ≡ der (SetOf t (values_of (map value ys)))
      → Same (SetOf t (values_of (map value xs))) (SetOf t (values_of (map value ys)))
  set_one_text t xs ys p q e =
      each_set t (map value xs) (map value ys) (each_one xs ys (set_texts t (map value xs) (map value ys) p q e))

  pub single_one_text : (t : Tag) (x y : A)
      → der (Sequence t (values_of (value x ∷ []))) ≡ der (Sequence t (values_of (value y ∷ [])))
      → Same (Sequence t (values_of (value x ∷ []))) (Sequence t (values_of (value y ∷ [])))
  single_one_text t x y e = list_one_text t (x ∷ []) (y ∷ []) e
