use Rattle.std.proofs.Common.{arith, ◌∙◌, ◌∷◌, ◌≡◌, ◌<◌, [], List, ap, length, map, refl, subst, sym, true, IsPermutation}
use Rattle.std.proofs.lemmas.List.Sorted.{IsPermutation-map}
use Rattle.x690.specs.DerTexts.{der}
use Rattle.asn_elements.specs.Members.{ascends}
use Rattle.asn_elements.proofs.ArrangedTexts.{sorted_ascend, sorted_texts_ascend}
use Rattle.asn_elements.proofs.MappedMembers.{map_thrice}
use Rattle.x690.specs.Values.{Value}
use Rattle.asn_lists.proofs.order.in_order.Goals as goal

-- less than two texts ascend
few_ascend : {A : Type 0} (f : A → Value) (items : List A) → length items < 2 → ascends (map der (map f items)) ≡ true
few_ascend f [] h = refl
few_ascend f (item ∷ []) h = refl
few_ascend f (item ∷ next ∷ items) h = absurd (omega arith)

pub returns-then-len-lt2-clause-in_order : goal.returns-then-len-lt2-clause-in_order
returns-then-len-lt2-clause-in_order g c =
    few_ascend g.T.DerText.value c.shrink_to_fit.new.self.items
    (omega (arith, c.if-len-lt2.true, c.len.ensures, c.shrink_to_fit.new.self.ok))

pub returns-clause-same : goal.returns-clause-same
returns-clause-same g c =
    let p = IsPermutation-map
    (λ k. k.item) c.in_ok-keys.keys.items c.sort_unstable.new.self.items c.sort_unstable.ensures.permutation in
    subst (λ z. IsPermutation z c.in_ok-sorted.sorted.items) (c.in_ok-keys.ensures ∙ c.shrink_to_fit.ensures.items)
    (subst (λ z. IsPermutation (map (λ k. k.item) c.in_ok-keys.keys.items) z) (sym c.in_ok-sorted.ensures) p)

pub returns-clause-in_order : goal.returns-clause-in_order
returns-clause-in_order g c =
    let keys = c.sort_unstable.new.self.items in
    ap (λ z. ascends (map der (map g.T.DerText.value z))) c.in_ok-sorted.ensures
    ∙ (ap ascends (map_thrice der g.T.DerText.value (λ k. k.item) keys)
    ∙ sorted_ascend (λ k. k.text.now) (λ k. g.T.DerText.value k.item) (λ k. k.own) keys c.sort_unstable.ensures.sorted)

pub returns-then-branch-clause-in_order : goal.returns-then-branch-clause-in_order
returns-then-branch-clause-in_order g c =
    let items = c.deref-2.result.now in
    ap (λ z. ascends (map der (map g.T.DerText.value z))) (sym c.deref-2.ensures.value)
    ∙ sorted_texts_ascend (map g.T.DerText.value items) (c.in_ok-is_in_order.ensures.0 c.if-branch.true)
