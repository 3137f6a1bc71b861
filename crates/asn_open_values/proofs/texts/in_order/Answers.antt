use Rattle.std.proofs.Common.{◌≡◌, ◌∙◌, List, ap, map, subst, sym, true, IsPermutation}
use Rattle.std.proofs.lemmas.List.{map-id}
use Rattle.std.proofs.lemmas.List.Sorted.{IsPermutation-map, IsPermutation-refl}
use Rattle.std.proofs.lemmas.Result.{IfOk-weaker}
use Rattle.x690.specs.DerTexts.{arrange, der}
use Rattle.x690.specs.Lists.{join}
use Rattle.x690.specs.Values.{Value}
use Rattle.asn_elements.specs.Members.{StandIn}
use Rattle.asn_elements.proofs.ArrangedTexts.{sorted_arranged}
use Rattle.asn_open_values.proofs.texts.in_order.Goals as goal

pub returns-then-ascend-clause-sorted : goal.returns-then-ascend-clause-sorted
returns-then-ascend-clause-sorted c = λ values stands.
    let texts = map der values in
    let e = sym (map-id texts) in
    let p = subst (IsPermutation texts) e (IsPermutation-refl texts) in
    let sorted = (c.ascend.ensures values (c.deref.ensures.value ∙ stands.0, stands.1)).0 c.if-ascend.true in
    stands.0 ∙ ap join (e ∙ sorted_arranged (λ t. t) values texts p sorted)

pub returns-in_err-texts-clause-still : goal.returns-in_err-texts-clause-still
returns-in_err-texts-clause-still c = λ values stands sorted.
    let yes : c.ascend.result ≡ true =
    (c.ascend.ensures values (c.deref.ensures.value ∙ stands.0, stands.1)).1 sorted in
    absurd cc

pub returns-clause-still : goal.returns-clause-still
returns-clause-still c = λ values stands sorted.
    let yes : c.ascend.result ≡ true =
    (c.ascend.ensures values (c.deref.ensures.value ∙ stands.0, stands.1)).1 sorted in
    absurd cc

pub returns-clause-sorted : goal.returns-clause-sorted
returns-clause-sorted c =
    let texts = c.sort_unstable.new.self.items in
    IfOk-weaker c.joined.result (λ s. s.items ≡ join (map (λ t. t.now) c.deref-3.result.now)) (λ s.
    (values : List Value) → StandIn values c.args.octets.items c.args.starts.now
    → s.items ≡ join (arrange (map der values)))
    (λ s is values stands.
    let moved = IsPermutation-map (λ t. t.now) c.in_ok-texts.texts.items texts c.sort_unstable.ensures.permutation in
    let p = subst (λ z. IsPermutation z (map (λ t. t.now) texts))
    (c.in_ok-texts.ensures values (c.deref-2.ensures.value ∙ stands.0, stands.1)) moved in
    is
    ∙ (ap (λ z. join (map (λ t. t.now) z)) c.deref-3.ensures.value
    ∙ ap join (sorted_arranged (λ t. t.now) values texts p c.sort_unstable.ensures.sorted)))
    c.joined.ensures
