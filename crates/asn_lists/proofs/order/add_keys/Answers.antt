use Rattle.std.proofs.Common.{◌≡◌, ◌∙◌, ◌++◌, ◌∷◌, [], ap, map, rules}
use Rattle.asn_elements.proofs.CutTexts.{first_text}
use Rattle.asn_elements.proofs.MappedMembers.{map_last}
use Rattle.asn_lists.proofs.order.add_keys.Goals as goal

pub split_at-requires : goal.split_at-requires
split_at-requires g c =
    let more : c.loop-item.item-iterator.rest.items ≡ c.in-Some.item ∷ c.next.new.self.rest.items = search rules in
    (first_text g.T.DerText.value _ _ c.in-Some.item c.loop-item.rest.now c.size.result c.loop-item.invariant.1 more
    c.size.ensures).within

pub invariant_of-push : goal.invariant_of-push
invariant_of-push g c =
    let more : c.loop-item.item-iterator.rest.items ≡ c.in-Some.item ∷ c.next.new.self.rest.items = search rules in
    let first = first_text g.T.DerText.value _ _ c.in-Some.item c.loop-item.rest.now c.size.result
    c.loop-item.invariant.1 more c.size.ensures in
    record { own = c.split_at.ensures.front ∙ first.text }

pub loop-item-preserved : goal.loop-item-preserved
loop-item-preserved g c =
    let more : c.loop-item.item-iterator.rest.items ≡ c.in-Some.item ∷ c.next.new.self.rest.items = search rules in
    let first = first_text g.T.DerText.value _ _ c.in-Some.item c.loop-item.rest.now c.size.result
    c.loop-item.invariant.1 more c.size.ensures in (
      ap (map (λ k. k.item)) c.in_ok-push.ensures.items
          ∙ (map_last (λ k. k.item) c.loop-item.keys.items _
          ∙ ap (λ z. z ++ c.in-Some.item ∷ []) c.loop-item.invariant.0),
      c.split_at.ensures.back ∙ first.others,
    )
