use Rattle.std.proofs.Common.{arith, ◌∙◌, ◌+◌, ◌++◌, ap, drop, map}
use Rattle.asn_elements.specs.Members.{starts_from}
use Rattle.asn_elements.proofs.MappedMembers.{nth_value, within_map}
use Rattle.asn_elements.proofs.MemberTexts.{starts_more_one, texts_left_one}
use Rattle.asn_lists.proofs.row.starts_of.Goals as goal

pub overflow_add-end : goal.overflow_add-end
overflow_add-end g c =
    let f = g.T.DerText.value in
    let xs = c.args.items.now in
    let i = c.loop-item.item-index in
    let x = c.item-item.result in
    let t = texts_left_one (map f xs) i (f x) (within_map f xs i c.loop-item-test.true)
    (nth_value f xs i x c.loop-item-test.true c.item-item.is) in
    let k = c.loop-item.invariant.0 in
    let r = c.requires in
    let e = c.size-end.ensures in omega arith

pub loop-item-preserved : goal.loop-item-preserved
loop-item-preserved g c =
    let f = g.T.DerText.value in
    let xs = c.args.items.now in
    let i = c.loop-item.item-index in
    let x = c.item-item.result in
    let w = within_map f xs i c.loop-item-test.true in
    let n = nth_value f xs i x c.loop-item-test.true c.item-item.is in
    let t = texts_left_one (map f xs) i (f x) w n in
    let k = c.loop-item.invariant.0 in
    let e = c.size-end.ensures in (
      omega arith,
      ap (λ z. z ++ starts_from (c.loop-item.end + c.size-end.result) (drop (i + 1) (map f xs)))
          c.in_ok-push.ensures.items
          ∙ (starts_more_one c.loop-item.starts.items c.loop-item.end c.size-end.result i (map f xs) (f x) w n e
          ∙ c.loop-item.invariant.1),
    )
