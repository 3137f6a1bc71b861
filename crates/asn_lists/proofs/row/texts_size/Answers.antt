use Rattle.std.proofs.Common.{arith, map}
use Rattle.asn_elements.proofs.MappedMembers.{nth_value, within_map}
use Rattle.asn_elements.proofs.MemberTexts.{texts_left_one}
use Rattle.asn_lists.proofs.row.texts_size.Goals as goal

pub overflow_add-size : goal.overflow_add-size
overflow_add-size g c =
    let f = g.T.DerText.value in
    let xs = c.args.items.now in
    let i = c.loop-item.item-index in
    let x = c.item-item.result in
    let t = texts_left_one (map f xs) i (f x) (within_map f xs i c.loop-item-test.true)
    (nth_value f xs i x c.loop-item-test.true c.item-item.is) in
    let k = c.loop-item.invariant in
    let r = c.requires in
    let e = c.size-size.ensures in omega arith

pub loop-item-preserved : goal.loop-item-preserved
loop-item-preserved g c =
    let f = g.T.DerText.value in
    let xs = c.args.items.now in
    let i = c.loop-item.item-index in
    let x = c.item-item.result in
    let t = texts_left_one (map f xs) i (f x) (within_map f xs i c.loop-item-test.true)
    (nth_value f xs i x c.loop-item-test.true c.item-item.is) in
    let k = c.loop-item.invariant in
    let e = c.size-size.ensures in omega arith
