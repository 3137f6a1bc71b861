use Rattle.std.proofs.Common.{arith, map}
use Rattle.asn_elements.proofs.MappedMembers.{nth_value, within_map}
use Rattle.asn_elements.proofs.MemberTexts.{texts_left_one}
use Rattle.asn_lists.proofs.row.contents_length.Goals as goal

pub returns-then-size-content-clause-none : goal.returns-then-size-content-clause-none
returns-then-size-content-clause-none g c = λ e.
    let f = g.T.DerText.value in
    let xs = c.args.items.now in
    let i = c.loop-item.item-index in
    let x = c.item-item.result in
    let t = texts_left_one (map f xs) i (f x) (within_map f xs i c.loop-item-test.true)
    (nth_value f xs i x c.loop-item-test.true c.item-item.is) in
    let k = c.loop-item.invariant.1 in
    let s = c.size-size.ensures in
    let h = c.if-size-content.true in
    let b = c.loop-item.invariant.0 in
    omega arith

pub loop-item-preserved : goal.loop-item-preserved
loop-item-preserved g c =
    let f = g.T.DerText.value in
    let xs = c.args.items.now in
    let i = c.loop-item.item-index in
    let x = c.item-item.result in
    let t = texts_left_one (map f xs) i (f x) (within_map f xs i c.loop-item-test.true)
    (nth_value f xs i x c.loop-item-test.true c.item-item.is) in
    let k = c.loop-item.invariant.1 in
    let s = c.size-size.ensures in
    let h = c.if-size-content.false in
    let b = c.loop-item.invariant.0 in
    (omega arith, omega arith)
