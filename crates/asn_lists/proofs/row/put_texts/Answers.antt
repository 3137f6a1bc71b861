use Rattle.std.proofs.Common.{rules, map}
use Rattle.asn_elements.proofs.MappedMembers.{member_put, member_room, member_stop, nth_value, within_map}
use Rattle.asn_elements.proofs.Putting.{none_put}
use Rattle.asn_lists.proofs.row.put_texts.Goals as goal

pub loop-item-init : goal.loop-item-init
loop-item-init g c = none_put c.args.sink.now c.requires.fine

pub put-requires : goal.put-requires
put-requires g c =
    let f = g.T.DerText.value in
    let xs = c.args.items.now in
    let i = c.loop-item.item-index in
    let x = c.item-item.result in
    member_room (map f xs) i (f x) (within_map f xs i c.loop-item-test.true)
    (nth_value f xs i x c.loop-item-test.true c.item-item.is)
    c.args.sink.now c.loop-item.sink c.loop-item.sink _ c.loop-item.invariant c.requires.room

pub loop-item-preserved : goal.loop-item-preserved
loop-item-preserved g c =
    let f = g.T.DerText.value in
    let xs = c.args.items.now in
    let i = c.loop-item.item-index in
    let x = c.item-item.result in
    member_put (map f xs) i (f x) (within_map f xs i c.loop-item-test.true)
    (nth_value f xs i x c.loop-item-test.true c.item-item.is)
    c.args.sink.now c.loop-item.sink c.put.new.sink c.loop-item.invariant c.in_ok-put.ensures

pub returns-in_err-put : goal.returns-in_err-put
returns-in_err-put g c =
    let f = g.T.DerText.value in
    let xs = c.args.items.now in
    let i = c.loop-item.item-index in
    let x = c.item-item.result in
    member_stop (map f xs) i (f x) (within_map f xs i c.loop-item-test.true)
    (nth_value f xs i x c.loop-item-test.true c.item-item.is)
    c.args.sink.now c.loop-item.sink c.put.new.sink c.from_residual.result c.in_err-put.field-0.0
    (search rules) c.loop-item.invariant c.in_err-put.ensures
