use Rattle.std.proofs.Common.{◌≡◌, ◌+◌, ◌-◌, arith, length}
use Rattle.std.proofs.lemmas.List.{with_items_is}
use borrow.Rule.Slice.PartMut.{put_mid, same_len_mid}
use Rattle.commands.proofs.BlockTargets.{waits_after}
use Rattle.commands.proofs.block_target.BlockTarget.hold.Goals as goal

pub returns-clause-waits : goal.returns-clause-waits
returns-clause-waits g c =
    let old = c.args.self.now in
    let piece = c.args.piece.now in
    let shown = c.deref_mut.result.now in
    let copied = c.copy_from_slice.new.self in
    let count = old.end + length piece - old.end in
    let stands = put_mid old.end count shown copied in
    let long : length stands ≡ length shown = same_len_mid old.end count shown copied c.copy_from_slice.ensures.len in
    waits_after old.block.items _ shown copied piece old.begin old.end
    (with_items_is old.block stands (omega (arith, long))) c.deref_mut.ensures.value c.copy_from_slice.ensures.after
    old.ordered old.within
