use Rattle.std.proofs.Common.{◌∙◌, ◌++◌, ap, append-nil, arith, string_bytes, sym}
use Rattle.asn_lists.specs.Containers.{set_items}
use Rattle.pk_show.proofs.Members.{all_members, is_member, next_member}
use Rattle.pk_show.proofs.lines.push_set.Goals as goal

pub loop-i-init : goal.loop-i-init
loop-i-init g c = sym (append-nil (string_bytes c.args.text.now))

pub unreachable-requires : goal.unreachable-requires
unreachable-requires g c =
    let count = c.len-i-end.ensures in
    let test = c.loop-i-test.true in
    is_member (set_items c.args.set.now) c.loop-i.i (omega arith) c.in_default.ensures.member

pub loop-i-preserved : goal.loop-i-preserved
loop-i-preserved g c =
    c.in_ok-push_lines.ensures ∙ ap (λ s. s ++ g.T.Shown.lines c.in-Some.member.now) c.loop-i.invariant
    ∙ next_member g.T.Shown.lines (string_bytes c.args.text.now)
    (set_items c.args.set.now) c.loop-i.i c.in-Some.member.now c.in-Some.ensures.member

pub returns : goal.returns
returns g c =
    let count = c.len-i-end.ensures in
    let test = c.loop-i-test.false in
    c.loop-i.invariant
    ∙ all_members g.T.Shown.lines (string_bytes c.args.text.now) (set_items c.args.set.now) c.loop-i.i (omega arith)
