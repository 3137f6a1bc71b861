use Rattle.std.proofs.Common.{◌∙◌, ◌++◌, ap, append-nil, append_assoc, arith, codes, decimal, flat_map, length, string_bytes, sym}
use Rattle.asn_lists.specs.Containers.{list_items, set_items}
use Rattle.pk_show.specs.Lines.{line}
use Rattle.pk_show.specs.Parts.{rdn_items}
use Rattle.pk_show.specs.Shown.{item_line, rdn_lines}
use Rattle.pk_show.proofs.Members.{all_parts, is_member, next_part}
use Rattle.pk_show.proofs.requests.push_rdns.Goals as goal

pub loop-i-init : goal.loop-i-init
loop-i-init c = sym (append-nil (string_bytes c.args.text.now))

pub unreachable-requires : goal.unreachable-requires
unreachable-requires c =
    let count = c.len-i-end.ensures in
    let test = c.loop-i-test.true in
    is_member (list_items c.args.rdns.now) c.loop-i.i (omega arith) c.in_default.ensures

pub loop-i-preserved : goal.loop-i-preserved
unfolding rdn_lines
loop-i-preserved c =
    let old = string_bytes c.loop-i.text in
    let seen = c.items-items.result.now in
    let items = rdn_items c.in-Some.rdn.now in
    c.in_ok-push_set.ensures
    ∙ ap (λ s. s ++ flat_map item_line (set_items seen)) c.in_ok-push_number_line.ensures
    ∙ ap (λ n. (old ++ line (codes "  rdn: ") (decimal n)) ++ flat_map item_line (set_items seen)) c.len.ensures
    ∙ ap
    (λ set. (old ++ line (codes "  rdn: ") (decimal (length (set_items set)))) ++ flat_map item_line (set_items set))
    c.items-items.ensures.value
    ∙ append_assoc old (line (codes "  rdn: ") (decimal (length items))) (flat_map item_line items)
    ∙ ap (λ s. s ++ rdn_lines items) c.loop-i.invariant
    ∙ next_part rdn_items rdn_lines (string_bytes c.args.text.now)
    (list_items c.args.rdns.now) c.loop-i.i c.in-Some.rdn.now c.in-Some.ensures

pub returns : goal.returns
returns c =
    let count = c.len-i-end.ensures in
    let test = c.loop-i-test.false in
    c.loop-i.invariant
    ∙ all_parts rdn_items rdn_lines (string_bytes c.args.text.now) (list_items c.args.rdns.now) c.loop-i.i (omega arith)
