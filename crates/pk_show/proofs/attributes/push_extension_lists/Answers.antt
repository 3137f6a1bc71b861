use Rattle.std.proofs.Common.{◌∙◌, ◌++◌, ap, append-nil, append_assoc, arith, codes, decimal, flat_map, length, string_bytes, sym}
use Rattle.asn_lists.specs.Containers.{list_items, set_items}
use Rattle.pk_show.specs.Lines.{line}
use Rattle.pk_show.specs.Shown.{extension_line, extensions_lines}
use Rattle.pk_show.proofs.Members.{all_parts, is_member, next_part}
use Rattle.pk_show.proofs.attributes.push_extension_lists.Goals as goal

pub loop-i-init : goal.loop-i-init
loop-i-init c = sym (append-nil (string_bytes c.args.text.now))

pub unreachable-requires : goal.unreachable-requires
unreachable-requires c =
    let count = c.len-i-end.ensures in
    let test = c.loop-i-test.true in
    is_member (set_items c.args.lists.now) c.loop-i.i (omega arith) c.in_default.ensures.member

pub loop-i-preserved : goal.loop-i-preserved
unfolding extensions_lines
loop-i-preserved c =
    let old = string_bytes c.loop-i.text in
    let extensions = list_items c.in-Some.extensions.now in
    c.in_ok-push_list.ensures
    ∙ ap (λ s. s ++ flat_map extension_line extensions) c.in_ok-push_number_line.ensures
    ∙ ap (λ n. (old ++ line (codes "  extensions: ") (decimal n)) ++ flat_map extension_line extensions) c.len.ensures
    ∙ append_assoc old (line (codes "  extensions: ") (decimal (length extensions)))
    (flat_map extension_line extensions)
    ∙ ap (λ s. s ++ extensions_lines extensions) c.loop-i.invariant
    ∙ next_part list_items extensions_lines (string_bytes c.args.text.now)
    (set_items c.args.lists.now) c.loop-i.i c.in-Some.extensions.now c.in-Some.ensures.member

pub returns : goal.returns
returns c =
    let count = c.len-i-end.ensures in
    let test = c.loop-i-test.false in
    c.loop-i.invariant
    ∙ all_parts list_items extensions_lines (string_bytes c.args.text.now) (set_items c.args.lists.now) c.loop-i.i
    (omega arith)
