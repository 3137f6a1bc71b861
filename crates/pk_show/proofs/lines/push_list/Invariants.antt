use Rattle.std.proofs.Common.{◌≡◌, ◌++◌, flat_map, string_bytes, take}
use Rattle.asn_lists.specs.Containers.{list_items}
use Rattle.pk_show.proofs.lines.push_list.Given as goal

abbrev pub invariant-loop-i : goal.invariant-loop-i
invariant-loop-i g l =
    string_bytes l.text ≡ string_bytes l.fn.text ++ flat_map g.T.Shown.lines (take l.i (list_items l.list))
