use Rattle.std.proofs.Common.{◌≡◌, ◌++◌, flat_map, map, string_bytes, take}
use Rattle.asn_lists.specs.Containers.{list_items, set_items}
use Rattle.pk_show.specs.Shown.{extensions_lines}
use Rattle.pk_show.proofs.attributes.push_extension_lists.Given as goal

abbrev pub invariant-loop-i : goal.invariant-loop-i
invariant-loop-i l =
    string_bytes l.text
    ≡ string_bytes l.fn.text ++ flat_map extensions_lines (take l.i (map list_items (set_items l.lists)))
