use Rattle.std.proofs.Common.{◌≡◌, ◌++◌, flat_map, map, string_bytes, take}
use Rattle.asn_lists.specs.Containers.{list_items}
use Rattle.pk_show.specs.Parts.{rdn_items}
use Rattle.pk_show.specs.Shown.{rdn_lines}
use Rattle.pk_show.proofs.requests.push_rdns.Given as goal

abbrev pub invariant-loop-i : goal.invariant-loop-i
invariant-loop-i l =
    string_bytes l.text ≡ string_bytes l.fn.text ++ flat_map rdn_lines (take l.i (map rdn_items (list_items l.rdns)))
