use Rattle.std.proofs.Common.{◌≡◌, ◌++◌, flat_map, length, string_bytes}
use Rattle.reports.specs.Texts.{octet_after}
use Rattle.reports.proofs.text.push_octets_after.Given as goal

abbrev pub invariant-loop-left : goal.invariant-loop-left
invariant-loop-left l =
    string_bytes l.text ++ flat_map octet_after l.left ≡ string_bytes l.fn.text ++ flat_map octet_after l.octets

abbrev pub decreases-loop-left : goal.decreases-loop-left
decreases-loop-left l = length l.left
