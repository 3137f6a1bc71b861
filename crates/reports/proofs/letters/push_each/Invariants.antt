use Rattle.std.proofs.Common.{◌≡◌, ◌++◌, encode_utf8, flat_map, length, string_bytes}
use Rattle.reports.proofs.letters.push_each.Given as goal

abbrev pub invariant-loop-left : goal.invariant-loop-left
invariant-loop-left l =
    string_bytes l.text ++ flat_map encode_utf8 l.left ≡ string_bytes l.fn.text ++ flat_map encode_utf8 l.octets

abbrev pub decreases-loop-left : goal.decreases-loop-left
decreases-loop-left l = length l.left
