use Rattle.std.proofs.Common.{◌≡◌, ◌++◌, flat_map, length, map, string_bytes}
use Rattle.comparison.specs.Texts.{field_after}
use Rattle.comparison.specs.DifferenceWords.{words_of}
use Rattle.comparison.proofs.text.push_fields_after.Given as goal

abbrev pub invariant-loop-left : goal.invariant-loop-left
invariant-loop-left l =
    string_bytes l.text ++ flat_map field_after (map words_of l.left)
    ≡ string_bytes l.fn.text ++ flat_map field_after (map words_of l.shown)

abbrev pub decreases-loop-left : goal.decreases-loop-left
decreases-loop-left l = length l.left
