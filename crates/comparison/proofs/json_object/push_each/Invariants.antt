use Rattle.std.proofs.Common.{◌≡◌, ◌++◌, flat_map, length, map}
use Rattle.comparison.specs.Json.{words_object}
use Rattle.comparison.specs.DifferenceWords.{words_of}
use Rattle.comparison.proofs.json_object.push_each.Given as goal

abbrev pub invariant-loop-left : goal.invariant-loop-left
invariant-loop-left l =
    l.json ++ flat_map words_object (map words_of l.left) ≡ l.fn.json ++ flat_map words_object (map words_of l.shown)

abbrev pub decreases-loop-left : goal.decreases-loop-left
decreases-loop-left l = length l.left
