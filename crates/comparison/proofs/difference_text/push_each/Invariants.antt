use Rattle.std.proofs.Common.{◌≡◌, ◌++◌, length, map}
use Rattle.comparison.specs.DifferenceWords.{said_of, words_of}
use Rattle.comparison.proofs.difference_text.push_each.Given as goal

abbrev pub invariant-loop-left : goal.invariant-loop-left
invariant-loop-left l =
    map words_of l.all.items ++ map (said_of l.sides.root.now l.sides.first.now l.sides.second.now) l.left
    ≡ map words_of l.fn.all.items
    ++ map (said_of l.sides.root.now l.sides.first.now l.sides.second.now) l.differences

abbrev pub decreases-loop-left : goal.decreases-loop-left
decreases-loop-left l = length l.left
