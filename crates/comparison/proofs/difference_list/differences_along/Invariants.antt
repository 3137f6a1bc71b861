use Rattle.std.proofs.Common.{◌≡◌, ◌+◌, ◌++◌, length}
use Rattle.comparison.specs.DifferenceLists.{differences_along}
use Rattle.comparison.proofs.difference_list.differences_along.Given as goal

abbrev pub invariant-loop-rounds : goal.invariant-loop-rounds
invariant-loop-rounds l =
    l.all.items
    ++ differences_along l.rounds l.encodings.first.now l.encodings.second.now l.left l.right (length l.first)
    (length l.second)
    ≡ differences_along (length l.first + length l.second) l.encodings.first.now l.encodings.second.now l.first l.second
    (length l.first) (length l.second)

abbrev pub decreases-loop-rounds : goal.decreases-loop-rounds
decreases-loop-rounds l = l.rounds
