use Rattle.std.proofs.Common.{◌≡◌, length}
use Rattle.comparison.specs.DifferenceLists.{follows}
use Rattle.comparison.proofs.difference_list.follows.Given as goal

abbrev pub invariant-loop-left : goal.invariant-loop-left
invariant-loop-left l = follows l.step l.depth l.left ≡ follows l.step l.depth l.lines

abbrev pub decreases-loop-left : goal.decreases-loop-left
decreases-loop-left l = length l.left
