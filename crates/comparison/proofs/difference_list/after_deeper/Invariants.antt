use Rattle.std.proofs.Common.{◌≡◌, length}
use Rattle.comparison.specs.DifferenceLists.{deeper}
use Rattle.comparison.proofs.difference_list.after_deeper.Given as goal

abbrev pub invariant-loop-left : goal.invariant-loop-left
invariant-loop-left l = deeper l.depth l.left ≡ deeper l.depth l.lines

abbrev pub decreases-loop-left : goal.decreases-loop-left
decreases-loop-left l = length l.left
