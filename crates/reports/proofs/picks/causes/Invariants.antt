use Rattle.std.proofs.Common.{◌≡◌, ◌+◌, ◌≤◌, length}
use Rattle.reports.specs.Picks.{causes}
use Rattle.reports.proofs.picks.causes.Given as goal

abbrev pub invariant-loop-left : goal.invariant-loop-left
invariant-loop-left l = (l.count + causes l.left ≡ causes l.lines) × (l.count + length l.left ≤ length l.lines)

abbrev pub decreases-loop-left : goal.decreases-loop-left
decreases-loop-left l = length l.left
