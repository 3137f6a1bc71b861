use Rattle.std.proofs.Common.{◌≡◌, ◌+◌, length}
use Rattle.reports.specs.Picks.{first_cause}
use Rattle.reports.proofs.picks.first_cause.Given as goal

abbrev pub invariant-loop-left : goal.invariant-loop-left
invariant-loop-left l =
    (l.count + first_cause l.left ≡ first_cause l.lines) × (l.count + length l.left ≡ length l.lines)

abbrev pub decreases-loop-left : goal.decreases-loop-left
decreases-loop-left l = length l.left
