use Rattle.std.proofs.Common.{◌≡◌, length}
use Rattle.reports.specs.Asks.{from_field}
use Rattle.reports.proofs.asks.from_field.Given as goal

abbrev pub invariant-loop-left : goal.invariant-loop-left
invariant-loop-left l = from_field l.name l.left ≡ from_field l.name l.lines

abbrev pub decreases-loop-left : goal.decreases-loop-left
decreases-loop-left l = length l.left
