use Rattle.std.proofs.Common.{◌≡◌, ◌++◌, length}
use Rattle.reports.specs.Asks.{each_in}
use Rattle.reports.specs.JsonKeys.{number_item}
use Rattle.reports.proofs.json_keys.push_number_items.Given as goal

abbrev pub invariant-loop-left : goal.invariant-loop-left
invariant-loop-left l = l.json ++ each_in number_item l.depth l.left ≡ l.fn.json ++ each_in number_item l.depth l.lines

abbrev pub decreases-loop-left : goal.decreases-loop-left
decreases-loop-left l = length l.left
