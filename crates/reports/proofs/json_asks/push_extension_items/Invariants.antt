use Rattle.std.proofs.Common.{◌≡◌, ◌++◌, length}
use Rattle.reports.specs.Asks.{each_start_in}
use Rattle.reports.specs.JsonAsks.{extension_item}
use Rattle.reports.proofs.json_asks.push_extension_items.Given as goal

abbrev pub invariant-loop-left : goal.invariant-loop-left
invariant-loop-left l = l.json ++ each_start_in extension_item l.depth l.left ≡ l.fn.json ++ each_start_in extension_item l.depth l.lines

abbrev pub decreases-loop-left : goal.decreases-loop-left
decreases-loop-left l = length l.left
