use Rattle.std.proofs.Common.{◌≡◌, ◌++◌, length, string_bytes}
use Rattle.reports.specs.Asks.{asked, each_start_in}
use Rattle.reports.proofs.asks.push_each_asked.Given as goal

abbrev pub invariant-loop-left : goal.invariant-loop-left
invariant-loop-left l =
    string_bytes l.text ++ each_start_in asked l.depth l.left
    ≡ string_bytes l.fn.text ++ each_start_in asked l.depth l.lines

abbrev pub decreases-loop-left : goal.decreases-loop-left
decreases-loop-left l = length l.left
