use Rattle.std.proofs.Common.{◌≡◌, ◌++◌, length, string_bytes}
use Rattle.reports.specs.Asks.{each_in}
use Rattle.reports.specs.Summaries.{scheme_part}
use Rattle.reports.proofs.summaries.push_scheme_parts.Given as goal

abbrev pub invariant-loop-left : goal.invariant-loop-left
invariant-loop-left l =
    string_bytes l.text ++ each_in scheme_part l.depth l.left
    ≡ string_bytes l.fn.text ++ each_in scheme_part l.depth l.lines

abbrev pub decreases-loop-left : goal.decreases-loop-left
decreases-loop-left l = length l.left
