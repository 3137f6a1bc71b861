use Rattle.std.proofs.Common.{drop, ◌≡◌}
use Rattle.explain.specs.FaultLines.{line_at, line_from}
use Rattle.explain.proofs.listing.fault_line.line_at.Given as goal

abbrev pub invariant-loop-i : goal.invariant-loop-i
invariant-loop-i l = line_from l.at l.i (drop l.i l.lines) ≡ line_at l.lines l.at
