use Rattle.std.proofs.Common.{◌≡◌, ◌≤◌, drop, length, reverse}
use Rattle.reports.specs.Picks.{state_from, numbers_from, start_of}
use Rattle.reports.proofs.picks.picked.Given as goal

abbrev pub invariant-loop-number : goal.invariant-loop-number
invariant-loop-number l = record {
  within : l.number ≤ length l.lines;
  state : l.state ≡ state_from l.pick (start_of l.lines l.skip) l.number (drop l.number l.lines);
  numbers : reverse l.numbers.items ≡ numbers_from l.pick (start_of l.lines l.skip) l.number (drop l.number l.lines);
}

abbrev pub decreases-loop-number : goal.decreases-loop-number
decreases-loop-number l = l.number
