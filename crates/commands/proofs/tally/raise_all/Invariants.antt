use Rattle.std.proofs.Common.{◌≡◌, ◌+◌, ◌<◌, ◌≤◌, ℕ, get_or, length}
use Rattle.commands.specs.Tallies.{counted}
use Rattle.commands.proofs.tally.raise_all.Given as goal

-- Rows before this one are raised, and others are as they were.
abbrev pub invariant-loop-row : goal.invariant-loop-row
invariant-loop-row l = record {
  len : length l.counts ≡ length l.fn.counts;
  raised :
      (row : ℕ) → row < l.row → get_or l.counts row 0 ≡ counted (get_or l.fn.counts row 0 + get_or l.others row 0);
  left : (row : ℕ) → l.row ≤ row → get_or l.counts row 0 ≡ get_or l.fn.counts row 0;
}
