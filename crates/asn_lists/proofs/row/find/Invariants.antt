use Rattle.std.proofs.Common.{◌-◌, ◌<◌, ◌≤◌, ◌∷◌, length, get_or}
use Rattle.asn_lists.proofs.row.find.Given as goal

abbrev pub invariant-loop-low : goal.invariant-loop-low
invariant-loop-low l =
    (l.low ≤ l.high)
    × (l.high ≤ length l.starts)
    × (get_or (0 ∷ l.starts) l.low 0 ≤ l.at)
    × (l.high < length l.starts → l.at < get_or l.starts l.high 0)

abbrev pub decreases-loop-low : goal.decreases-loop-low
decreases-loop-low l = l.high - l.low
