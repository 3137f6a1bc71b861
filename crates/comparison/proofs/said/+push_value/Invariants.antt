use Rattle.std.proofs.Common.{length}
use Rattle.comparison.proofs.said.+push_value.Given as goal

abbrev pub decreases-push_value : goal.decreases-push_value
decreases-push_value l = length l.lines.now
