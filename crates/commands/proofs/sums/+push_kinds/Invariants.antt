use Rattle.std.proofs.Common.{length}
use Rattle.commands.proofs.sums.+push_kinds.Given as goal

abbrev pub decreases-push_kinds : goal.decreases-push_kinds
decreases-push_kinds l = length l.kinds.now
