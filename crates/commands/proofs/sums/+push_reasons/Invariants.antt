use Rattle.std.proofs.Common.{length}
use Rattle.commands.proofs.sums.+push_reasons.Given as goal

abbrev pub decreases-push_reasons : goal.decreases-push_reasons
decreases-push_reasons l = length l.whys.now
