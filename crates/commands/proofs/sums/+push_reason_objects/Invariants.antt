use Rattle.std.proofs.Common.{length}
use Rattle.commands.proofs.sums.+push_reason_objects.Given as goal

abbrev pub decreases-push_reason_objects : goal.decreases-push_reason_objects
decreases-push_reason_objects l = length l.whys.now
