use Rattle.std.proofs.Common.{length}
use Rattle.commands.proofs.sums.+push_kind_objects.Given as goal

abbrev pub decreases-push_kind_objects : goal.decreases-push_kind_objects
decreases-push_kind_objects l = length l.kinds.now
