use Rattle.std.proofs.Common.{length}
use Rattle.asn_names.proofs.resolved.+leaf_at.Given as goal

abbrev pub decreases-leaf_at : goal.decreases-leaf_at
decreases-leaf_at l = length l.path.now
