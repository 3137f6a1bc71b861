use Rattle.std.proofs.Common.{length}
use Rattle.explain.proofs.kinds.+first_begun.Given as goal

abbrev pub decreases-first_begun : goal.decreases-first_begun
decreases-first_begun l = length l.kinds.now
