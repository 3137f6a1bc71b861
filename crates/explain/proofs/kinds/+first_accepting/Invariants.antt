use Rattle.std.proofs.Common.{length}
use Rattle.explain.proofs.kinds.+first_accepting.Given as goal

abbrev pub decreases-first_accepting : goal.decreases-first_accepting
decreases-first_accepting l = length l.kinds.now
