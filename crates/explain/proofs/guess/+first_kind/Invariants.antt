use Rattle.std.proofs.Common.{length}
use Rattle.explain.proofs.guess.+first_kind.Given as goal

abbrev pub decreases-first_kind : goal.decreases-first_kind
decreases-first_kind l = length l.kinds.now
