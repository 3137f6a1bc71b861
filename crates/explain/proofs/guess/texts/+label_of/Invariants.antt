use Rattle.std.proofs.Common.{length}
use Rattle.explain.proofs.guess.texts.+label_of.Given as goal

abbrev pub decreases-label_of : goal.decreases-label_of
decreases-label_of l = length l.kinds.now
