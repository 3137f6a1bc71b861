use Rattle.std.proofs.Common.{length}
use Rattle.explain.proofs.guess.texts.+has_zeros.Given as goal

abbrev pub decreases-has_zeros : goal.decreases-has_zeros
decreases-has_zeros l = length l.octets.now
