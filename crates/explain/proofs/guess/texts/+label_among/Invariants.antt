use Rattle.std.proofs.Common.{length}
use Rattle.explain.proofs.guess.texts.+label_among.Given as goal

abbrev pub decreases-label_among : goal.decreases-label_among
decreases-label_among l = length l.labels.now
