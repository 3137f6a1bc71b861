use Rattle.std.proofs.Common.{length}
use Rattle.commands.proofs.each.+begun_by_first.Given as goal

abbrev pub decreases-begun_by_first : goal.decreases-begun_by_first
decreases-begun_by_first l = length l.kinds.now
