use Rattle.std.proofs.Common.{length, ◌-◌}
use Rattle.commands.proofs.element_end.ElementEnd.over.Given as goal

abbrev pub decreases-loop-end : goal.decreases-loop-end
decreases-loop-end l = length l.octets - l.end.at
