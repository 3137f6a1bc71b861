use Rattle.std.proofs.Common.{refl}
use Rattle.commands.specs.Tallies.{counts}
use Rattle.commands.proofs.tally.Tally.new.Goals as goal

pub returns : goal.returns
unfolding counts
returns c = refl
