use Rattle.std.proofs.Common.{[]}
use Rattle.commands.proofs.tally.Tally.of_one.Goals as goal

pub returns : goal.returns
returns c = c.with.ensures [] c.new.ensures
