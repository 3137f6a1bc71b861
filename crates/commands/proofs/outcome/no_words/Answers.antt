use Rattle.std.proofs.Common.{ap, length}
use Rattle.commands.proofs.outcome.no_words.Goals as goal

pub returns-clause-none : goal.returns-clause-none
returns-clause-none c = ap length c.new.ensures
