use Rattle.x690_laws.proofs.FaultsPlaced.{truncated_at_the_end}
use Rattle.x690_laws.proofs.reading.truncated_stands_at_the_end.Goals as goal

pub returns : goal.returns
returns c = truncated_at_the_end
