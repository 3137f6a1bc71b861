use Rattle.x690_laws.proofs.FaultsPlaced.{inside_of_faults}
use Rattle.x690_laws.proofs.reading.inside_is_there_for_inner.Goals as goal

pub returns : goal.returns
returns c = inside_of_faults
