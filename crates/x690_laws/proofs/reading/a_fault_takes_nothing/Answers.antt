use Rattle.x690_laws.proofs.ReadingOfElements.{exclusive}
use Rattle.x690_laws.proofs.reading.a_fault_takes_nothing.Goals as goal

pub returns : goal.returns
returns c = exclusive
