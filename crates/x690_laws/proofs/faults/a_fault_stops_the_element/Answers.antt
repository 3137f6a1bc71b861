use Rattle.x690_laws.proofs.FaultsOfReading.{faithful}
use Rattle.x690_laws.proofs.faults.a_fault_stops_the_element.Goals as goal

pub returns : goal.returns
returns c = faithful
