use Rattle.x690_laws.proofs.FaultsExact.{exact}
use Rattle.x690_laws.proofs.faults.what_stops_is_the_fault.Goals as goal

pub returns : goal.returns
returns c = exact
