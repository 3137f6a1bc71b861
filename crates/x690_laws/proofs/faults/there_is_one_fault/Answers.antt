use Rattle.x690_laws.proofs.FaultsExact.{one_fault}
use Rattle.x690_laws.proofs.faults.there_is_one_fault.Goals as goal

pub returns : goal.returns
returns c = one_fault
