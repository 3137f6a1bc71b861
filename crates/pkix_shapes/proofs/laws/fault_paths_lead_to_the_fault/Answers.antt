use Rattle.pkix_shapes.proofs.FaultPaths.{fault_paths_stop}
use Rattle.pkix_shapes.proofs.laws.fault_paths_lead_to_the_fault.Goals as goal

pub returns : goal.returns
returns c = fault_paths_stop
