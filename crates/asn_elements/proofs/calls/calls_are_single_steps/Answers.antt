use Rattle.asn_elements.proofs.CallSteps.{call_steps}
use Rattle.asn_elements.proofs.calls.calls_are_single_steps.Goals as goal

pub returns : goal.returns
returns c = call_steps
