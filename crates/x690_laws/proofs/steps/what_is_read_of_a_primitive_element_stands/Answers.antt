use Rattle.x690_laws.proofs.ReadingSteps.{primitive_steps}
use Rattle.x690_laws.proofs.steps.what_is_read_of_a_primitive_element_stands.Goals as goal

pub returns : goal.returns
returns c = primitive_steps
