use Rattle.x690_laws.proofs.ReadingSteps.{string_steps}
use Rattle.x690_laws.proofs.steps.what_is_read_of_a_string_are_its_segments.Goals as goal

pub returns : goal.returns
returns c = string_steps
