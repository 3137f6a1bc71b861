use Rattle.x690_laws.proofs.ReadingSteps.{next_steps}
use Rattle.x690_laws.proofs.steps.what_is_read_next_stands.Goals as goal

pub returns : goal.returns
returns c = next_steps
