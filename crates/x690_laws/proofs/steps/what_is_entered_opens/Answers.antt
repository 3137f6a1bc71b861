use Rattle.x690_laws.proofs.ReadingSteps.{container_steps}
use Rattle.x690_laws.proofs.steps.what_is_entered_opens.Goals as goal

pub returns : goal.returns
returns c = container_steps
