use Rattle.comparison.proofs.PrivateValues.{private_values_are_shown_together}
use Rattle.comparison.proofs.laws.private_values_are_shown_together.Goals as goal

pub returns : goal.returns
returns c = private_values_are_shown_together
