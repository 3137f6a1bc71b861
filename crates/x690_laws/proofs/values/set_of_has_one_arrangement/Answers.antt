use Rattle.x690_laws.proofs.TextsAsLayouts.{arrangement}
use Rattle.x690_laws.proofs.values.set_of_has_one_arrangement.Goals as goal

pub returns : goal.returns
returns c = arrangement
