use Rattle.comparison.proofs.DifferenceLaws.{some_is_shown}
use Rattle.comparison.proofs.laws.some_is_shown.Goals as goal

pub returns : goal.returns
returns c = some_is_shown
