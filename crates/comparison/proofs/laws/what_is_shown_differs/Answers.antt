use Rattle.comparison.proofs.DifferenceLaws.{what_is_shown_differs}
use Rattle.comparison.proofs.laws.what_is_shown_differs.Goals as goal

pub returns : goal.returns
returns c = what_is_shown_differs
