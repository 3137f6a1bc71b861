use Rattle.x690_laws.proofs.ValuesSame.{equivalence}
use Rattle.x690_laws.proofs.values.same_is_an_equivalence.Goals as goal

pub returns : goal.returns
returns c = equivalence
