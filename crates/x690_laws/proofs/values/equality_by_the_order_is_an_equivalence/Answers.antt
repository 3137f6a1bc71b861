use Rattle.x690_laws.proofs.TextOrder.{equality_by_order}
use Rattle.x690_laws.proofs.values.equality_by_the_order_is_an_equivalence.Goals as goal

pub returns : goal.returns
returns c = equality_by_order
