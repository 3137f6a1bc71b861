use Rattle.x690_laws.proofs.ReadingOfElements.{one_take}
use Rattle.x690_laws.proofs.reading.one_element_is_taken.Goals as goal

pub returns : goal.returns
returns c = one_take
