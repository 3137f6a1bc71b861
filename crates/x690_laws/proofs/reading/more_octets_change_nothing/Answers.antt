use Rattle.x690_laws.proofs.ReadingOfElements.{need}
use Rattle.x690_laws.proofs.reading.more_octets_change_nothing.Goals as goal

pub returns : goal.returns
returns c = need
