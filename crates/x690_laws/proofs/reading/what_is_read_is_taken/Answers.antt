use Rattle.x690_laws.proofs.ReadingOfElements.{sound}
use Rattle.x690_laws.proofs.reading.what_is_read_is_taken.Goals as goal

pub returns : goal.returns
returns c = sound
