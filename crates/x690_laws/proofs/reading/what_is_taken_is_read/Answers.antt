use Rattle.x690_laws.proofs.ReadingOfElements.{complete}
use Rattle.x690_laws.proofs.reading.what_is_taken_is_read.Goals as goal

pub returns : goal.returns
returns c = complete
