use Rattle.x690_laws.proofs.FaultsExact.{taken_is_behind}
use Rattle.x690_laws.proofs.reading.what_is_taken_is_read_behind_its_identifier.Goals as goal

pub returns : goal.returns
returns c = taken_is_behind
