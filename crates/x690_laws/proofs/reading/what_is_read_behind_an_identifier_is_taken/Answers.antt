use Rattle.x690_laws.proofs.FaultsExact.{behind_is_taken}
use Rattle.x690_laws.proofs.reading.what_is_read_behind_an_identifier_is_taken.Goals as goal

pub returns : goal.returns
returns c = behind_is_taken
