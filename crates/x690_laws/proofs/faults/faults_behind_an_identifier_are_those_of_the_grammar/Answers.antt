use Rattle.x690_laws.proofs.FaultsExact.{behind_is_exact}
use Rattle.x690_laws.proofs.faults.faults_behind_an_identifier_are_those_of_the_grammar.Goals as goal

pub returns : goal.returns
returns c = behind_is_exact
