use Rattle.x690_laws.proofs.AnswersOfDocuments.{needed_octets}
use Rattle.x690_laws.proofs.answers.octets_that_are_not_needed_change_nothing.Goals as goal

pub returns : goal.returns
returns c = needed_octets
