use Rattle.x690_laws.proofs.AnswersOfDocuments.{texts_tell_values}
use Rattle.x690_laws.proofs.answers.texts_tell_values_apart.Goals as goal

pub returns : goal.returns
returns c = texts_tell_values
