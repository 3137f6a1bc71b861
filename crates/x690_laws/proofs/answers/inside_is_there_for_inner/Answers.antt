use Rattle.x690_laws.proofs.AnswersOfDocuments.{inside_of_answers}
use Rattle.x690_laws.proofs.answers.inside_is_there_for_inner.Goals as goal

pub returns : goal.returns
returns c = inside_of_answers
