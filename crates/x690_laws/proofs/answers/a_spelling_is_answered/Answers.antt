use Rattle.x690_laws.proofs.AnswersOfDocuments.{spelling_is_answered}
use Rattle.x690_laws.proofs.answers.a_spelling_is_answered.Goals as goal

pub returns : goal.returns
returns c = spelling_is_answered
