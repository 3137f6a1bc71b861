use Rattle.x690_laws.proofs.AnswersOfDocuments.{one_answer}
use Rattle.x690_laws.proofs.answers.there_is_one_answer.Goals as goal

pub returns : goal.returns
returns c = one_answer
