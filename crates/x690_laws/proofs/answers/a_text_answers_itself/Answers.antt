use Rattle.x690_laws.proofs.AnswersOfDocuments.{text_answers_itself}
use Rattle.x690_laws.proofs.answers.a_text_answers_itself.Goals as goal

pub returns : goal.returns
returns c = text_answers_itself
