use Rattle.x690_laws.proofs.AnswersOfDocuments.{refused_is_spelled_by_none}
use Rattle.x690_laws.proofs.answers.what_is_refused_is_spelled_by_none.Goals as goal

pub returns : goal.returns
returns c = refused_is_spelled_by_none
