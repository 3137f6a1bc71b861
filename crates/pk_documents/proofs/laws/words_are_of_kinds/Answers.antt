use Rattle.pk_documents.proofs.KindRows.{words_are_of_kinds}
use Rattle.pk_documents.proofs.laws.words_are_of_kinds.Goals as goal

pub returns : goal.returns
returns c = words_are_of_kinds
