use Rattle.pk_documents.proofs.KindRows.{numbers_are_of_kinds}
use Rattle.pk_documents.proofs.laws.numbers_are_of_kinds.Goals as goal

pub returns : goal.returns
returns c = numbers_are_of_kinds
