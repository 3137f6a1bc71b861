use Rattle.pk_documents.proofs.KindRows.{numbers_count}
use Rattle.pk_documents.proofs.laws.numbers_count.Goals as goal

pub returns : goal.returns
returns c = numbers_count
