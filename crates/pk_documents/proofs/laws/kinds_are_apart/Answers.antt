use Rattle.pk_documents.proofs.KindsApart.{kinds_are_apart}
use Rattle.pk_documents.proofs.laws.kinds_are_apart.Goals as goal

pub returns : goal.returns
returns c = kinds_are_apart
