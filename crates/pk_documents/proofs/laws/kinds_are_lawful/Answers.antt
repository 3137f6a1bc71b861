use Rattle.pk_documents.proofs.LawfulKinds.{kinds_are_lawful}
use Rattle.pk_documents.proofs.laws.kinds_are_lawful.Goals as goal

pub returns : goal.returns
returns c = kinds_are_lawful
