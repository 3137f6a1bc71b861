use Rattle.pkix_definitions.proofs.LawfulTypes.{documents_are_lawful}
use Rattle.pkix_definitions.proofs.documents.documents_are_lawful.Goals as goal

pub returns : goal.returns
returns c = documents_are_lawful
