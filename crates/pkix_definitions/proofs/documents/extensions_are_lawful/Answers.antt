use Rattle.pkix_definitions.proofs.LawfulExtensions.{extensions_are_lawful}
use Rattle.pkix_definitions.proofs.documents.extensions_are_lawful.Goals as goal

pub returns : goal.returns
returns c = extensions_are_lawful
