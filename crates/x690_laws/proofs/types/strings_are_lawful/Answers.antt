use Rattle.x690_laws.proofs.TypesOfStrings.{strings_are_lawful}
use Rattle.x690_laws.proofs.types.strings_are_lawful.Goals as goal

pub returns : goal.returns
returns c = strings_are_lawful
