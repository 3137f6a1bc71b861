use Rattle.x690_laws.proofs.TextsSpell.{text_spells}
use Rattle.x690_laws.proofs.types.the_text_spells_the_value.Goals as goal

pub returns : goal.returns
returns c = text_spells
