use Rattle.x690_laws.proofs.TextsSpell.{one_text}
use Rattle.x690_laws.proofs.types.one_text_is_one_value.Goals as goal

pub returns : goal.returns
returns c = one_text
