use Rattle.x690_laws.proofs.LengthsOfReadTexts.{read_texts}
use Rattle.x690_laws.proofs.growth.what_is_read_has_a_short_text.Goals as goal

pub returns : goal.returns
returns c = read_texts
