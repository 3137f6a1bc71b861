use Rattle.x690_laws.proofs.LengthsOfReadTexts.{taken_texts}
use Rattle.x690_laws.proofs.growth.what_is_taken_has_a_short_text.Goals as goal

pub returns : goal.returns
returns c = taken_texts
