use Rattle.x690_laws.proofs.GrowthBounds.{half_is_reached}
use Rattle.x690_laws.proofs.growth.a_text_is_half_as_long_again.Goals as goal

pub returns : goal.returns
returns c = half_is_reached
