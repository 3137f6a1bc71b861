use Rattle.x690_laws.proofs.GrowthBounds.{growth_by_half}
use Rattle.x690_laws.proofs.growth.the_text_is_at_most_half_as_long_again.Goals as goal

pub returns : goal.returns
returns c = growth_by_half
