use Rattle.x690_laws.proofs.GrowthBounds.{growth_by_two}
use Rattle.x690_laws.proofs.growth.the_text_is_at_most_twice_as_long.Goals as goal

pub returns : goal.returns
returns c = growth_by_two
