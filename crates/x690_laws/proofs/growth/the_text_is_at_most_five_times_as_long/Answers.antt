use Rattle.x690_laws.proofs.GrowthBounds.{growth}
use Rattle.x690_laws.proofs.growth.the_text_is_at_most_five_times_as_long.Goals as goal

pub returns : goal.returns
returns c = growth
