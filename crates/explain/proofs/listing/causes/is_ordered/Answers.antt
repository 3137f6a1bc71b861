use Rattle.explain.proofs.Ordered.{after_none}
use Rattle.explain.proofs.listing.causes.is_ordered.Goals as goal

pub loop-left-init : goal.loop-left-init
loop-left-init c = after_none _
