use Rattle.x690_laws.proofs.LayoutsApart.{prefix}
use Rattle.x690_laws.proofs.layouts.no_layout_begins_another.Goals as goal

pub returns : goal.returns
returns c = prefix
