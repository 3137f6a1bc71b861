use Rattle.x690_laws.proofs.TextsSpell.{one_text_of_trees}
use Rattle.x690_laws.proofs.types.one_text_is_one_value_of_trees.Goals as goal

pub returns : goal.returns
returns c = one_text_of_trees
