use Rattle.x690_laws.proofs.ValuesOfTrees.{one_value}
use Rattle.x690_laws.proofs.types.a_tree_says_one_value.Goals as goal

pub returns : goal.returns
returns c = one_value
