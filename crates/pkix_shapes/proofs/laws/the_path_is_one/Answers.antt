use Rattle.pkix_shapes.proofs.OnePath.{one_path}
use Rattle.pkix_shapes.proofs.laws.the_path_is_one.Goals as goal

pub returns : goal.returns
returns c = one_path
