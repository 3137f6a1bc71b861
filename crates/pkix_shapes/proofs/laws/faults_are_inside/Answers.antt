use Rattle.pkix_shapes.proofs.Places.{faults_are_inside}
use Rattle.pkix_shapes.proofs.laws.faults_are_inside.Goals as goal

pub returns : goal.returns
returns c = faults_are_inside
