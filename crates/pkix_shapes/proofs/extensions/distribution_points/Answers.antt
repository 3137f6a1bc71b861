use Rattle.std.proofs.Common.{refl}
use Rattle.pkix_definitions.specs.DocumentTypes.{Name, NameItem}
use Rattle.pkix_definitions.specs.ExtensionTypes.{GeneralName}
use Rattle.pkix_shapes.proofs.extensions.distribution_points.Goals as goal

pub returns-clause-type_term : goal.returns-clause-type_term
unfolding GeneralName Name NameItem
returns-clause-type_term c = refl
