use Rattle.std.proofs.Common.{refl}
use Rattle.pkix_definitions.specs.DocumentTypes.{ECPrivateKey}
use Rattle.pkix_shapes.proofs.documents.ec_key.Goals as goal

pub returns-clause-type_term : goal.returns-clause-type_term
unfolding ECPrivateKey
returns-clause-type_term c = refl
