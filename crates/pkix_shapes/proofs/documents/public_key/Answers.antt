use Rattle.std.proofs.Common.{refl}
use Rattle.pkix_definitions.specs.DocumentTypes.{AlgorithmIdentifier, SubjectPublicKeyInfo}
use Rattle.pkix_shapes.proofs.documents.public_key.Goals as goal

pub returns-clause-type_term : goal.returns-clause-type_term
unfolding SubjectPublicKeyInfo AlgorithmIdentifier
returns-clause-type_term c = refl
