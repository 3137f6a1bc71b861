use Rattle.std.proofs.Common.{refl}
use Rattle.pkix_definitions.specs.DocumentTypes.{AlgorithmIdentifier, EncryptedPrivateKeyInfo}
use Rattle.pkix_shapes.proofs.documents.encrypted_key.Goals as goal

pub returns-clause-type_term : goal.returns-clause-type_term
unfolding EncryptedPrivateKeyInfo AlgorithmIdentifier
returns-clause-type_term c = refl
