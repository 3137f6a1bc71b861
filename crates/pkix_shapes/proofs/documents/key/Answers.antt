use Rattle.std.proofs.Common.{refl}
use Rattle.pkix_definitions.specs.DocumentTypes.{AlgorithmIdentifier, Attribute, ECPrivateKey, OneAsymmetricKey, OtherPrimeInfo, RSAPrivateKey}
use Rattle.pkix_shapes.proofs.documents.key.Goals as goal

pub returns-clause-type_term : goal.returns-clause-type_term
unfolding OneAsymmetricKey AlgorithmIdentifier Attribute ECPrivateKey RSAPrivateKey OtherPrimeInfo
returns-clause-type_term c = refl
