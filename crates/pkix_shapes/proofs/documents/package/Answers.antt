use Rattle.std.proofs.Common.{refl}
use Rattle.pkix_definitions.specs.DocumentTypes.{AlgorithmIdentifier, AsymmetricKeyPackage, Attribute, ECPrivateKey, OneAsymmetricKey, OtherPrimeInfo, RSAPrivateKey}
use Rattle.pkix_shapes.proofs.documents.package.Goals as goal

pub returns-clause-type_term : goal.returns-clause-type_term
unfolding AsymmetricKeyPackage OneAsymmetricKey AlgorithmIdentifier Attribute ECPrivateKey RSAPrivateKey OtherPrimeInfo
returns-clause-type_term c = refl
