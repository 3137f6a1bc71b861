-- Types that don't look at the earlier fields of their container.
use Rattle.std.specs.Prelude.{List, refl, ℕ}
use Rattle.x690.specs.Contents.{Integer}
use Rattle.x690.specs.Layouts.{universal}
use Rattle.x690.specs.ReadTypes.{IsClosed}
use Rattle.x690_laws.proofs.TypesClosed.{leaf_closed, ruled_closed, sequence_closed, sequence_of_closed}
use Rattle.pkix_definitions.specs.DocumentTypes.{AlgorithmIdentifier, AsymmetricKeyPackage, ECPrivateKey, Name, OneAsymmetricKey, RSAPrivateKey, version}
use Rattle.pkix_definitions.specs.Rules.{ec_rule, key_version_rule, parameters_rule, rsa_version_rule, version_rule}

pub version_closed : (allowed : List (List ℕ)) → IsClosed (version allowed)
version_closed allowed = ruled_closed (version_rule allowed) _ (leaf_closed (universal 2) Integer) (λ earlier. refl)

pub name_closed : IsClosed Name
unfolding Name
name_closed = sequence_of_closed _ _ _

pub algorithm_closed : IsClosed AlgorithmIdentifier
unfolding AlgorithmIdentifier
algorithm_closed = ruled_closed parameters_rule _ (sequence_closed _ _) (λ earlier. refl)

pub ec_key_closed : IsClosed ECPrivateKey
unfolding ECPrivateKey
ec_key_closed = ruled_closed ec_rule _ (sequence_closed _ _) (λ earlier. refl)

pub rsa_key_closed : IsClosed RSAPrivateKey
unfolding RSAPrivateKey
rsa_key_closed = ruled_closed rsa_version_rule _ (sequence_closed _ _) (λ earlier. refl)

pub asymmetric_key_closed : IsClosed OneAsymmetricKey
unfolding OneAsymmetricKey
asymmetric_key_closed = ruled_closed key_version_rule _ (sequence_closed _ _) (λ earlier. refl)

pub key_package_closed : IsClosed AsymmetricKeyPackage
unfolding AsymmetricKeyPackage
key_package_closed = sequence_of_closed _ _ _
