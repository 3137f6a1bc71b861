-- The rules of the types give reasons of their own.
use Rattle.std.specs.Prelude.{[], ◌∷◌}
use Rattle.pkix_definitions.specs.DocumentTypes.{AlgorithmIdentifier, SubjectPublicKeyInfo}
use Rattle.x690.specs.Premises.{Honest, HonestRule}
use Rattle.pkix_definitions.specs.Rules.{key_bits_rule, parameters_rule}
use Rattle.pkix_definitions.proofs.LawfulTypes.{algorithm, public_key_info}

pub honest_parameters : HonestRule parameters_rule
unfolding Honest AlgorithmIdentifier
honest_parameters = algorithm.honest.0

pub honest_key_bits : HonestRule (key_bits_rule (0 ∷ 0 ∷ []))
unfolding Honest SubjectPublicKeyInfo
honest_key_bits = public_key_info.honest.1.0.0
