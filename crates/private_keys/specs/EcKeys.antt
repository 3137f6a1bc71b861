-- What clauses see of EC private keys.
use Rattle.std.specs.Prelude.{List, None, Option, Some, ℕ}
use Rattle.pkix_definitions.specs.DocumentTypes.{ECPrivateKey}
use Rattle.pkix_definitions.specs.Identifiers.{curve_lengths, entry_under}
use Rattle.x690.specs.Premises.{Honest, HonestRule}
use Rattle.pkix_definitions.specs.Rules.{ec_rule}
use Rattle.pkix_definitions.proofs.LawfulTypes.{ec_key}

-- the length of a private key on the curve that is named, if one is and it has one
abbrev pub named_length : Option (List ℕ) → Option ℕ
named_length None = None
named_length (Some curve) = entry_under curve_lengths curve

pub honest_ec : HonestRule ec_rule
unfolding Honest ECPrivateKey
honest_ec = ec_key.honest.0
