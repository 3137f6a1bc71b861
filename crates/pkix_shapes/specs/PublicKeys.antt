-- The types of what public keys contain, by their algorithms.
use Rattle.std.specs.Prelude.{List, None, Option, Some, [], cond, ℕ, ◌∷◌}
use Rattle.x690.specs.Lists.{one_of}
use Rattle.x690.specs.TypeTerms.{TypeTerm}
use Rattle.pkix_definitions.specs.Identifiers.{rsa_encryption}
use Rattle.pkix_definitions.specs.ParameterTypes.{RSAPublicKey}

-- id-RSASSA-PSS, 1.2.840.113549.1.1.10
abbrev pub rsassa_pss : List ℕ
rsassa_pss = 0x2A ∷ 0x86 ∷ 0x48 ∷ 0x86 ∷ 0xF7 ∷ 0x0D ∷ 0x01 ∷ 0x01 ∷ 0x0A ∷ []

-- an RSAPublicKey under rsaEncryption (RFC 3279 section 2.3.1) and id-RSASSA-PSS (RFC 4055 section 1.2); of another
-- algorithm none
abbrev pub type_of_public_key : List ℕ → Option TypeTerm
type_of_public_key algorithm = cond (one_of algorithm (rsa_encryption ∷ rsassa_pss ∷ [])) (Some RSAPublicKey) None
