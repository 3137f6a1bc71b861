-- What the law on the types of extensions and parameters says.
use Rattle.std.specs.Prelude.{List, [], ℕ, ◌∷◌}
use Rattle.x690.specs.Premises.{Lawful}
use Rattle.x690.specs.TypeTerms.{TypeTerm}
use Rattle.pkix_definitions.specs.ExtensionTypes.{certificate_extensions, other_extensions}
use Rattle.pkix_definitions.specs.ParameterTypes.{PBES2-params, PBKDF2-params, RSAPublicKey, RSASSA-PSS-params, scrypt-params}

-- each type of a table
abbrev pub AreLawful : List (List ℕ × TypeTerm) → Type 0
AreLawful [] = Unit {0}
AreLawful (row ∷ rows) = Lawful row.1 × AreLawful rows

pub record ExtensionsAreLawful : Type 0 where
  pub certificate : AreLawful certificate_extensions
  pub other : AreLawful other_extensions
  pub rsa_public_key : Lawful RSAPublicKey
  pub pss : Lawful RSASSA-PSS-params
  pub pbes2 : Lawful PBES2-params
  pub pbkdf2 : Lawful PBKDF2-params
  pub scrypt : Lawful scrypt-params
