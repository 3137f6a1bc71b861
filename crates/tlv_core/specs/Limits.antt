-- What a caller allows a document.
use Rattle.std.specs.Prelude.{ℕ, ◌≤◌, refl}
use Rattle.std.specs.Coded.{Coded, code_by, coded×, coded_ℕ}

-- The greatest depth of nesting, the outermost element being at depth 1, and the greatest number of octets.
pub record Limits : Type 0 where
  pub depth : ℕ
  pub octets : ℕ

pub record IsLimits (limits : Limits) : Type 0 where
  pub some_depth : 1 ≤ limits.depth
  pub most_depth : limits.depth ≤ 64
  pub some_octets : 1 ≤ limits.octets
  pub most_octets : limits.octets ≤ 2147483647

abbrev pub limits_code : Coded Limits
limits_code =
    code_by (ℕ × ℕ) (coded× coded_ℕ coded_ℕ) (λ limits. (limits.depth, limits.octets))
    (λ pair. record { depth = pair.0; octets = pair.1 }) (λ _. refl)
