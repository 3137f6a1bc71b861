-- A value that stands in DER in octets at hand.
use Rattle.std.specs.Prelude.{List, length, take, ℕ, ◌≡◌, ◌≤◌}
use Rattle.tlv_core.specs.Limits.{Limits}
use Rattle.x690.specs.DerTexts.{der}
use Rattle.x690.specs.Fitting.{Spells}
use Rattle.x690.specs.TypeTerms.{TypeTerm}
use Rattle.x690.specs.Values.{Value}

-- The first octets, so many, are the DER text of a value, within the limits.
pub record StandsAtHand (limits : Limits) (type : TypeTerm) (octets : List ℕ) (taken : ℕ) : Type 0 where
  pub value : Value
  pub within : taken ≤ length octets
  pub text : take taken octets ≡ der value
  pub many : length (der value) ≡ taken
  pub spells : Spells limits type value (der value)
