-- What checking a value does.
use Rattle.std.specs.Prelude.{ℕ, List, None, Option, Some, ◌<◌, length}
use Rattle.tlv_core.specs.Limits.{Limits}
use Rattle.tlv_core.specs.declared.fault.ReadError.{ReadError}
use Rattle.x690.specs.DerTexts.{der}
use Rattle.x690.specs.TypeTerms.{TypeTerm}
use Rattle.x690.specs.Values.{Value}
use Rattle.asn_documents.specs.Differences.{Differs}
use Rattle.asn_documents.specs.Normalised.{Took, Unread}
use Rattle.asn_documents.specs.ReadValues.{StopsReading}

-- where the source tells its octets
abbrev pub WhereTold : Option (List ℕ) → Type 0 → Type 0
WhereTold None claim = Unit {0}
WhereTold (Some octets) claim = claim

-- a place is one of both, so neither ends there
abbrev pub InBoth : List ℕ → List ℕ → Option ℕ → Type 0
InBoth octets text None = Unit {0}
InBoth octets text (Some place) = (place < length octets) × (place < length text)

-- The octets of a value were taken, and where the source tells them, `place` is where they
-- differ first from its DER text.
pub record CheckedAs (limits : Limits) (type : TypeTerm) (value : Value) (before after : Option (List ℕ)) (taken : ℕ)
    (place : Option ℕ) : Type 0 where
  pub took : Took limits type value before after taken
  pub differs : WhereTold before (Differs took.octets (der value) place)
  pub in_both : WhereTold before (InBoth took.octets (der value) place)

-- Why none was checked: a fault says that nothing that was told spells a value.
abbrev pub Unchecked : Limits → TypeTerm → ReadError → Option (List ℕ) → Option (List ℕ) → Type 0
Unchecked limits type error before after = StopsReading limits type error before after × Unread limits type error before
