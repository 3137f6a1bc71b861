-- What reading and normalising a document does that has to be all of its input.
use Rattle.std.specs.Prelude.{◌≡◌, ℕ, List, [], ◌++◌, ◌⊎◌, MatchResult, Option, Result, length}
use Rattle.std.specs.Io.KnownBytes.{Consumes, IsAtEnd}
use Rattle.tlv_core.specs.Limits.{Limits}
use Rattle.tlv_core.specs.declared.fault.ReadError.{ReadError}
use Rattle.tlv_core.specs.declared.fault.ReadError.TheVariants as errors
use Rattle.tlv_core.specs.declared.reason.Reason.TheVariants.{Trailing}
use Rattle.x690.specs.Values.{Value}
use Rattle.x690.specs.Fitting.{Spells}
use Rattle.x690.specs.Points.{fault}
use Rattle.x690.specs.TypeTerms.{TypeTerm}
use Rattle.asn_documents.specs.ReadValues.{StopsReading}
use Rattle.asn_documents.specs.Normalised.{Unread, WrittenInPart}
use Rattle.asn_documents.specs.declared.normalise.NormaliseError.{NormaliseError}
use Rattle.asn_documents.specs.declared.normalise.NormaliseError.TheVariants.{Read, Write}

-- What stands after a spelling: an octet, which is a fault there; or it isn't known, since the source failed there.
abbrev pub EndsBadly : ReadError → List ℕ → ℕ → Type 0
EndsBadly (errors.Fault found) behind place = (length behind ≡ 1) × (found ≡ fault place Trailing)
EndsBadly (errors.Read at) behind place = (behind ≡ []) × (at ≡ place)
EndsBadly errors.Memory behind place = ⊥

-- The input ends there, or it doesn't.
abbrev pub EndsAfter : {A : Type 0} → ℕ → Option (List ℕ) → Option (List ℕ) → Result A ReadError → Type 0
EndsAfter place before after result =
    MatchResult result
    (λ _. Consumes before after [] × IsAtEnd after)
    (λ error. (behind : List ℕ) × Consumes before after behind × EndsBadly error behind place)

-- A value was taken, and the input doesn't end after it.
pub record Followed (limits : Limits) (type : TypeTerm) (error : ReadError)
    (before after : Option (List ℕ)) : Type 0 where
  pub value : Value
  pub octets : List ℕ
  pub behind : List ℕ
  pub takes : Consumes before after (octets ++ behind)
  pub spells : Spells limits type value octets
  pub ends_badly : EndsBadly error behind (length octets)

-- why no document was read that is all of the input
abbrev pub StopsWhole : Limits → TypeTerm → ReadError → Option (List ℕ) → Option (List ℕ) → Type 0
StopsWhole limits type error before after =
    StopsReading limits type error before after ⊎ Followed limits type error before after

-- why none was normalised
abbrev pub RefusedWhole : Limits → TypeTerm → NormaliseError → Option (List ℕ) → Option (List ℕ) → Option (List ℕ)
    → Option (List ℕ) → Type 0
RefusedWhole limits type (Read error) before after old new =
    (StopsReading limits type error before after × Unread limits type error before)
    ⊎ Followed limits type error before after
RefusedWhole limits type (Write error) before after old new =
    ((value : Value) × WrittenInPart limits type value before after old new error.written) × IsAtEnd after
