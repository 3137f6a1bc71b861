-- What normalising a value of a type does. Octets are told before the call and after it, where the source
-- or the target tells them.
use Rattle.std.specs.Prelude.{◌≡◌, ◌↔◌, ◌≤◌, ℕ, Bool, List, ◌++◌, MatchResult, None, Option, Result, Some, false, length, take, true}
use Rattle.std.specs.Io.KnownBytes.{Appends, Consumes}
use Rattle.tlv_core.specs.Limits.{Limits}
use Rattle.tlv_core.specs.Faults.{InsideMatches}
use Rattle.tlv_core.specs.declared.fault.ReadError.{ReadError}
use Rattle.tlv_core.specs.declared.fault.ReadError.TheVariants as errors
use Rattle.x690.specs.Values.{Value, Same}
use Rattle.x690.specs.DerTexts.{der}
use Rattle.x690.specs.Fitting.{Spells}
use Rattle.x690.specs.TypeTerms.{TypeTerm}
use Rattle.asn_elements.specs.Whole.{IsFailedRead}
use Rattle.asn_documents.specs.ReadValues.{StopsReading}
use Rattle.asn_documents.specs.declared.normalise.NormaliseError.{NormaliseError}
use Rattle.asn_documents.specs.declared.normalise.NormaliseError.TheVariants.{Read, Write}

-- The octets that spell the value were taken, the first ones that were told.
pub record Took (limits : Limits) (type : TypeTerm) (value : Value) (before after : Option (List ℕ))
    (taken : ℕ) : Type 0 where
  pub octets : List ℕ
  pub takes : Consumes before after octets
  pub taken_are : taken ≡ length octets
  pub spells : Spells limits type value octets
  -- whatever stands after them, nothing else that begins there is a spelling, and they say no other value
  pub one : (other : Value) (behind more rest : List ℕ) → octets ++ behind ≡ more ++ rest
      → Spells limits type other more → (more ≡ octets) × Same other value

-- A value was taken, `taken` octets, and its text appended, `written` octets.
pub record NormalisedAs (limits : Limits) (type : TypeTerm) (value : Value) (before after old new : Option (List ℕ))
    (taken written : ℕ) : Type 0 where
  pub took : Took limits type value before after taken
  -- its DER text is written
  pub writes : Appends old new (der value)
  pub written_are : written ≡ length (der value)
  -- which reads back as it
  pub reads_back : Spells limits type value (der value)
  -- and nothing else: normalising the text takes all of it and writes it again
  pub again : (other : Value) (behind more rest : List ℕ) → der value ++ behind ≡ more ++ rest
      → Spells limits type other more → (more ≡ der value) × (der other ≡ der value)
  -- texts of two inputs are equal exactly where their values are the same, whatever the limits
  pub same : (limits' : Limits) (other : Value) (input : List ℕ) → Spells limits' type other input
      → (der other ≡ der value) ↔ Same other value

-- A value was taken, and the first octets of its text are out, so many.
pub record WrittenInPart (limits : Limits) (type : TypeTerm) (value : Value) (before after old new : Option (List ℕ))
    (written : ℕ) : Type 0 where
  pub taken : ℕ
  pub took : Took limits type value before after taken
  pub within : written ≤ length (der value)
  pub writes : Appends old new (take written (der value))

-- Nothing that the octets begin with spells a value.
abbrev pub Unspelled : Limits → TypeTerm → List ℕ → Type 0
Unspelled limits type before =
    (value : Value) (octets rest : List ℕ) → before ≡ octets ++ rest → Spells limits type value octets → ⊥

-- A fault says that nothing that was told spells a value; what is inside it is there exactly where its reason is Inner,
-- also where the source doesn't tell its octets.
abbrev pub Unread : Limits → TypeTerm → ReadError → Option (List ℕ) → Type 0
Unread limits type (errors.Fault found) None = InsideMatches found
Unread limits type (errors.Fault found) (Some before) = InsideMatches found × Unspelled limits type before
Unread limits type (errors.Read at) before = Unit {0}
Unread limits type errors.Memory before = Unit {0}

-- Why a value wasn't normalised: it wasn't read, or its text not written whole.
abbrev pub RefusedAs : Limits → TypeTerm → NormaliseError → Option (List ℕ) → Option (List ℕ) → Option (List ℕ)
    → Option (List ℕ) → Type 0
RefusedAs limits type (Read error) before after old new =
    StopsReading limits type error before after × Unread limits type error before
RefusedAs limits type (Write error) before after old new =
    (value : Value) × WrittenInPart limits type value before after old new error.written

abbrev pub IsRead : NormaliseError → Type 0
IsRead (Read error) = Unit {0}
IsRead (Write error) = ⊥

-- whether the source and the target have failed, by the error
abbrev pub FailedAs : NormaliseError → Bool → Bool → Type 0
FailedAs (Read error) source target = IsFailedRead source error × (target ≡ false)
FailedAs (Write error) source target = (source ≡ false) × (target ≡ true)

abbrev pub Failures : {A : Type 0} → Result A NormaliseError → Bool → Bool → Type 0
Failures result source target =
    MatchResult result (λ _. (source ≡ false) × (target ≡ false)) (λ error. FailedAs error source target)
