-- What two documents are to each other.
use Rattle.std.specs.Prelude.{List, None, Option, Some, [], is_some, true, ℕ, ◌||◌, ◌↔◌, ◌≡◌}
use Rattle.tlv_core.specs.Limits.{Limits}
use Rattle.tlv_core.specs.declared.fault.Fault.{Fault}
use Rattle.x690.specs.DerTexts.{der}
use Rattle.x690.specs.Fitting.{Spells}
use Rattle.x690.specs.TypeTerms.{TypeTerm}
use Rattle.x690.specs.Values.{Same as SameValue, Value}
use Rattle.pk_documents.specs.Encodings.{octets_of}
use Rattle.explain.specs.Answers.{IsRefused}
use Rattle.comparison.specs.declared.reading.DocumentReading.{DocumentReading}
use Rattle.comparison.specs.declared.reading.DocumentReading.TheVariants.{Accepted, Refused as RefusedReading}
use Rattle.comparison.specs.declared.sameness.Sameness.{Sameness}
use Rattle.comparison.specs.declared.sameness.Sameness.TheVariants.{Another, Refused, Same}

-- All of the octets are one document, and this is its DER encoding, which other documents share exactly where they are
-- the same.
pub record IsAccepted (limits : Limits) (type : TypeTerm) (octets encoding : List ℕ) : Type 0 where
  pub value : Value
  pub spells : Spells limits type value octets
  pub encoded : encoding ≡ der value
  pub same : (limits' : Limits) (other : Value) (input : List ℕ) → Spells limits' type other input
      → (der other ≡ der value) ↔ SameValue other value

abbrev pub IsReading : Limits → TypeTerm → List ℕ → DocumentReading → Type 0
IsReading limits type octets (Accepted encoding) = IsAccepted limits type octets (octets_of encoding)
IsReading limits type octets (RefusedReading fault) = IsRefused limits type octets fault

-- why octets that were read are refused, if they are, and the DER encoding of those that are a document
abbrev pub fault_of : DocumentReading → Option Fault
fault_of (Accepted encoding) = None
fault_of (RefusedReading fault) = Some fault

abbrev pub encoding_of : DocumentReading → List ℕ
encoding_of (Accepted encoding) = octets_of encoding
encoding_of (RefusedReading fault) = []

-- The octets are one document; or they are none, and have this fault.
abbrev pub IsJudged : Limits → TypeTerm → List ℕ → Option Fault → Type 0
IsJudged limits type octets None = (value : Value) × Spells limits type value octets
IsJudged limits type octets (Some fault) = IsRefused limits type octets fault

-- Both are documents, whose values are the same, and their DER encodings equal.
pub record AreSame (limits : Limits) (type : TypeTerm) (first second : List ℕ) : Type 0 where
  pub value : Value
  pub other : Value
  pub spells : Spells limits type value first
  pub other_spells : Spells limits type other second
  pub same : SameValue value other
  pub encodings : der value ≡ der other

-- Both are documents, whose values are not the same, and their DER encodings not equal.
pub record AreApart (limits : Limits) (type : TypeTerm) (first second : List ℕ) : Type 0 where
  pub value : Value
  pub other : Value
  pub spells : Spells limits type value first
  pub other_spells : Spells limits type other second
  pub apart : SameValue value other → ⊥
  pub encodings : der value ≡ der other → ⊥

-- One of them is refused, or both; then they are never the same.
pub record AreRefused (limits : Limits) (type : TypeTerm) (first second : List ℕ) (fault other : Option Fault)
    : Type 0 where
  pub judged : IsJudged limits type first fault
  pub other_judged : IsJudged limits type second other
  pub some : (is_some fault || is_some other) ≡ true

abbrev pub IsSameness : Limits → TypeTerm → List ℕ → List ℕ → Sameness → Type 0
IsSameness limits type first second Same = AreSame limits type first second
IsSameness limits type first second Another = AreApart limits type first second
IsSameness limits type first second (Refused fault other) = AreRefused limits type first second fault other
