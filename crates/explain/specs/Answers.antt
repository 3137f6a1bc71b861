-- What `check` answers to octets that have to be one document.
use Rattle.std.specs.Prelude.{List, None, Option, Some, ℕ, ◌⊎◌}
use Rattle.std.specs.Io.KnownBytes.{IsAtEnd}
use Rattle.tlv_core.specs.Limits.{Limits}
use Rattle.tlv_core.specs.declared.fault.Fault.{Fault}
use Rattle.tlv_core.specs.declared.fault.ReadError.TheVariants as errors
use Rattle.x690.specs.TypeTerms.{TypeTerm}
use Rattle.x690.specs.Values.{Value}
use Rattle.asn_documents.specs.Checked.{CheckedAs, Unchecked}
use Rattle.asn_documents.specs.WholeInputs.{Followed}
use Rattle.reports.specs.declared.report.Answer.{Answer}
use Rattle.reports.specs.declared.report.Answer.TheVariants.{Der, NotDer, Refused}

-- All of the octets are a value, and this is the first place where they differ from its DER text.
abbrev pub IsChecked : Limits → TypeTerm → List ℕ → Option ℕ → Type 0
IsChecked limits type octets place =
    (value : Value) × (after : Option (List ℕ)) × (taken : ℕ)
    × CheckedAs limits type value (Some octets) after taken place
    × IsAtEnd after

-- The octets begin with no value and have this fault, or octets follow one.
abbrev pub IsRefused : Limits → TypeTerm → List ℕ → Fault → Type 0
IsRefused limits type octets fault =
    (after : Option (List ℕ))
    × (Unchecked limits type (errors.Fault fault) (Some octets) after
    ⊎ Followed limits type (errors.Fault fault) (Some octets) after)

-- by the first place where a document isn't in DER
abbrev pub sound_at : Option ℕ → Answer
sound_at None = Der
sound_at (Some place) = NotDer place

abbrev pub IsAnswer : Limits → TypeTerm → List ℕ → Answer → Type 0
IsAnswer limits type octets Der = IsChecked limits type octets None
IsAnswer limits type octets (NotDer place) = IsChecked limits type octets (Some place)
IsAnswer limits type octets (Refused fault) = IsRefused limits type octets fault
