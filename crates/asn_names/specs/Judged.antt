-- What octets are, as one element of a type and nothing else.
use Rattle.std.specs.Prelude.{List, MatchResult, Option, Result, [], false, true, ℕ, ◌++◌, ◌∷◌, ◌≡◌}
use Rattle.tlv_core.specs.Limits.{Limits}
use Rattle.tlv_core.specs.declared.fault.ReadError.{ReadError}
use Rattle.tlv_core.specs.declared.reason.Reason.TheVariants.{Trailing}
use Rattle.x690.specs.DerTexts.{der}
use Rattle.x690.specs.Lists.{same_octets}
use Rattle.x690.specs.Points.{fault, outermost}
use Rattle.x690.specs.ReadTypes.{read_document, read_element}
use Rattle.x690.specs.Reading.{Halted, Outcome, Took}
use Rattle.x690.specs.Reads.{Said}
use Rattle.x690.specs.TypeTerms.{TypeTerm}
use Rattle.x690.specs.Values.{Value}
use Rattle.ber_pull.specs.Hears.{Hears, heard_error}
use Rattle.asn_names.specs.declared.judgement.Judgement.{Judgement}
use Rattle.asn_names.specs.declared.judgement.Judgement.TheVariants.{Der, NotDer, Refused}

-- by what reading a document from their start comes to
abbrev pub judgement : List ℕ → Outcome Value → Judgement
judgement octets (Halted found) = Refused found
judgement octets (Took value taken []) = elim (same_octets (der value) octets) [ true ↦ Der | false ↦ NotDer ]
judgement octets (Took value taken (octet ∷ more)) = Refused (fault taken Trailing)

-- A value in DER, one that isn't, or none, by the first fault or the octets after the element.
abbrev pub judged : Limits → TypeTerm → List ℕ → Judgement
judged limits type octets = judgement octets (read_document limits type octets)

-- The element at the start of what was told was read, its text put after what stood there and so many octets taken; or
-- the error is what reading one comes to.
abbrev pub AnswersElement : Limits → TypeTerm → Option (List ℕ) → Option (List ℕ) → List ℕ → List ℕ → Result ℕ ReadError
    → Type 0
AnswersElement limits type told left before after result =
    MatchResult result
    (λ taken.
    (value : Value) × (after ≡ before ++ der value)
    × Hears (read_element limits type [] outermost) 0 told (Said value) taken left)
    (λ error. (taken : ℕ) × Hears (read_element limits type [] outermost) 0 told (heard_error error) taken left)
