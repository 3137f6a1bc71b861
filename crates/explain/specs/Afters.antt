-- What the octets after a refused document are, as far as a report shows it.
use Rattle.std.specs.Prelude.{Bool, List, Some, [], cond, drop, false, is_none, not, true, ℕ, ◌&&◌, ◌==◌, ◌∷◌, ◌≡◌}
use Rattle.std.specs.List.{list_all}
use Rattle.tlv_core.specs.Limits.{Limits}
use Rattle.tlv_core.specs.declared.fault.Fault.{Fault}
use Rattle.tlv_core.specs.declared.reason.Reason.{Reason}
use Rattle.tlv_core.specs.declared.reason.Reason.TheVariants as reasons
use Rattle.pk_documents.specs.KindRows.{may_be_private}
use Rattle.pk_documents.specs.declared.kind.Kind.{Kind}
use Rattle.explain.specs.Guesses.{BeginsAs, IsDocument, IsOtherDocument}
use Rattle.reports.specs.declared.report.After.{After}
use Rattle.reports.specs.declared.report.After.TheVariants as afters
use Rattle.reports.specs.declared.report.Answer.{Answer}
use Rattle.reports.specs.declared.report.Answer.TheVariants.{Der, NotDer, Refused}
use Rattle.reports.specs.declared.report.Guess.{Guess}

abbrev pub is_line_feed : List ℕ → Bool
is_line_feed [] = false
is_line_feed (a ∷ []) = a == 10
is_line_feed (a ∷ b ∷ octets) = false

abbrev pub is_cr_lf : List ℕ → Bool
is_cr_lf [] = false
is_cr_lf (a ∷ []) = false
is_cr_lf (a ∷ b ∷ []) = (a == 13) && (b == 10)
is_cr_lf (a ∷ b ∷ c ∷ octets) = false

abbrev pub is_zero : ℕ → Bool
is_zero octet = octet == 0

-- all that is shown of octets after a document that may be private
abbrev pub plain_after : List ℕ → After
plain_after octets =
    cond (is_line_feed octets) afters.LineFeed
    (cond (is_cr_lf octets) afters.CrLf (cond (list_all is_zero octets) afters.Zeros afters.NotShown))

abbrev pub is_not_shown : After → Bool
is_not_shown afters.NotShown = true
is_not_shown after = false

-- They are others, after a document of a kind that has no private key: what document they are is shown.
abbrev pub is_document_shown : Kind → List ℕ → Bool
is_document_shown kind octets = not (may_be_private kind) && is_not_shown (plain_after octets)

abbrev pub IsOwnOrOther : Bool → Limits → Kind → List ℕ → Guess → Type 0
IsOwnOrOther true limits kind octets guess = IsDocument limits octets (Some kind) guess
IsOwnOrOther false limits kind octets guess = IsOtherDocument limits kind octets guess

-- the document that octets are: of this kind, or another one
abbrev pub IsAnyDocument : Limits → Kind → List ℕ → Guess → Type 0
IsAnyDocument limits kind octets guess =
    (own : Bool) × BeginsAs limits octets kind own × IsOwnOrOther own limits kind octets guess

-- what the octets after a document of this kind are
abbrev pub IsAfterBy : Limits → Kind → List ℕ → After → Type 0
IsAfterBy limits kind octets after =
    elim (is_document_shown kind octets) [
      | true ↦ (guess : Guess) × IsAnyDocument limits kind octets guess × (after ≡ afters.Document guess)
      | false ↦ after ≡ plain_after octets
    ]

abbrev pub is_trailing : Reason → Bool
is_trailing reasons.Trailing = true
is_trailing why = false

-- the fault is that octets come after the document, and not after one inside it
abbrev pub is_after_end : Fault → Bool
is_after_end fault = is_none fault.inside && is_trailing fault.why

-- what the octets after a document are, by the answer to it
abbrev pub IsAfter : Limits → Kind → List ℕ → Answer → After → Type 0
IsAfter limits kind document Der after = after ≡ afters.Unsaid
IsAfter limits kind document (NotDer place) after = after ≡ afters.Unsaid
IsAfter limits kind document (Refused fault) after =
    elim (is_after_end fault) [
      | true ↦ IsAfterBy limits kind (drop fault.at document) after
      | false ↦ after ≡ afters.Unsaid
    ]
