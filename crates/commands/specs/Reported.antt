-- What is written of a report, and how a run ends that writes it.
use Rattle.std.specs.Prelude.{Bool, List, None, Option, Some, [], codes, cond, false, length, not, true, ℕ, ◌++◌, ◌&&◌, ◌==◌, ◌||◌, ◌≡◌}
use Rattle.json.specs.Print.{print}
use Rattle.json.specs.Token.{Token}
use Rattle.tlv_core.specs.Limits.{Limits}
use Rattle.tlv_core.specs.declared.fault.ReadError.{ReadError}
use Rattle.tlv_core.specs.declared.fault.ReadError.TheVariants.{Fault as FaultRead, Read as ReadAt, Memory as MemoryRead}
use Rattle.pk_documents.specs.Kinds.{type_of}
use Rattle.pk_documents.specs.declared.kind.Kind.{Kind}
use Rattle.explain.specs.Answers.{IsRefused}
use Rattle.explain.specs.Notes.{has_most_notes}
use Rattle.explain.specs.Reports.{IsReportOf}
use Rattle.explain.specs.Rules.{is_refusal}
use Rattle.explain.specs.Written.{places_shown, version, written_text}
use Rattle.explain.specs.declared.profile.Profile.{Profile}
use Rattle.explain.specs.declared.profile.Profile.TheVariants.{General}
use Rattle.reports.specs.Json.{check_object, noted_object}
use Rattle.reports.specs.JsonMembers.{number_member, object, text_member}
use Rattle.reports.specs.Notes.{has_must, notes_text}
use Rattle.reports.specs.declared.report.Answer.{Answer}
use Rattle.reports.specs.declared.report.Answer.TheVariants as answers
use Rattle.reports.specs.declared.report.Note.{Note}
use Rattle.reports.specs.declared.report.Report.{Report}
use Rattle.commands.specs.Outcomes.{line_feed, said_verdict}
use Rattle.commands.specs.declared.outcome.Outcome.{Outcome}
use Rattle.commands.specs.declared.outcome.Outcome.TheVariants.{Done, Explained as ExplainedFault, NotDer, Noted}
use Rattle.commands.specs.declared.task.Noting.{Noting}
use Rattle.commands.specs.declared.task.Refuse.{Refuse}
use Rattle.commands.specs.declared.task.Refuse.TheVariants.{Must, Nothing}

abbrev pub is_der : Answer → Bool
is_der answers.Der = true
is_der (answers.NotDer at) = false
is_der (answers.Refused found) = false

-- what `check` writes of a report in JSON, with so many places, of the file of this name; quiet, nothing of what is in
-- DER
abbrev pub check_text : Bool → ℕ → Option (List ℕ) → Report → List ℕ
check_text quiet places file report =
    cond (quiet && is_der report.answer) [] (print (check_object report version file places) ++ line_feed)

-- how explaining ends, by what checking answers
abbrev pub explained_outcome : Answer → Outcome
explained_outcome answers.Der = Done
explained_outcome (answers.NotDer at) = NotDer at
explained_outcome (answers.Refused found) = ExplainedFault found

-- The text is due that the report of these octets has, with the notes of a profile.
abbrev pub DueOfReport : (Report → List ℕ) → Profile → Limits → Kind → List ℕ → Outcome → List ℕ → Type 0
DueOfReport text_of profile limits kind octets outcome text =
    (report : Report)
    × IsReportOf profile limits kind octets report
    × (outcome ≡ explained_outcome report.answer)
    × (text ≡ text_of report)

-- ---- with notes

-- the place where a document that isn't refused isn't in DER
abbrev pub place_of : Answer → Option ℕ
place_of answers.Der = None
place_of (answers.NotDer at) = Some at
place_of (answers.Refused found) = None

-- what `check` says with notes of a document that isn't refused: the same as without them, and a line for each
abbrev pub noted_lines : Bool → Report → List ℕ
noted_lines quiet report = said_verdict quiet (place_of report.answer) ++ notes_text report

-- the same in JSON, of the file of this name; quiet, nothing of what is in DER without a note
abbrev pub noted_text : Noting → Option (List ℕ) → Report → List ℕ
noted_text noting file report =
    cond (noting.quiet && is_der report.answer && length report.notes.items == 0) []
    (print (noted_object report version file noting.places) ++ line_feed)

-- one of the notes is one that no document is to have, or may be one of those that are left out
abbrev pub is_noted : Refuse → List Note → Bool
is_noted Nothing notes = false
is_noted Must notes = has_must notes || has_most_notes notes

-- how that ends: otherwise than a check without notes where a document that isn't refused has such a note
abbrev pub noted_outcome : Refuse → Report → Outcome
noted_outcome refuse report =
    cond (not (is_refusal report.answer) && is_noted refuse report.notes.items) Noted (explained_outcome report.answer)

-- The report of these octets is due in JSON, with notes.
abbrev pub DueOfNoted : Noting → Option (List ℕ) → Limits → Kind → List ℕ → Outcome → List ℕ → Type 0
DueOfNoted noting file limits kind octets outcome text =
    (report : Report)
    × IsReportOf noting.profile limits kind octets report
    × (outcome ≡ noted_outcome noting.refuse report)
    × (text ≡ noted_text noting file report)

-- These octets aren't refused, and the lines of a check with notes are due of their report.
abbrev pub DueOfNotedLines : Noting → Limits → Kind → List ℕ → Outcome → List ℕ → Type 0
DueOfNotedLines noting limits kind octets outcome text =
    (report : Report)
    × IsReportOf noting.profile limits kind octets report
    × (is_refusal report.answer ≡ false)
    × (outcome ≡ noted_outcome noting.refuse report)
    × (text ≡ noted_lines noting.quiet report)

-- ---- shown

-- These octets aren't refused, and their report is due, with all elements.
abbrev pub DueOfShownReport : Option (List ℕ) → Limits → Kind → List ℕ → Outcome → List ℕ → Type 0
DueOfShownReport file limits kind octets outcome text =
    (report : Report)
    × IsReportOf General limits kind octets report
    × (is_refusal report.answer ≡ false)
    × (outcome ≡ Done)
    × (text
    ≡ written_text (record { json = true; brief = false; all = true; places = places_shown; profile = General }) file
    report)

-- why no report of these octets is due: they are refused, or memory ran out
abbrev pub Unreported : Limits → Kind → List ℕ → ReadError → Type 0
Unreported limits kind octets (FaultRead found) = IsRefused limits (type_of kind) octets found
Unreported limits kind octets (ReadAt at) = ⊥
Unreported limits kind octets MemoryRead = Unit {0}

-- why no report of a file is shown, as JSON
abbrev pub error_object : List ℕ → ℕ → List ℕ → List Token
error_object file status error =
    object (number_member (codes "form") 1 ++ text_member (codes "version") version
    ++ text_member (codes "file") file ++ number_member (codes "status") status
    ++ text_member (codes "error") error)

abbrev pub error_line : List ℕ → ℕ → List ℕ → List ℕ
error_line file status error = print (error_object file status error) ++ line_feed
