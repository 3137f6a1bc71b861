-- What two documents are to each other, as it is written.
use Rattle.std.specs.Prelude.{List, Option, length, map, ℕ, ◌++◌, ◌-◌, ◌≡◌}
use Rattle.json.specs.Print.{print}
use Rattle.tlv_core.specs.Limits.{Limits}
use Rattle.tlv_core.specs.declared.fault.Fault.{Fault}
use Rattle.pk_documents.specs.KindRows.{word_of}
use Rattle.pk_documents.specs.Kinds.{type_of}
use Rattle.pk_documents.specs.declared.kind.Kind.{Kind}
use Rattle.explain.specs.Reports.{IsReportOf}
use Rattle.explain.specs.Written.{version}
use Rattle.explain.specs.declared.profile.Profile.TheVariants.{General}
use Rattle.reports.specs.Picks.{first_ones}
use Rattle.reports.specs.Texts.{line_feed}
use Rattle.reports.specs.declared.report.Line.{Line}
use Rattle.reports.specs.declared.report.Report.{Report}
use Rattle.comparison.specs.Json.{another_object, refused_object, same_object}
use Rattle.comparison.specs.Sameness.{IsAccepted, IsSameness}
use Rattle.comparison.specs.Texts.{another_text, refused_text, same_line}
use Rattle.comparison.specs.DifferenceWords.{DifferenceWords, said_of}
use Rattle.comparison.specs.DifferenceLists.{differences}
use Rattle.comparison.specs.declared.same.Style.{Style}
use Rattle.comparison.specs.declared.same.Style.TheVariants.{Json, Text}
use Rattle.comparison.specs.declared.sameness.Sameness.{Sameness}
use Rattle.comparison.specs.declared.sameness.Sameness.TheVariants.{Another, Refused, Same}

abbrev pub same_written : Style → List ℕ → List ℕ → List ℕ → List ℕ → List ℕ
same_written Text program kind name other_name = same_line
same_written Json program kind name other_name = print (same_object program kind name other_name) ++ line_feed

abbrev pub refused_written : Style → List ℕ → List ℕ → List ℕ → List ℕ → Option Fault → Option Fault → List ℕ
refused_written Text program kind name other_name fault other = refused_text name other_name fault other
refused_written Json program kind name other_name fault other =
    print (refused_object program kind name other_name fault other) ++ line_feed

abbrev pub another_written : Style → List ℕ → List ℕ → List ℕ → List ℕ → List DifferenceWords → ℕ → List ℕ
another_written Text program kind name other_name words more = another_text name other_name words more
another_written Json program kind name other_name words more =
    print (another_object program kind name other_name words more) ++ line_feed

-- what is shown of the first 16 elements that differ, and how many more do, by all lines of both documents
abbrev pub AreTheFirst : List ℕ → List ℕ → List ℕ → List Line → List Line → List DifferenceWords → ℕ → Type 0
AreTheFirst root encoding other lines others words more =
    (words ≡ map (said_of root lines others) (first_ones 16 (differences encoding other lines others)))
    × (more ≡ length (differences encoding other lines others) - 16)

-- The words are of the elements that differ by the reports of these two DER encodings.
pub record AreShown (limits : Limits) (kind : Kind) (encoding other : List ℕ) (words : List DifferenceWords) (more : ℕ)
    : Type 0 where
  pub report : Report
  pub other_report : Report
  pub reported : IsReportOf General limits kind encoding report
  pub other_reported : IsReportOf General limits kind other other_report
  pub first : AreTheFirst report.kind.type_name.now encoding other report.lines.items other_report.lines.items words
      more

-- A text of two DER encodings that aren't equal.
abbrev pub IsShown : Style → Limits → Kind → List ℕ → List ℕ → List ℕ → List ℕ → List ℕ → List ℕ → List ℕ → Type 0
IsShown form limits kind program word name other_name encoding other text =
    (words : List DifferenceWords) × (more : ℕ) × AreShown limits kind encoding other words more
    × (text ≡ another_written form program word name other_name words more)

-- The text and the answer for two documents by their DER encodings.
abbrev pub IsCompared : Style → Limits → Kind → List ℕ → List ℕ → List ℕ → List ℕ → List ℕ → List ℕ → List ℕ → Sameness
    → Type 0
IsCompared form limits kind program word name other_name encoding other text Same =
    (encoding ≡ other) × (text ≡ same_written form program word name other_name)
IsCompared form limits kind program word name other_name encoding other text Another =
    (encoding ≡ other → ⊥) × IsShown form limits kind program word name other_name encoding other text
IsCompared form limits kind program word name other_name encoding other text (Refused fault fault') = ⊥

-- The text that goes with an answer.
abbrev pub IsText : Style → Limits → Kind → List ℕ → List ℕ → List ℕ → List ℕ → List ℕ → Sameness → Type 0
IsText form limits kind name other_name first second text Same =
    text ≡ same_written form version (word_of kind) name other_name
IsText form limits kind name other_name first second text Another =
    (encoding : List ℕ) × (other : List ℕ)
    × IsAccepted limits (type_of kind) first encoding
    × IsAccepted limits (type_of kind) second other
    × IsShown form limits kind version (word_of kind) name other_name encoding other text
IsText form limits kind name other_name first second text (Refused fault other) =
    text ≡ refused_written form version (word_of kind) name other_name fault other

-- The answer is what the two are to each other; the text says it, and of two that aren't the same what differs between
-- their DER encodings.
abbrev pub IsWritten : Style → Limits → Kind → List ℕ → List ℕ → List ℕ → List ℕ → List ℕ → Sameness → Type 0
IsWritten form limits kind name other_name first second text sameness =
    IsSameness limits (type_of kind) first second sameness
    × IsText form limits kind name other_name first second text sameness
