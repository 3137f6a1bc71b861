-- A report as it is written.
use Rattle.std.specs.Prelude.{◌≡◌, ◌++◌, ℕ, List, None, Option, codes, cond}
use Rattle.json.specs.Print.{print}
use Rattle.tlv_core.specs.Limits.{Limits}
use Rattle.pk_documents.specs.declared.kind.Kind.{Kind}
use Rattle.reports.specs.Briefs.{brief_line}
use Rattle.reports.specs.Field.{field_said}
use Rattle.reports.specs.Json.{report_object}
use Rattle.reports.specs.Reports.{report_lines}
use Rattle.reports.specs.Texts.{line_feed}
use Rattle.reports.specs.declared.report.Answer.{Answer}
use Rattle.reports.specs.declared.report.Report.{Report}
use Rattle.explain.specs.Reports.{IsReportOf}
use Rattle.explain.specs.declared.profile.Profile.TheVariants.{General}
use Rattle.explain.specs.declared.written.Form.{Form}

-- the version, and the logic that the proofs are for
abbrev pub version : List ℕ
version = codes "1.1.0, for logic dac8208d650f15bf"

-- As many places that aren't in DER are shown, where nothing else is asked for
abbrev pub places_shown : ℕ
places_shown = 100

-- a report in this form, of the file of this name
abbrev pub written_text : Form → Option (List ℕ) → Report → List ℕ
written_text form file report =
    cond form.json (print (report_object report version file form.all form.places) ++ line_feed)
    (cond form.brief (brief_line report) (report_lines report form.all form.places))

-- The text is the report of these octets, and the answer the one in it.
abbrev pub IsWritten : Form → Limits → Kind → List ℕ → List ℕ → Answer → Type 0
IsWritten form limits kind octets text answer =
    (report : Report)
    × IsReportOf form.profile limits kind octets report
    × (answer ≡ report.answer)
    × (text ≡ written_text form None report)

-- The text is the path of the field that the report of these octets is about, and the answer the one in it.
abbrev pub IsFieldOf : Limits → Kind → List ℕ → List ℕ → Answer → Type 0
IsFieldOf limits kind octets text answer =
    (report : Report)
    × IsReportOf General limits kind octets report
    × (answer ≡ report.answer)
    × (text ≡ field_said report)
