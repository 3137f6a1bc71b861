-- The field that a report is about.
use Rattle.std.specs.Prelude.{List, None, Option, Some, [], ℕ}
use Rattle.reports.specs.Paths.{path_text}
use Rattle.reports.specs.Picks.{first_cause, path_to_line}
use Rattle.reports.specs.declared.report.Answer.{Answer}
use Rattle.reports.specs.declared.report.Answer.TheVariants.{Der, NotDer, Refused}
use Rattle.reports.specs.declared.report.Diagnosis.{Diagnosis}
use Rattle.reports.specs.declared.report.Line.{Line}
use Rattle.reports.specs.declared.report.Report.{Report}

-- the path of the first element that isn't in DER
abbrev pub marked_path : List ℕ → List Line → List ℕ
marked_path root lines = path_text root (path_to_line lines (first_cause lines))

-- the path of the field that is refused; where nothing is shown of it, the outermost element
abbrev pub refused_path : List ℕ → Option Diagnosis → List ℕ
refused_path root None = root
refused_path root (Some diagnosis) = path_text root diagnosis.path.items

-- nothing where the document is in DER
abbrev pub field_by : Report → Answer → List ℕ
field_by report Der = []
field_by report (NotDer at) = marked_path report.kind.type_name.now report.lines.items
field_by report (Refused fault) = refused_path report.kind.type_name.now report.diagnosis

abbrev pub field_said : Report → List ℕ
field_said report = field_by report report.answer
