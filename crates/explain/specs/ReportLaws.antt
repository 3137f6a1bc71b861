-- The law on reports: no more is shown of a document than what may be.
use Rattle.std.specs.Prelude.{List, ℕ}
use Rattle.tlv_core.specs.Limits.{Limits}
use Rattle.pk_documents.specs.declared.kind.Kind.{Kind}
use Rattle.explain.specs.Disclosures.{IsDisclosed}
use Rattle.explain.specs.Reports.{IsReportOf}
use Rattle.explain.specs.declared.disclosed.Disclosed.{Disclosed}
use Rattle.explain.specs.declared.profile.Profile.{Profile}
use Rattle.reports.specs.declared.report.Report.{Report}

-- Of two documents the same may be shown: what is reported of the one may be reported of the other.
pub record DiscloseTheSame (limits : Limits) (of : Kind) (one other : List ℕ) : Type 0 where
  pub same : (disclosed : Disclosed) → IsDisclosed limits of one disclosed → IsDisclosed limits of other disclosed

abbrev pub ReportsShowNothingPrivate : Type 0
ReportsShowNothingPrivate =
    (profile : Profile) (limits : Limits) (of : Kind) (one other : List ℕ) (report : Report)
    → DiscloseTheSame limits of one other → IsReportOf profile limits of one report
    → IsReportOf profile limits of other report
