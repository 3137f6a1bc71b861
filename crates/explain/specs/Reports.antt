-- What is reported of octets that have to be one document of a kind.
use Rattle.std.specs.Prelude.{List, length, ℕ, ◌≡◌}
use Rattle.tlv_core.specs.Limits.{Limits}
use Rattle.pk_documents.specs.Kinds.{type_of}
use Rattle.pk_documents.specs.declared.kind.Kind.{Kind}
use Rattle.explain.specs.Answers.{IsAnswer}
use Rattle.explain.specs.Promises.{EndsIn, IsFront, IsListing}
use Rattle.explain.specs.Wordings.{IsWordedReport}
use Rattle.explain.specs.declared.profile.Profile.{Profile}
use Rattle.reports.specs.declared.report.Line.{Line}
use Rattle.reports.specs.declared.report.Report.{Report}

-- The answer is that of `check`. The lines are those of the first octets of the document, of all of them where it is
-- accepted. Which octets are shown of one that is refused, and what is said beyond its lines, with the notes of
-- the profile, is its wording.
pub record IsReportOf (profile : Profile) (limits : Limits) (of : Kind) (document : List ℕ) (report : Report)
    : Type 0 where
  pub octets : report.octets ≡ length document
  pub answer : IsAnswer limits (type_of of) document report.answer
  pub front : List ℕ
  pub is_front : IsFront report.answer document front
  pub listing : List Line
  pub is_listing : IsListing limits of report.answer front listing
  pub lines : EndsIn report.answer listing report.lines.items
  pub worded : IsWordedReport profile limits of document report
