-- How a report is made and worded: which octets are shown of a document that is refused, and all that is said of it.
use Rattle.std.specs.Prelude.{List, None, Option, [], length, ℕ, ◌∷◌, ◌≡◌, ◌≤◌}
use Rattle.std.specs.Borrow.{Bor}
use Rattle.tlv_core.specs.Limits.{Limits}
use Rattle.tlv_core.specs.declared.fault.Fault.{Fault}
use Rattle.asn_names.specs.declared.element.NamedElement.{NamedElement}
use Rattle.asn_names.specs.declared.element.Mismatch.{Mismatch}
use Rattle.pkix_shapes.specs.declared.shape.Shape.{Shape}
use Rattle.pk_documents.specs.KindRows.{kinds, type_name_of, word_of}
use Rattle.pk_documents.specs.declared.kind.Kind.{Kind}
use Rattle.explain.specs.Disclosures.{IsDisclosed}
use Rattle.explain.specs.FaultLines.{AddsFault}
use Rattle.explain.specs.Faults.{Case, IsDiagnosisIf}
use Rattle.explain.specs.Guesses.{BeginsAs, FirstBy}
use Rattle.explain.specs.Insides.{HasInsides, IsNamed}
use Rattle.explain.specs.Listings.{IsListed}
use Rattle.explain.specs.Moduli.{modulus_by}
use Rattle.explain.specs.Notes.{most_notes}
use Rattle.explain.specs.Places.{end_by_listed}
use Rattle.explain.specs.ProfileNotes.{notes_by}
use Rattle.explain.specs.Rules.{front_document, search_by}
use Rattle.explain.specs.Shapes.{IsShapeOf}
use Rattle.explain.specs.declared.disclosed.Disclosed.{Disclosed}
use Rattle.explain.specs.declared.document.inside.Inside.{Inside}
use Rattle.explain.specs.declared.profile.Profile.{Profile}
use Rattle.reports.specs.declared.report.Line.{Line}
use Rattle.reports.specs.declared.report.Report.{Report}

-- where the outermost element ends by its length, where that is shown: by the first line
abbrev pub announced_end : List Line → Option ℕ
announced_end [] = None
announced_end (line ∷ lines) = end_by_listed line.at line.length

-- The elements of the front, by the names of the kind's type, a line each with why it isn't in DER, and those of the
-- documents inside them.
pub record IsListingBy (limits : Limits) (of : Kind) (disclosed : Disclosed) (lines : List Line) : Type 0 where
  pub root : Bor Shape
  pub is_shape : IsShapeOf of root
  pub elements : List NamedElement
  pub mismatch : Mismatch
  pub is_named : IsNamed limits disclosed.front.now root (elements, mismatch)
  pub insides : List Inside
  pub has_insides : HasInsides (search_by limits disclosed.answer) disclosed.front.now elements (length elements) insides
  pub listed : IsListed (front_document disclosed.answer disclosed.front.now elements) insides lines

-- a document that is refused for a fault, by its front and these lines
abbrev pub case_by : Disclosed → Bor Shape → List NamedElement → Mismatch → List Line → Fault → Case
case_by disclosed root elements mismatch lines fault = record {
  fault = fault;
  root = root;
  elements = elements;
  mismatch = mismatch;
  octets = disclosed.octets;
  front = length disclosed.front.now;
  class = disclosed.class;
  lines = lines;
}

-- The report is made of what may be shown of the document, and of nothing else.
pub record IsReportBy (profile : Profile) (limits : Limits) (of : Kind) (disclosed : Disclosed) (report : Report)
    : Type 0 where
  pub word : report.kind.word.now ≡ word_of of
  pub type_name : report.kind.type_name.now ≡ type_name_of of
  pub octets : report.octets ≡ disclosed.octets
  pub answer : report.answer ≡ disclosed.answer
  pub listing : List Line
  pub is_listing : IsListingBy limits of disclosed listing
  pub lines : AddsFault disclosed.answer (length disclosed.path.items) listing report.lines.items
  pub diagnosis : IsDiagnosisIf disclosed.answer
      (case_by disclosed is_listing.root is_listing.elements is_listing.mismatch report.lines.items)
      disclosed.path.items report.diagnosis
  pub announced : report.announced ≡ announced_end report.lines.items
  pub guess : report.guess ≡ disclosed.guess
  pub after : report.after ≡ disclosed.after
  pub notes : report.notes.items ≡ notes_by profile disclosed.answer report.lines.items
  pub few : length report.notes.items ≤ most_notes
  pub modulus : report.modulus ≡ modulus_by disclosed.answer is_listing.insides

-- What may be shown of the document, and the report that is made of that.
pub record IsWordedReport (profile : Profile) (limits : Limits) (of : Kind) (document : List ℕ) (report : Report)
    : Type 0 where
  pub disclosed : Disclosed
  pub is_disclosed : IsDisclosed limits of document disclosed
  pub made_of : IsReportBy profile limits of disclosed report

-- Of octets that are of no kind, it is the first kind as whose documents they begin.
abbrev pub IsBegun : Limits → List ℕ → Option Kind → Type 0
IsBegun limits octets begun = FirstBy (BeginsAs limits octets) kinds begun
