-- What is shown of a fault: by what may be shown of the document, and by the elements of its front.
use Rattle.std.specs.Prelude.{List, None, Option, Some, cond, false, length, nat_le, true, ℕ, ◌-◌, ◌&&◌, ◌≡◌}
use Rattle.std.specs.Borrow.{Bor}
use Rattle.std.specs.Option.{is_some}
use Rattle.asn_names.specs.declared.element.NamedElement.{NamedElement}
use Rattle.asn_names.specs.declared.element.Mismatch.{Mismatch}
use Rattle.asn_names.specs.declared.element.Step.{Step}
use Rattle.pkix_shapes.specs.declared.shape.Shape.{Shape}
use Rattle.tlv_core.specs.declared.fault.Fault.{Fault}
use Rattle.tlv_core.specs.declared.reason.Reason.{Reason}
use Rattle.tlv_core.specs.declared.reason.Reason.TheVariants as reasons
use Rattle.explain.specs.FaultContainers.{IsContainerOf, found_of, over_of}
use Rattle.explain.specs.Classes.{class_of}
use Rattle.explain.specs.Disclosures.{is_near}
use Rattle.explain.specs.Dues.{due_at, is_of_type}
use Rattle.explain.specs.FaultLines.{is_between, line_at}
use Rattle.explain.specs.FaultLocations.{location_at}
use Rattle.explain.specs.declared.fault.class.ElementClass.{ElementClass}
use Rattle.explain.specs.declared.fault.diagnosis.RefusedFront.{RefusedFront}
use Rattle.explain.specs.declared.fault.location.FaultLocation.{FaultLocation}
use Rattle.reports.specs.declared.report.Answer.{Answer}
use Rattle.reports.specs.declared.report.Answer.TheVariants.{Der, NotDer, Refused}
use Rattle.reports.specs.declared.report.Diagnosis.{Diagnosis}
use Rattle.reports.specs.declared.report.Due.{Due}
use Rattle.reports.specs.declared.report.Due.TheVariants.{Unsaid}
use Rattle.reports.specs.declared.report.Found.{Found}
use Rattle.reports.specs.declared.report.Line.{Line}
use Rattle.reports.specs.declared.report.FaultContainer.{FaultContainer}

-- a refused document, by its front and the lines of that
pub record Case : Type 0 where
  pub fault : Fault
  pub root : Bor Shape
  -- the elements of the front, and where they stop matching the type
  pub elements : List NamedElement
  pub mismatch : Mismatch
  -- how many octets the file has, and how many the front
  pub octets : ℕ
  pub front : ℕ
  pub class : Option ℕ
  pub lines : List Line

abbrev pub case_with : RefusedFront → Fault → Case
case_with refused fault = record {
  fault = fault;
  root = refused.root;
  elements = refused.named.now.elements.items;
  mismatch = refused.named.now.mismatch;
  octets = refused.octets;
  front = length refused.front.now;
  class = refused.class;
  lines = refused.lines.now;
}

-- the place of a fault in the file: one inside an OCTET STRING has none
abbrev pub place_by : ℕ → Option (ℕ × Reason) → Option ℕ
place_by at None = Some at
place_by at (Some inside) = None

abbrev pub place_in_file : Fault → Option ℕ
place_in_file fault = place_by fault.at fault.inside

-- the number of the line of the element at fault
abbrev pub line_in : Case → Option ℕ
line_in case = cond (is_between case.fault.why) None (line_at case.lines case.fault.at)

-- an element at a place that has this class
abbrev pub found_as : ℕ → Option ElementClass → Option Found
found_as at None = None
found_as at (Some class) = Some (record { at = at; tag = class.tag; constructed = class.constructed; length = None })

abbrev pub with_class : ℕ → Option ℕ → Option Found
with_class at None = None
with_class at (Some identifier) = found_as at (class_of identifier)

abbrev pub first_found : Option Found → Option Found → Option Found
first_found None other = other
first_found (Some found) other = Some found

-- What is there: by the line, else by its class. Of a fault inside an OCTET STRING nothing is shown.
abbrev pub found_in_place : Case → Option ℕ → Option Found
found_in_place case line =
    cond (is_some case.fault.inside) None (first_found (found_of case.lines line) (with_class case.fault.at case.class))

abbrev pub location_of : Case → FaultLocation
location_of case = location_at case.elements case.mismatch case.fault.at case.fault.why

-- What may be at the fault, where no more comes before it than the front and its type is at fault.
abbrev pub due_in : Case → FaultLocation → Due
due_in case location =
    cond (is_near case.fault case.front && is_of_type case.fault.why)
    (due_at case.elements location case.fault.why case.root) Unsaid

-- how many octets follow the document, where that is its fault
abbrev pub more_by : Reason → ℕ → ℕ → Option ℕ
more_by reasons.Trailing at octets = cond (nat_le at octets) (Some (octets - at)) None
more_by _ at octets = None

abbrev pub more_in : Case → Option ℕ
more_in case = more_by case.fault.why case.fault.at case.octets

-- The container that the fault is about, where no more comes before it than the front.
abbrev pub IsFaultContainer : Case → FaultLocation → Option FaultContainer → Type 0
IsFaultContainer case location container =
    elim (is_near case.fault case.front) [
      | true ↦ IsContainerOf case.elements case.fault.why location.container location.element container
      | false ↦ container ≡ None
    ]

-- What is shown of the fault that a document is refused for, to which these steps lead.
pub record IsDiagnosis (case : Case) (path : List Step) (diagnosis : Diagnosis) : Type 0 where
  pub file_at : diagnosis.file_at ≡ place_in_file case.fault
  pub path_is : diagnosis.path.items ≡ path
  pub line : diagnosis.line ≡ line_in case
  pub due : diagnosis.due ≡ due_in case (location_of case)
  pub found : diagnosis.found ≡ found_in_place case (line_in case)
  pub container : IsFaultContainer case (location_of case) diagnosis.container
  pub over : diagnosis.over ≡ over_of case.fault.why case.octets diagnosis.container diagnosis.found
  pub more : diagnosis.more ≡ more_in case

-- of a document that is refused, and of no other
abbrev pub IsDiagnosisIf : Answer → (Fault → Case) → List Step → Option Diagnosis → Type 0
IsDiagnosisIf Der case path diagnosis = diagnosis ≡ None
IsDiagnosisIf (NotDer place) case path diagnosis = diagnosis ≡ None
IsDiagnosisIf (Refused fault) case path None = ⊥
IsDiagnosisIf (Refused fault) case path (Some diagnosis) = IsDiagnosis (case fault) path diagnosis
