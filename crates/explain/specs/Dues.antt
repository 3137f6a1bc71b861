-- What is due where a document is refused.
use Rattle.std.specs.Prelude.{Bool, List, None, Option, Some, false, slice_get, true, ℕ}
use Rattle.std.specs.Borrow.{Bor}
use Rattle.asn_names.specs.declared.element.NamedElement.{NamedElement}
use Rattle.asn_names.specs.declared.element.Level.{Level}
use Rattle.asn_names.specs.declared.element.Level.TheVariants as levels
use Rattle.pkix_shapes.specs.declared.shape.Shape.{Shape}
use Rattle.tlv_core.specs.declared.reason.Reason.{Reason}
use Rattle.tlv_core.specs.declared.reason.Reason.TheVariants as reasons
use Rattle.explain.specs.declared.fault.location.FaultLocation.{FaultLocation}
use Rattle.reports.specs.declared.report.Due.{Due}
use Rattle.reports.specs.declared.report.Due.TheVariants.{Fields, «Type» as OfType, Unsaid}

abbrev pub type_due : Option (Bor Shape) → Due
type_due None = Unsaid
type_due (Some shape) = OfType shape

-- a value of the element's own type
abbrev pub element_due : Option NamedElement → Due
element_due None = Unsaid
element_due (Some element) = type_due element.shape

abbrev pub number_due : List NamedElement → Option ℕ → Due
number_due elements None = Unsaid
number_due elements (Some number) = element_due (slice_get elements number)

-- Where another tag is there that of the outermost type; where an element has the wrong form its own type.
abbrev pub reason_due : List NamedElement → FaultLocation → Reason → Option ℕ → Bor Shape → Due
reason_due elements location reasons.WrongTag None root = OfType root
reason_due elements location reasons.WrongTag (Some container) root = Unsaid
reason_due elements location reasons.WrongForm container root = number_due elements location.element
reason_due elements location _ container root = Unsaid

-- What may come next in the container at fault.
abbrev pub level_due : Option Level → Due → Due
level_due None other = other
level_due (Some (levels.Fields fields)) other = Fields fields
level_due (Some (levels.Members shape least number)) other = OfType shape
level_due (Some (levels.Segments number)) other = other

abbrev pub due_at : List NamedElement → FaultLocation → Reason → Bor Shape → Due
due_at elements location why root = level_due location.level (reason_due elements location why location.container root)

-- the type of an element is at fault
abbrev pub is_of_type : Reason → Bool
is_of_type reasons.WrongTag = true
is_of_type reasons.Extra = true
is_of_type reasons.Missing = true
is_of_type _ = false
