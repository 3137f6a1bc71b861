-- The front of a document, by the answer to it.
use Rattle.std.specs.Prelude.{Bool, List, Option, [], false, not, true, ℕ}
use Rattle.tlv_core.specs.Limits.{Limits}
use Rattle.asn_names.specs.declared.element.NamedElement.{NamedElement}
use Rattle.explain.specs.Causes.{causes_of}
use Rattle.explain.specs.Places.{ListedDocument, file_with}
use Rattle.explain.specs.declared.document.inside.InsideSearch.{InsideSearch}
use Rattle.reports.specs.declared.report.Answer.{Answer}
use Rattle.reports.specs.declared.report.Answer.TheVariants.{Der, NotDer, Refused}
use Rattle.reports.specs.declared.report.Cause.{Cause}

abbrev pub is_refusal : Answer → Bool
is_refusal Der = false
is_refusal (NotDer place) = false
is_refusal (Refused fault) = true

-- documents inside are looked for in extensions too, where the document is accepted
abbrev pub search_by : Limits → Answer → InsideSearch
search_by limits answer = record { limits = limits; in_extensions = not (is_refusal answer) }

-- why the elements of a sound document aren't in DER
abbrev pub causes_by : Answer → List ℕ → List NamedElement → List (Option Cause)
causes_by Der front elements = []
causes_by (NotDer place) front elements = causes_of front elements
causes_by (Refused fault) front elements = []

-- the front itself, by the answer to the document and the elements of the front
abbrev pub front_document : Answer → List ℕ → List NamedElement → ListedDocument
front_document answer front elements = file_with front elements (causes_by answer front elements)
