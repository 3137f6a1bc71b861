-- What is promised of the lines of a report: each element of what is shown has one, in their order, and they are true.
use Rattle.std.specs.Prelude.{List, None, Option, Some, [], cond, false, length, suc, take, true, ℕ, ◌++◌, ◌∷◌, ◌≡◌, ◌⊎◌}
use Rattle.std.specs.Borrow.{Bor}
use Rattle.tlv_core.specs.Limits.{Limits}
use Rattle.x690.specs.Lists.{Each}
use Rattle.asn_names.specs.declared.element.NamedElement.{NamedElement}
use Rattle.asn_names.specs.declared.element.Mismatch.{Mismatch}
use Rattle.pkix_shapes.specs.declared.shape.Shape.{Shape}
use Rattle.pk_documents.specs.declared.kind.Kind.{Kind}
use Rattle.explain.specs.FaultLines.{IsPlaceAlone}
use Rattle.explain.specs.Fronts.{is_deeper}
use Rattle.explain.specs.Insides.{HasInsides, IsNamed, carried_by}
use Rattle.explain.specs.Lines.{IsHeaderLine, IsListedValue}
use Rattle.explain.specs.Listings.{after_inside, document_in, first_inside, hidden_after}
use Rattle.explain.specs.Places.{ListedDocument, file_with, placed_in}
use Rattle.explain.specs.Rules.{search_by}
use Rattle.explain.specs.Shapes.{IsShapeOf}
use Rattle.explain.specs.declared.document.inside.Inside.{Inside}
use Rattle.reports.specs.declared.report.Answer.{Answer}
use Rattle.reports.specs.declared.report.Answer.TheVariants.{Der, NotDer, Refused}
use Rattle.reports.specs.declared.report.Carried.{Carried}
use Rattle.reports.specs.declared.report.Cause.{Cause}
use Rattle.reports.specs.declared.report.Line.{Line}

-- the octets that are shown of a document: its first ones, and all of them where it is accepted
abbrev pub IsFront : Answer → List ℕ → List ℕ → Type 0
IsFront Der document front = front ≡ document
IsFront (NotDer place) document front = front ≡ document
IsFront (Refused fault) document front = (count : ℕ) × (front ≡ take count document)

-- the lines of what is shown; of a document that is refused one more may show the place of the fault, and nothing else
abbrev pub EndsIn : Answer → List Line → List Line → Type 0
EndsIn Der listing lines = lines ≡ listing
EndsIn (NotDer place) listing lines = lines ≡ listing
EndsIn (Refused fault) listing lines =
    (lines ≡ listing)
    ⊎ ((line : Line) × (depth : ℕ) × (lines ≡ listing ++ (line ∷ [])) × IsPlaceAlone fault.at depth line)

-- A line is of an element of a document: it has the element's header and name, stands where that is in the file, and
-- says what its contents are; of a private one how many octets; and of the value of a known extension what it is as one
-- of its type.
pub record IsLineOf (document : ListedDocument) (carries : Option Carried) (element : NamedElement)
    (line : Line) : Type 0 where
  pub around : ℕ
  pub header : IsHeaderLine (placed_in document element around) element line
  pub value : IsListedValue document.is_carried document.octets element line.value
  pub carries_is : line.carries ≡ carries

-- the elements that are in no private one, after others of which one is private and so deep, if it is known
abbrev pub in_no_private : Option ℕ → List NamedElement → List NamedElement
in_no_private private [] = []
in_no_private private (element ∷ elements) =
    cond (is_deeper private element) [] (element ∷ []) ++ in_no_private (hidden_after private element) elements

-- the lines of what is in an element, where that contains a document: one for each element in no private one
abbrev pub HasInner : Option Inside → List Line → Type 0
HasInner None lines = lines ≡ []
HasInner (Some inside) lines =
    (causes : List (Option Cause))
    × (depth : ℕ)
    × (around : ℕ)
    × Each (IsLineOf (document_in inside causes depth around) None) (in_no_private None inside.named.elements.items) lines

-- The lines of elements of a file, the first of which has this number, where these documents are inside of them: each
-- one in no private one has its line, and after that those of what it contains.
abbrev pub HasLines : ListedDocument → List Inside → Option ℕ → ℕ → List NamedElement → List Line → Type 0
HasLines file insides private number [] lines = lines ≡ []
HasLines file insides private number (element ∷ elements) lines =
    elim (is_deeper private element) [
      | true ↦ HasLines file (after_inside insides number) (hidden_after private element) (suc number) elements lines
      | false ↦ (line : Line) × (inner : List Line) × (rest : List Line) × (lines ≡ line ∷ (inner ++ rest))
          × IsLineOf file (carried_by (first_inside insides number)) element line
          × HasInner (first_inside insides number) inner
          × HasLines file (after_inside insides number) (hidden_after private element) (suc number) elements rest
    ]

-- The lines of the first octets of a document that is answered so, by the names of the kind's type.
pub record IsListing (limits : Limits) (of : Kind) (answer : Answer) (front : List ℕ) (lines : List Line)
    : Type 0 where
  pub root : Bor Shape
  pub is_shape : IsShapeOf of root
  pub elements : List NamedElement
  pub mismatch : Mismatch
  pub is_named : IsNamed limits front root (elements, mismatch)
  pub insides : List Inside
  pub has_insides : HasInsides (search_by limits answer) front elements (length elements) insides
  pub causes : List (Option Cause)
  pub are : HasLines (file_with front elements causes) insides None 0 elements lines
