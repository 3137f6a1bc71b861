-- Which lines a document has: one pass over its elements, and after the line of an OCTET STRING one over the elements
-- of the document inside it. What is inside a private element has none.
use Rattle.std.specs.Prelude.{Bool, List, None, Option, Some, [], cond, length, min, suc, true, unwrap_or, zero, ℕ, ◌+◌, ◌-◌, ◌^◌, ◌++◌, ◌∷◌, ◌≡◌, ◌==◌}
use Rattle.std.specs.List.{slice_get}
use Rattle.std.specs.Option.{is_some}
use Rattle.asn_names.specs.declared.element.NamedElement.{NamedElement}
use Rattle.explain.specs.FaultContainers.{saturating_sum}
use Rattle.explain.specs.Causes.{causes_of, line_cause}
use Rattle.explain.specs.Fronts.{is_deeper}
use Rattle.explain.specs.Insides.{carried_by}
use Rattle.explain.specs.Lines.{AddsLine}
use Rattle.explain.specs.Places.{ListedDocument, placed_in}
use Rattle.explain.specs.declared.document.inside.Inside.{Inside}
use Rattle.reports.specs.declared.report.Carried.{Carried}
use Rattle.reports.specs.declared.report.Cause.{Cause}
use Rattle.reports.specs.declared.report.Line.{Line}

-- what is known between two elements of a document
pub record ListingState : Type 0 where
  -- how deep the private element is that the next ones are hidden in
  pub hidden : Option ℕ
  -- of each element before, the number of its line; of one that has none, that of the line around it
  pub numbers : List ℕ
  pub lines : List Line

abbrev pub listing_state : Option ℕ → List ℕ → List Line → ListingState
listing_state hidden numbers lines = record { hidden = hidden; numbers = numbers; lines = lines }

-- before the first element, after other lines
abbrev pub start_of : List Line → ListingState
start_of lines = listing_state None [] lines

-- the number of the line around an element; of the outermost one that around its document
abbrev pub number_around : List ℕ → ℕ → NamedElement → ℕ
number_around numbers outer element =
    cond (element.header.depth == 0) outer (unwrap_or (slice_get numbers element.around) outer)

abbrev pub own_number : Bool → ℕ → ℕ → ℕ
own_number hidden line around = cond hidden around line

-- how deep the private element is that what comes after an element is hidden in
abbrev pub hidden_after : Option ℕ → NamedElement → Option ℕ
hidden_after hidden element =
    cond (is_deeper hidden element) hidden (cond element.private (Some element.header.depth) None)

-- One element more, with a cause or none, and with what the value of an extension is: its line is added, unless it is
-- hidden.
pub record IsNext (document : ListedDocument) (cause : Option Cause) (carries : Option Carried)
    (element : NamedElement)
    (before after : ListingState) : Type 0 where
  pub line : AddsLine (is_deeper before.hidden element) document.is_carried document.octets
      (placed_in document element (number_around before.numbers document.around element))
      element cause carries before.lines after.lines
  pub numbers : after.numbers ≡ before.numbers
      ++ (own_number (is_deeper before.hidden element) (length before.lines)
      (number_around before.numbers document.around element) ∷ [])
  pub hidden : after.hidden ≡ hidden_after before.hidden element

abbrev pub AddsOne : ListedDocument → Option Cause → Option Carried → Option NamedElement → ListingState
    → ListingState → Type 0
AddsOne document cause carries None before after = after ≡ before
AddsOne document cause carries (Some element) before after = IsNext document cause carries element before after

-- the same of the element of this number, with the cause that its line shows
abbrev pub AddsElement : ListedDocument → Option Carried → ℕ → ListingState → ListingState → Type 0
AddsElement document carries number before after =
    AddsOne document (line_cause document.elements document.causes number) carries
    (slice_get document.elements number) before after

-- the first elements of a document, so many, one after another
abbrev pub Lists : ListedDocument → ℕ → ListingState → ListingState → Type 0
Lists document zero start end = end ≡ start
Lists document (suc number) start end =
    (before : ListingState) × Lists document number start before × AddsElement document None number before end

-- the place of an element in its document; 0 of none
abbrev pub own_place : Option NamedElement → ℕ
own_place None = 0
own_place (Some element) = element.header.at

-- the causes of the elements of a document inside, where those of the file have any; the value of an extension stays as
-- it is
abbrev pub causes_inside : List (Option Cause) → Inside → List (Option Cause)
causes_inside [] inside = []
causes_inside (cause ∷ causes) inside =
    cond (is_some inside.carried) [] (causes_of inside.octets.items inside.named.elements.items)

-- a document inside an OCTET STRING of a file, so deep, around which the line of this number is
abbrev pub document_in : Inside → List (Option Cause) → ℕ → ℕ → ListedDocument
document_in inside causes depth around = record {
  octets = inside.octets.items;
  elements = inside.named.elements.items;
  causes = causes;
  pieces = inside.pieces.items;
  is_inside = true;
  is_carried = is_some inside.carried;
  depth = depth;
  around = around;
}

-- a document inside an element of a file that is so deep, which has the line of this number
abbrev pub inside_document : List (Option Cause) → Inside → ℕ → ℕ → ListedDocument
inside_document causes inside depth number =
    document_in inside (causes_inside causes inside) (min (depth + 1) (2 ^ 64 - 1)) number

-- the lines of the document inside
pub record ListsInside (document : ListedDocument) (before after : ListingState) : Type 0 where
  pub end : ListingState
  pub lists : Lists document (length document.elements) (start_of before.lines) end
  pub lines : after.lines ≡ end.lines
  pub numbers : after.numbers ≡ before.numbers
  pub hidden : after.hidden ≡ before.hidden

abbrev pub AddsAfter : List (Option Cause) → Inside → ℕ → Option Line → ListingState → ListingState → Type 0
AddsAfter causes inside number None before after = after ≡ before
AddsAfter causes inside number (Some line) before after =
    ListsInside (inside_document causes inside line.depth number) before after

-- After an element of a file with these causes, which has the line of this number, the lines of the document inside it
-- are added.
abbrev pub AddsDocument : List (Option Cause) → Option Inside → ℕ → ListingState → ListingState → Type 0
AddsDocument causes None number before after = after ≡ before
AddsDocument causes (Some inside) number before after =
    AddsAfter causes inside number (slice_get before.lines number) before after

-- the document inside the element of this number, where it is the first of those that are left; and those after it
abbrev pub first_inside : List Inside → ℕ → Option Inside
first_inside [] number = None
first_inside (inside ∷ insides) number = cond (inside.container == number) (Some inside) None

abbrev pub after_inside : List Inside → ℕ → List Inside
after_inside [] number = []
after_inside (inside ∷ insides) number = cond (inside.container == number) insides (inside ∷ insides)

-- The first elements of a file, so many, each with the document inside it; of those documents these are left.
abbrev pub ListsFile : ListedDocument → List Inside → ℕ → List Inside → ListingState → Type 0
ListsFile document insides zero left end = (left ≡ insides) × (end ≡ start_of [])
ListsFile document insides (suc number) left end =
    (others : List Inside)
    × (before : ListingState)
    × (mid : ListingState)
    × ListsFile document insides number others before
    × AddsElement document (carried_by (first_inside others number)) number before mid
    × AddsDocument document.causes (first_inside others number) (length before.lines) mid end
    × (left ≡ after_inside others number)

-- All lines of a file.
pub record IsListed (document : ListedDocument) (insides : List Inside) (lines : List Line) : Type 0 where
  pub left : List Inside
  pub end : ListingState
  pub lists : ListsFile document insides (length document.elements) left end
  pub are : lines ≡ end.lines

abbrev pub with_inside : ℕ → List Inside → ℕ
with_inside count [] = count
with_inside count (inside ∷ insides) =
    with_inside (saturating_sum count (length inside.named.elements.items)) insides

-- How many lines there are at most: one of each element of a file, one of each in the documents inside, and one of the
-- fault.
abbrev pub most_lines : List NamedElement → List Inside → ℕ
most_lines elements insides = with_inside (saturating_sum (length elements) 1) insides
