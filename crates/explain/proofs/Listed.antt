-- The passes over the elements of a document and of a file.
use Rattle.std.proofs.Common.{List, None, Option, Some, ap, drop, sym, subst, ℕ, [], ◌∙◌, ◌++◌, ◌∷◌, length, slice_get, ◌+◌, ◌≡◌}
use Rattle.std.proofs.Math.Numerals.{add-one}
use Rattle.std.specs.Borrow.{Bor}
use Rattle.pkix_shapes.specs.declared.shape.Shape.{Shape}
use Rattle.explain.specs.Insides.{AddsBy, AddsCarried, AddsInside, HasInsides, IsDocumentIn, IsValueOf, carried_by, contained, contained_at, looked_for}
use Rattle.reports.specs.declared.report.Line.{Line}
use Rattle.explain.specs.Listings.{AddsDocument, AddsElement, ListingState, Lists, ListsFile, after_inside, first_inside, listing_state, start_of}
use Rattle.explain.specs.Places.{ListedDocument}
use Rattle.explain.specs.declared.document.inside.Inside.{Inside}
use Rattle.explain.specs.declared.document.inside.InsideSearch.{InsideSearch}
use Rattle.asn_names.specs.declared.element.NamedElement.{NamedElement}
use Rattle.x690.specs.TypeTerms.{TypeTerm}

pub started : (hidden : Option ℕ) (numbers : List ℕ) (lines : List Line) → hidden ≡ None → numbers ≡ []
    → listing_state hidden numbers lines ≡ start_of lines
started hidden numbers lines w n =
    ap (λ one. listing_state one numbers lines) w ∙ ap (λ some. listing_state None some lines) n

pub one_more : (document : ListedDocument) (number : ℕ) (start before end : ListingState)
    → Lists document number start before
    → AddsElement document None number before end → Lists document (number + 1) start end
one_more document number start before end lists adds =
    subst (λ n. Lists document n start end) (sym (add-one number)) (before, lists, adds)

pub file_more : (document : ListedDocument) (insides : List Inside) (number : ℕ) (others left : List Inside)
    (inside : Option Inside)
    (line : ℕ) (before mid end : ListingState) → ListsFile document insides number others before
    → AddsElement document (carried_by inside) number before mid → inside ≡ first_inside others number
    → line ≡ length before.lines → AddsDocument document.causes inside line mid end
    → left ≡ after_inside others number
    → ListsFile document insides (number + 1) left end
file_more document insides number others left inside line before mid end lists adds e l adds_document b =
    subst (λ n. ListsFile document insides n left end) (sym (add-one number)) (
      others,
      before,
      mid,
      lists,
      subst (λ one. AddsElement document (carried_by one) number before mid) e adds,
      subst (λ at. AddsDocument document.causes (first_inside others number) at mid end) l
          (subst (λ one. AddsDocument document.causes one line mid end) e adds_document),
      b,
    )

pub inside_more : (search : InsideSearch) (file : List ℕ) (elements : List NamedElement) (number : ℕ)
    (before after : List Inside)
    → HasInsides search file elements number before → AddsInside search file elements number before after
    → HasInsides search file elements (number + 1) after
inside_more search file elements number before after has adds =
    subst (λ n. HasInsides search file elements n after) (sym (add-one number)) (before, has, adds)

-- the document inside an element that contains one
pub adds_inside : (search : InsideSearch) (file : List ℕ) (elements : List NamedElement) (number : ℕ)
    (element : NamedElement) (shape : Bor Shape) (old new : List Inside) (inside : Inside)
    → slice_get elements number ≡ Some element → contained element ≡ Some shape
    → IsDocumentIn search.limits file (drop number elements) number shape inside → inside.carried ≡ None
    → new ≡ old ++ (inside ∷ []) → AddsInside search file elements number old new
adds_inside search file elements number element shape old new inside listed contains is carried e =
    subst (λ found. AddsBy search file elements number (contained_at found) old new) (sym listed)
    (subst (λ type. AddsBy search file elements number type old new) (sym contains) (inside, is, carried, e))

-- what an element carries that contains none by its type
carries_by : (search : InsideSearch) (file : List ℕ) (elements : List NamedElement) (number : ℕ)
    (element : NamedElement) (type : Option TypeTerm) (old new : List Inside)
    → slice_get elements number ≡ Some element → contained element ≡ None
    → looked_for search.in_extensions file elements (Some element) ≡ type
    → AddsCarried search.limits file elements number type old new → AddsInside search file elements number old new
carries_by search file elements number element type old new listed contains looked adds =
    subst (λ found. AddsBy search file elements number (contained_at found) old new) (sym listed)
    (subst (λ inner. AddsBy search file elements number inner old new) (sym contains)
    (subst
    (λ found.
    AddsCarried search.limits file elements number (looked_for search.in_extensions file elements found) old new)
    (sym listed) (subst (λ it. AddsCarried search.limits file elements number it old new) (sym looked) adds)))

pub carries_none : (search : InsideSearch) (file : List ℕ) (elements : List NamedElement) (number : ℕ)
    (element : NamedElement) (old new : List Inside) → slice_get elements number ≡ Some element
    → contained element ≡ None → looked_for search.in_extensions file elements (Some element) ≡ None → new ≡ old
    → AddsInside search file elements number old new
carries_none search file elements number element old new listed contains looked e =
    carries_by search file elements number element None old new listed contains looked e

pub carries_one : (search : InsideSearch) (file : List ℕ) (elements : List NamedElement) (number : ℕ)
    (element : NamedElement) (type : TypeTerm) (old new : List Inside) (inside : Inside)
    → slice_get elements number ≡ Some element → contained element ≡ None
    → Some type ≡ looked_for search.in_extensions file elements (Some element)
    → IsValueOf search.limits file (drop number elements) number type inside
    → new ≡ old ++ (inside ∷ []) → AddsInside search file elements number old new
carries_one search file elements number element type old new inside listed contains looked is e =
    carries_by search file elements number element (Some type) old new listed contains (sym looked) (inside, is, e)
