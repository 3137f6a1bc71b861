-- Where the elements of a document are in the file. A document's octets are there in pieces: those of the file in
-- one, those inside an OCTET STRING in one for each of its segments.
use Rattle.std.specs.Prelude.{Bool, List, None, Option, Some, [], cond, false, length, min, nat_le, nat_lt, true, unwrap_or, ℕ, ◌+◌, ◌-◌, ◌^◌, ◌∷◌, ◌==◌, ◌≡◌}
use Rattle.asn_names.specs.declared.element.NamedElement.{NamedElement}
use Rattle.ber_outline.specs.declared.event.ElementHeader.{ElementHeader}
use Rattle.explain.specs.Lines.{end_after, listed_length}
use Rattle.explain.specs.declared.document.places.Piece.{Piece}
use Rattle.explain.specs.declared.document.places.Placed.{Placed}
use Rattle.explain.specs.declared.document.places.DocumentCursor.{DocumentCursor}
use Rattle.reports.specs.declared.report.Cause.{Cause}
use Rattle.reports.specs.declared.report.Length.{Length}

-- a document whose elements are shown: the file, or what one OCTET STRING contains
pub record ListedDocument : Type 0 where
  pub octets : List ℕ
  pub elements : List NamedElement
  -- why they aren't in DER; of a document that is or that is refused there are none
  pub causes : List (Option Cause)
  -- where its octets are in the file
  pub pieces : List Piece
  pub is_inside : Bool
  -- it is the value of an extension
  pub is_carried : Bool
  -- how deep its outermost element is
  pub depth : ℕ
  -- the number of the line around it
  pub around : ℕ

-- a file of which these octets are shown
abbrev pub file_with : List ℕ → List NamedElement → List (Option Cause) → ListedDocument
file_with octets elements causes = record {
  octets = octets;
  elements = elements;
  causes = causes;
  pieces = record { at = 0; octets = length octets } ∷ [];
  is_inside = false;
  is_carried = false;
  depth = 0;
  around = 0;
}

abbrev pub listed_document : DocumentCursor → ListedDocument
listed_document cursor = record {
  octets = cursor.octets.now;
  elements = cursor.elements.now;
  causes = cursor.causes.now;
  pieces = cursor.pieces.now;
  is_inside = cursor.is_inside;
  is_carried = cursor.is_carried;
  depth = cursor.depth;
  around = cursor.around;
}

-- a place so many octets after another one, where 64 bits have it
abbrev pub sum_of : ℕ → ℕ → Option ℕ
sum_of place octets = cond (nat_le octets (2 ^ 64 - 1 - place)) (Some (place + octets)) None

-- the place in the file of the octet of this number, counted over the pieces
abbrev pub place_of : List Piece → ℕ → Option ℕ
place_of [] number = None
place_of (piece ∷ pieces) number =
    cond (nat_lt number piece.octets) (sum_of piece.at number) (place_of pieces (number - piece.octets))

-- the place after an octet
abbrev pub after_place : Option ℕ → Option ℕ
after_place None = None
after_place (Some last) = sum_of last 1

-- the place in the file after so many octets
abbrev pub end_of : List Piece → ℕ → Option ℕ
end_of pieces count = cond (count == 0) (place_of pieces 0) (after_place (place_of pieces (count - 1)))

-- the place in the file of an element of a document
abbrev pub place_in_file : List Piece → ℕ → ℕ
place_in_file pieces at = unwrap_or (place_of pieces at) at

-- where an element of definite length ends by its header
abbrev pub end_by_listed : ℕ → Option Length → Option ℕ
end_by_listed at None = None
end_by_listed at (Some length) =
    elim length.contents [
      | None ↦ None
      | Some contents ↦ sum_of (min (at + length.header) (2 ^ 64 - 1)) contents
    ]

abbrev pub end_by_length : ElementHeader → Option ℕ
end_by_length header = end_by_listed header.at (listed_length header)

-- where an element ends in the file by where its contents end
abbrev pub end_in_file : ListedDocument → NamedElement → Option ℕ → Option ℕ
end_in_file document element None = None
end_in_file document element (Some end) = end_of document.pieces (end_after element.header.announced end)

abbrev pub first_end : Option ℕ → Option ℕ → Option ℕ
first_end None other = other
first_end (Some end) other = Some end

-- where an element ends: in the file by its length, where that is shown; else by its contents
abbrev pub listed_end : ListedDocument → NamedElement → Option ℕ
listed_end document element =
    first_end (cond document.is_inside None (end_by_length element.header)) (end_in_file document element element.end)

-- where an element is, by its document and the number of the line around it
abbrev pub placed_in : ListedDocument → NamedElement → ℕ → Placed
placed_in document element around = record {
  at = place_in_file document.pieces element.header.at;
  end = listed_end document element;
  is_inside = document.is_inside;
  depth = document.depth;
  around = around;
}

-- the rest of the pieces are those after so many octets
abbrev pub Skips : List Piece → ℕ → List Piece → Type 0
Skips pieces before rest = (number : ℕ) → place_of rest number ≡ place_of pieces (before + number)

abbrev pub SkipsIn : DocumentCursor → Type 0
SkipsIn cursor = Skips cursor.pieces.now cursor.before cursor.rest.now

-- an octet, counted from the first one of the pieces, is in the first of them; or there are none
abbrev pub is_in_first : List Piece → ℕ → Bool
is_in_first [] number = true
is_in_first (piece ∷ pieces) number = nat_lt number piece.octets
