-- The type of an element, no longer named, chosen or marked.
use Rattle.std.specs.Prelude.{Bool, List, None, Option, Some, [], cond, drop, false, length, map, nat_lt, take, true, ℕ, ◌-◌, ◌==◌, ◌||◌, ◌∷◌}
use Rattle.std.specs.Borrow.{Bor}
use Rattle.tlv_core.specs.Identifier.{Tag}
use Rattle.x690.specs.Lists.{one_of}
use Rattle.x690.specs.TypeTerms.{fits_tag}
use Rattle.pkix_shapes.specs.Terms.{term_of}
use Rattle.pkix_shapes.specs.declared.shape.Shape.{Choice', Containing', DefinedBy', Leaf, ListOf', Named', Open, Private', Refused, Sequence', SetOf', Shape}
use Rattle.asn_names.specs.Levels.{one_more}
use Rattle.asn_names.specs.declared.element.NamedElement.{NamedElement}
use Rattle.asn_names.specs.declared.resolved.Resolved.{Resolved}

-- the contents octets between two places, of a primitive element that is whole
abbrev pub part : List ℕ → Bool → Option ℕ → Option ℕ → List ℕ
part document constructed None end = []
part document constructed (Some begin) None = []
part document constructed (Some begin) (Some end) =
    cond (constructed || (nat_lt end begin || nat_lt (length document) end)) []
    (take (end - begin) (drop begin document))

abbrev pub contents : List ℕ → NamedElement → List ℕ
contents document element = part document element.header.constructed element.begin element.end

-- the elements from that of this number on, counted among those of the depth, up to a lesser depth
abbrev pub from_member : ℕ → ℕ → List NamedElement → List NamedElement
from_member depth number [] = []
from_member depth number (element ∷ elements) =
    cond (nat_lt element.header.depth depth) []
    (cond (element.header.depth == depth)
    (cond (number == 0) (element ∷ elements) (from_member depth (number - 1) elements))
    (from_member depth number elements))

-- The contents of the leaf at a path among elements of this depth: each number of the path counts the elements of its
-- container. None where it isn't there.
abbrev pub leaf_at : List ℕ → ℕ → List ℕ → List NamedElement → List ℕ
leaf_at document depth [] elements = []
leaf_at document depth (number ∷ path) elements =
    elim (from_member depth number elements) [
      | [] ↦ []
      | found ∷ inside ↦
          cond (length path == 0) (contents document found) (leaf_at document (one_more depth) path inside)
    ]

-- What a type that is at a place of the program's memory comes to: names and marks are taken off, and of two types
-- the one is chosen that the element has by its tag, or by an earlier leaf (`leaves` gives the contents of each).
abbrev pub resolved : (List ℕ → List ℕ) → Tag → Option (Bor (List ℕ)) → Bool → ℕ × ℕ → Shape → Resolved
resolved leaves tag name private pointer (Named' own p shape) = resolved leaves tag (Some own) private p.ref_ptr shape
resolved leaves tag name private pointer (Private' p shape) = resolved leaves tag name true p.ref_ptr shape
resolved leaves tag name private pointer (Choice' p first q second) =
    elim (fits_tag (term_of first) tag) [
      | true ↦ resolved leaves tag name private p.ref_ptr first
      | false ↦ resolved leaves tag name private q.ref_ptr second
    ]
resolved leaves tag name private pointer (DefinedBy' path identifiers p first q second) =
    elim (one_of (leaves path.now) (map (λ r. r.now) identifiers.now)) [
      | true ↦ resolved leaves tag name private p.ref_ptr first
      | false ↦ resolved leaves tag name private q.ref_ptr second
    ]
resolved leaves tag name private pointer (Leaf own kind) =
    record { type_name = name; private = private; shape = record { ref_ptr = pointer; now = Leaf own kind } }
resolved leaves tag name private pointer Open =
    record { type_name = name; private = private; shape = record { ref_ptr = pointer; now = Open } }
resolved leaves tag name private pointer (ListOf' own least p shape) = record {
  type_name = name;
  private = private;
  shape = record { ref_ptr = pointer; now = ListOf' own least p shape };
}
resolved leaves tag name private pointer (SetOf' own least p shape) = record {
  type_name = name;
  private = private;
  shape = record { ref_ptr = pointer; now = SetOf' own least p shape };
}
resolved leaves tag name private pointer (Sequence' own p fields) =
    record { type_name = name; private = private; shape = record { ref_ptr = pointer; now = Sequence' own p fields } }
resolved leaves tag name private pointer (Containing' own p shape) =
    record { type_name = name; private = private; shape = record { ref_ptr = pointer; now = Containing' own p shape } }
resolved leaves tag name private pointer (Refused own) =
    record { type_name = name; private = private; shape = record { ref_ptr = pointer; now = Refused own } }
