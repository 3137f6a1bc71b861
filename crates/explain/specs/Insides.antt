-- The elements of a document by its outline, and the documents inside its OCTET STRINGs: in a key by its type, in the
-- value of a known extension by the identifier of that.
use Rattle.reports.specs.declared.report.Carried.{Carried}
use Rattle.reports.specs.declared.report.Carried.TheVariants as carried
use Rattle.std.specs.Prelude.{Bool, List, None, Option, Some, [], codes, cond, drop, false, length, nat_lt, option_and_then, slice_get, suc, true, zero, ℕ, ◌&&◌, ◌+◌, ◌++◌, ◌-◌, ◌==◌, ◌∷◌, ◌≡◌}
use Rattle.std.specs.Borrow.{Bor}
use Rattle.tlv_core.specs.Identifier.{Tag}
use Rattle.tlv_core.specs.Limits.{Limits}
use Rattle.x690.specs.TypeTerms.{TypeTerm}
use Rattle.asn_names.specs.Judged.{judged}
use Rattle.asn_names.specs.Naming.{named_by}
use Rattle.asn_names.specs.declared.element.NamedElement.{NamedElement}
use Rattle.asn_names.specs.declared.element.Mismatch.{Mismatch}
use Rattle.asn_names.specs.declared.judgement.Judgement.{Judgement}
use Rattle.asn_names.specs.declared.judgement.Judgement.TheVariants.{Der, NotDer, Refused}
use Rattle.ber_outline.specs.Outlines.{IsOutline}
use Rattle.ber_outline.specs.declared.event.Event.{Event}
use Rattle.ber_outline.specs.declared.event.Stop.{Stop}
use Rattle.pkix_shapes.specs.Extensions.{type_of_extension}
use Rattle.pkix_shapes.specs.PublicKeys.{type_of_public_key}
use Rattle.pkix_shapes.specs.Terms.{term_of}
use Rattle.pkix_shapes.specs.declared.shape.Shape.{Choice', Containing', DefinedBy', Leaf, ListOf', Named', Open, Private', Refused as RefusedType, Sequence', SetOf', Shape}
use Rattle.explain.specs.Contents.{contents_in}
use Rattle.explain.specs.Public.{is_field}
use Rattle.explain.specs.declared.document.inside.Inside.{Inside}
use Rattle.explain.specs.declared.document.inside.InsideSearch.{InsideSearch}
use Rattle.explain.specs.declared.document.places.Piece.{Piece}

-- The elements of a document by their names in this type, and where they stop matching it.
pub record IsNamed (limits : Limits) (document : List ℕ) (root : Bor Shape) (named : List NamedElement × Mismatch)
    : Type 0 where
  pub events : List Event
  pub stop : Option Stop
  pub outline : IsOutline limits document events stop
  pub names : named ≡ named_by document events stop root

-- what is known of where documents inside are looked for: under these limits, in values of extensions or not
abbrev pub search_alone : Limits → InsideSearch
search_alone limits = record { limits = limits; in_extensions = false }

-- what a value of the type contains
abbrev pub contained_in : Shape → Option (Bor Shape)
contained_in (Containing' own p shape) = Some (record { ref_ptr = p.ref_ptr; now = shape })
contained_in (Leaf own contents) = None
contained_in Open = None
contained_in (ListOf' own least p member) = None
contained_in (SetOf' own least p member) = None
contained_in (Sequence' own p fields) = None
contained_in (RefusedType own) = None
contained_in (DefinedBy' path identifiers p first q second) = None
contained_in (Choice' p first q second) = None
contained_in (Named' name p shape) = None
contained_in (Private' p shape) = None

abbrev pub contained_by : Option (Bor Shape) → Option ℕ → Option (Bor Shape)
contained_by shape None = None
contained_by None (Some end) = None
contained_by (Some shape) (Some end) = contained_in shape.now

-- the type of the document that an element contains which is whole
abbrev pub contained : NamedElement → Option (Bor Shape)
contained element = contained_by element.shape element.end

-- how many contents octets of a BIT STRING stand before the octets that it holds: the first, which says how many bits
-- are unused (X.690 8.6.2); where there are some its bits are no octets, and it holds none
abbrev pub before_octets : List ℕ → ℕ
before_octets [] = 0
before_octets (unused ∷ octets) = cond (unused == 0) 1 (length (unused ∷ octets))

-- those of a string: none stand before in one that isn't a BIT STRING (universal 3)
abbrev pub before_held : Tag → List ℕ → ℕ
before_held tag contents = cond ((tag.class == 0) && (tag.number == 3)) (before_octets contents) 0

-- the octets that a primitive string holds; of another element none
abbrev pub held : Tag → Option (List ℕ) → List ℕ
held tag None = []
held tag (Some contents) = drop (before_held tag contents) contents

abbrev pub own_contents : List ℕ → NamedElement → List ℕ
own_contents document element = held element.header.tag (contents_in document element)

-- the contents octets of elements as long as they are deeper
abbrev pub deeper_contents : List ℕ → ℕ → List NamedElement → List ℕ
deeper_contents document depth [] = []
deeper_contents document depth (element ∷ elements) =
    cond (nat_lt depth element.header.depth)
    (own_contents document element ++ deeper_contents document depth elements) []

-- the contents octets of the first of the elements, or those of all segments in it (X.690 8.7)
abbrev pub contents_within : List ℕ → List NamedElement → List ℕ
contents_within document [] = []
contents_within document (element ∷ elements) =
    own_contents document element ++ deeper_contents document element.header.depth elements

-- where these are in the document; those of another element nowhere
abbrev pub piece_at : Tag → Option ℕ → Option (List ℕ) → List Piece
piece_at tag None contents = []
piece_at tag (Some at) None = []
piece_at tag (Some at) (Some contents) =
    record { at = at + before_held tag contents; octets = length contents - before_held tag contents } ∷ []

abbrev pub own_pieces : List ℕ → NamedElement → List Piece
own_pieces document element = piece_at element.header.tag element.begin (contents_in document element)

-- where those of elements stand as long as they are deeper
abbrev pub deeper_pieces : List ℕ → ℕ → List NamedElement → List Piece
deeper_pieces document depth [] = []
deeper_pieces document depth (element ∷ elements) =
    cond (nat_lt depth element.header.depth)
    (own_pieces document element ++ deeper_pieces document depth elements) []

-- where those of the first of the elements stand, or those of all segments in it
abbrev pub pieces_within : List ℕ → List NamedElement → List Piece
pieces_within document [] = []
pieces_within document (element ∷ elements) =
    own_pieces document element ++ deeper_pieces document element.header.depth elements

-- The document inside an element of a file: its octets are those of these elements, its elements have the names of the
-- contained type.
pub record IsDocumentIn (limits : Limits) (file : List ℕ) (elements : List NamedElement) (container : ℕ)
    (shape : Bor Shape)
    (inside : Inside) : Type 0 where
  pub container_is : inside.container ≡ container
  pub type : inside.shape ≡ shape
  pub octets : inside.octets.items ≡ contents_within file elements
  pub pieces : inside.pieces.items ≡ pieces_within file elements
  pub named : IsNamed limits inside.octets.items inside.shape (inside.named.elements.items, inside.named.mismatch)

abbrev pub contained_at : Option NamedElement → Option (Bor Shape)
contained_at None = None
contained_at (Some element) = contained element

-- The document inside the element of this number is one more, where that contains one.
abbrev pub AddsContained : Limits → List ℕ → List NamedElement → ℕ → Option (Bor Shape) → List Inside → List Inside
    → Type 0
AddsContained limits file elements number None before after = after ≡ before
AddsContained limits file elements number (Some shape) before after =
    (inside : Inside) × IsDocumentIn limits file (drop number elements) number shape inside
    × (inside.carried ≡ None) × (after ≡ before ++ (inside ∷ []))

-- The type of what the value of a known extension contains, by the identifier of that, the first field of the
-- extension; or a public key, by the identifier of its algorithm, which is the first field of what stands before it.
abbrev pub carried_type : List ℕ → List NamedElement → Option NamedElement → Option TypeTerm
carried_type file elements None = None
carried_type file elements (Some element) =
    cond (is_field element.step (codes "extnValue"))
    (option_and_then type_of_extension
    (option_and_then (contents_in file) (slice_get elements (element.around + 1))))
    (cond (is_field element.step (codes "subjectPublicKey"))
    (option_and_then type_of_public_key
    (option_and_then (contents_in file) (slice_get elements (element.around + 2)))) None)

-- where it is looked for
abbrev pub looked_for : Bool → List ℕ → List NamedElement → Option NamedElement → Option TypeTerm
looked_for false file elements found = None
looked_for true file elements found = carried_type file elements found

-- the elements of what a value of an extension contains, which is told where it is in DER
abbrev pub AreCarried : Limits → List ℕ → Bor Shape → Judgement → List NamedElement × Mismatch → Type 0
AreCarried limits octets shape Der named = IsNamed limits octets shape named
AreCarried limits octets shape NotDer named = named.0 ≡ []
AreCarried limits octets shape (Refused fault) named = named.0 ≡ []

-- what is shown of what octets are as a value of their type: of a fault its place and reason
abbrev pub carried_as : Judgement → Carried
carried_as Der = carried.Der
carried_as NotDer = carried.NotDer
carried_as (Refused fault) = carried.Refused fault.at fault.why

-- The value of an extension, as one of this type: what it is, and its elements.
pub record IsValueOf (limits : Limits) (file : List ℕ) (elements : List NamedElement) (container : ℕ)
    (type : TypeTerm)
    (inside : Inside) : Type 0 where
  pub container_is : inside.container ≡ container
  pub type_is : term_of inside.shape.now ≡ type
  pub octets : inside.octets.items ≡ contents_within file elements
  pub pieces : inside.pieces.items ≡ pieces_within file elements
  pub carried : inside.carried ≡ Some (carried_as (judged limits type inside.octets.items))
  pub named : AreCarried limits inside.octets.items inside.shape (judged limits type inside.octets.items)
      (inside.named.elements.items, inside.named.mismatch)

-- The value that the element of this number is of an extension is one more, where it has a type.
abbrev pub AddsCarried : Limits → List ℕ → List NamedElement → ℕ → Option TypeTerm → List Inside → List Inside → Type 0
AddsCarried limits file elements number None before after = after ≡ before
AddsCarried limits file elements number (Some type) before after =
    (inside : Inside) × IsValueOf limits file (drop number elements) number type inside × (after ≡ before ++ (inside ∷ []))

abbrev pub AddsBy : InsideSearch → List ℕ → List NamedElement → ℕ → Option (Bor Shape) → List Inside → List Inside
    → Type 0
AddsBy search file elements number (Some shape) before after =
    AddsContained search.limits file elements number (Some shape) before after
AddsBy search file elements number None before after =
    AddsCarried search.limits file elements number
    (looked_for search.in_extensions file elements (slice_get elements number)) before after

abbrev pub AddsInside : InsideSearch → List ℕ → List NamedElement → ℕ → List Inside → List Inside → Type 0
AddsInside search file elements number before after =
    AddsBy search file elements number (contained_at (slice_get elements number)) before after

-- They are the documents inside the first elements, so many, in their order: none is left out.
abbrev pub HasInsides : InsideSearch → List ℕ → List NamedElement → ℕ → List Inside → Type 0
HasInsides search file elements zero insides = insides ≡ []
HasInsides search file elements (suc number) insides =
    (before : List Inside) × HasInsides search file elements number before
    × AddsInside search file elements number before insides

-- what the value of an extension is as one of its type
abbrev pub carried_by : Option Inside → Option Carried
carried_by inside = option_and_then (λ it. it.carried) inside

-- the document inside the element at this place
abbrev pub is_at_place : ℕ → Option NamedElement → Bool
is_at_place at None = false
is_at_place at (Some element) = element.header.at == at

abbrev pub inside_at : List NamedElement → List Inside → ℕ → Option Inside
inside_at elements [] at = None
inside_at elements (inside ∷ insides) at =
    cond (is_at_place at (slice_get elements inside.container)) (Some inside) (inside_at elements insides at)
