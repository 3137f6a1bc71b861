-- The front of a refused document: its first octets, as far as they say one of a few things that many documents say. A
-- report of it shows no others.
use Rattle.std.specs.Prelude.{Bool, List, None, Option, Some, [], codes, cond, drop, false, length, min, nat_le, nat_lt, not, take, true, unwrap_or, ℕ, ◌&&◌, ◌-◌, ◌==◌, ◌||◌, ◌∷◌}
use Rattle.std.specs.List.{slice_get}
use Rattle.std.specs.Option.{is_some, option_map}
use Rattle.tlv_core.specs.Identifier.{Tag}
use Rattle.asn_names.specs.Levels.{holds_segments}
use Rattle.asn_names.specs.declared.element.NamedElement.{NamedElement}
use Rattle.asn_names.specs.declared.element.Mismatch.{Mismatch}
use Rattle.asn_names.specs.declared.element.Mismatch.TheVariants.{Missing, Nowhere, Outermost as OutermostMismatch, Stopped, Unplaced}
use Rattle.asn_names.specs.declared.element.Step.{Step}
use Rattle.asn_names.specs.declared.element.Step.TheVariants.{Field, Member, Outermost, Outside, Segment}
use Rattle.pkix_shapes.specs.Identifiers.{usual}
use Rattle.pkix_shapes.specs.declared.shape.Shape.{Choice', Containing', DefinedBy', Leaf, ListOf', Named', Open, Private', Refused, Sequence', SetOf', Shape}
use Rattle.explain.specs.FaultContainers.{announced_end}
use Rattle.explain.specs.Contents.{contents_in}
use Rattle.explain.specs.Lines.{end_after}
use Rattle.explain.specs.Public.{is_field, sort_of}
use Rattle.explain.specs.FaultLocations.{element_with}
use Rattle.explain.specs.declared.listing.front.Mark.{Mark}
use Rattle.explain.specs.declared.listing.front.Mark.TheVariants as marks
use Rattle.explain.specs.declared.listing.front.FrontState.{FrontState}
use Rattle.explain.specs.declared.document.values.Sort.{Sort}
use Rattle.explain.specs.declared.document.values.Sort.TheVariants.{Bits, Boolean, Characters, Identifier, Integer, Null, Octets, PublicKey}

-- contents are one of two octets
abbrev pub is_one_of : List ℕ → ℕ → ℕ → Bool
is_one_of [] one other = false
is_one_of (octet ∷ []) one other = (octet == one) || (octet == other)
is_one_of (octet ∷ (next ∷ octets)) one other = false

-- Contents are usual: version 0 or 1; critical TRUE or FALSE; NULL; an object identifier that has a usual name.
abbrev pub is_usual : Sort → Step → List ℕ → Bool
is_usual Integer step contents = is_field step (codes "version") && is_one_of contents 0 1
is_usual Boolean step contents = is_field step (codes "critical") && is_one_of contents 0 255
is_usual Null step contents = length contents == 0
is_usual Identifier step contents = is_some (usual contents)
is_usual Bits step contents = false
is_usual PublicKey step contents = false
is_usual Characters step contents = false
is_usual Octets step contents = false

abbrev pub is_usual_leaf : NamedElement → List ℕ → Bool
is_usual_leaf element contents = is_usual (sort_of element) element.step contents

-- an element has its place in the type
abbrev pub is_in_place : Step → Bool
is_in_place Outside = false
is_in_place Outermost = true
is_in_place (Field name) = true
is_in_place (Member number) = true
is_in_place (Segment number) = true

-- elements of the type and tag hold others, and aren't strings; an open value does where it is a SEQUENCE or a SET:
-- what is of another class may be octets that were copied there
abbrev pub is_container_tag : Tag → Bool
is_container_tag tag = (tag.class == 0) && ((tag.number == 16) || (tag.number == 17))

abbrev pub is_container_type : Tag → Shape → Bool
is_container_type tag (Sequence' own p fields) = true
is_container_type tag (ListOf' own least p member) = true
is_container_type tag (SetOf' own least p member) = true
is_container_type tag Open = is_container_tag tag
is_container_type tag (Leaf own contents) = false
is_container_type tag (Containing' own p shape) = false
is_container_type tag (Refused own) = false
is_container_type tag (DefinedBy' path identifiers p first q second) = false
is_container_type tag (Choice' p first q second) = false
is_container_type tag (Named' name p shape) = false
is_container_type tag (Private' p shape) = false

abbrev pub is_container_by : Tag → Option Shape → Bool
is_container_by tag None = false
is_container_by tag (Some shape) = is_container_type tag shape

abbrev pub is_container : NamedElement → Bool
is_container element = is_container_by element.header.tag (option_map (λ r. r.now) element.shape)

-- an element is in constructed form, and has none: it is neither a container nor a string (X.690 8.2 to 8.14)
abbrev pub is_misformed : NamedElement → Bool
is_misformed element =
    element.header.constructed && not (is_container element || holds_segments element.header.tag)

abbrev pub mark_of_container : NamedElement → Mark
mark_of_container element =
    cond (is_container element)
    (cond (is_field element.step (codes "subject")) marks.Subject
    (cond (is_field element.step (codes "attributes")) marks.Attributes marks.Waits)) marks.Ends

-- the field of this name is public in each document that has it, and shown by its size alone
abbrev pub is_kept : Step → Bool
is_kept step =
    is_field step (codes "subjectPublicKey") || is_field step (codes "extnValue") || is_field step (codes "signature")

abbrev pub mark_of_leaf : NamedElement → Option (List ℕ) → Mark
mark_of_leaf element None = marks.Ends
mark_of_leaf element (Some contents) =
    cond (is_usual_leaf element contents) marks.Usual (cond (is_kept element.step) marks.Waits marks.Ends)

-- What an element is to whoever reads from the first octet on: usual; or shown where something usual comes after it;
-- or the end of the front, as what is private and what has no place is.
abbrev pub mark_of : List ℕ → NamedElement → Mark
mark_of document element =
    cond (element.private || not (is_in_place element.step)) marks.Ends
    (cond element.header.constructed (mark_of_container element)
    (mark_of_leaf element (contents_in document element)))

abbrev pub is_usual_mark : Mark → Bool
is_usual_mark marks.Usual = true
is_usual_mark marks.Waits = false
is_usual_mark marks.Subject = false
is_usual_mark marks.Attributes = false
is_usual_mark marks.Ends = false

-- an element is deeper than this, where this is known
abbrev pub is_deeper : Option ℕ → NamedElement → Bool
is_deeper None element = false
is_deeper (Some depth) element = nat_lt depth element.header.depth

-- where the header of an element ends, as far as it is whole; where the element does
abbrev pub header_end : NamedElement → ℕ
header_end element = unwrap_or element.begin element.header.at

abbrev pub shown_end_by : NamedElement → Option ℕ → ℕ
shown_end_by element None = header_end element
shown_end_by element (Some end) = end_after element.header.announced end

abbrev pub shown_end : NamedElement → ℕ
shown_end element = shown_end_by element element.end

-- the octets after a length of at most five octets (X.690 8.1.3)
abbrev pub after_length : List ℕ → Option (List ℕ)
after_length [] = None
after_length (first ∷ octets) =
    cond (nat_le first 128) (Some octets) (cond (nat_le first 132) (Some (drop (first - 128) octets)) None)

-- the octets after the header of a SEQUENCE
abbrev pub after_header : List ℕ → Option (List ℕ)
after_header [] = None
after_header (identifier ∷ octets) = cond (identifier == 48) (after_length octets) None

-- octets begin with an object identifier that has a usual name
abbrev pub is_named : List ℕ → Bool
is_named [] = false
is_named (identifier ∷ []) = false
is_named (identifier ∷ (size ∷ octets)) = (identifier == 6) && is_some (usual (take size octets))

abbrev pub is_algorithm : Option (List ℕ) → Bool
is_algorithm None = false
is_algorithm (Some octets) = is_named octets

abbrev pub holds_algorithm : Option (List ℕ) → Bool
holds_algorithm None = false
holds_algorithm (Some octets) = is_algorithm (after_header octets)

-- octets begin as a SubjectPublicKeyInfo does whose algorithm has a usual name (RFC 5280 section 4.1)
abbrev pub begins_key : List ℕ → Bool
begins_key octets = holds_algorithm (after_header octets)

abbrev pub has_key_at : List ℕ → Option ℕ → Bool
has_key_at document None = false
has_key_at document (Some end) = begins_key (drop end document)

-- a public key comes after a subject, of definite length
abbrev pub has_key_after : List ℕ → NamedElement → Bool
has_key_after document element = has_key_at document (announced_end element)

-- before the first element
abbrev pub start : FrontState
start = record { octets = 0; subject = None; ended = false }

abbrev pub end_of_front : FrontState → FrontState
end_of_front state = record state { ended = true }

-- One element more of a subject that is shown: of a container its header is. One that is misformed is the last.
abbrev pub after_subject : FrontState → NamedElement → FrontState
after_subject state element =
    cond (is_in_place element.step)
    (record state {
      octets = cond element.header.constructed (header_end element) (shown_end element);
      ended = is_misformed element;
    })
    (end_of_front state)

abbrev pub without_subject : FrontState → FrontState
without_subject state = record state { subject = None }

-- One element more, in no subject. A subject is shown where a public key comes after it.
abbrev pub after_outside_subject : List ℕ → FrontState → NamedElement → Mark → FrontState
after_outside_subject document state element marks.Usual =
    record (without_subject state) { octets = shown_end element }
after_outside_subject document state element marks.Waits = without_subject state
after_outside_subject document state element marks.Subject =
    cond (has_key_after document element)
    (record { octets = header_end element; subject = Some element.header.depth; ended = false })
    (end_of_front (without_subject state))
after_outside_subject document state element marks.Attributes =
    record (without_subject state) { octets = element.header.at }
after_outside_subject document state element marks.Ends = end_of_front (without_subject state)

-- one element more
abbrev pub after_element : List ℕ → FrontState → NamedElement → FrontState
after_element document state element =
    cond state.ended state
    (cond (is_deeper state.subject element) (after_subject state element)
    (after_outside_subject document state element (mark_of document element)))

-- one element after another
abbrev pub read_from : List ℕ → FrontState → List NamedElement → FrontState
read_from document state [] = state
read_from document state (element ∷ elements) = read_from document (after_element document state element) elements

abbrev pub after_whole : ℕ → Option NamedElement → ℕ
after_whole octets None = octets
after_whole octets (Some element) =
    elim element.end [ None ↦ octets | Some end ↦ end_after element.header.announced end ]

-- all of a document that is whole, each element in its place, and none of which ends the front
abbrev pub front_by : FrontState → List NamedElement → Mismatch → ℕ
front_by state elements Nowhere =
    cond state.ended state.octets (after_whole state.octets (slice_get elements 0))
front_by state elements OutermostMismatch = state.octets
front_by state elements (Unplaced container level) = state.octets
front_by state elements (Missing container level) = state.octets
front_by state elements (Stopped container) = state.octets

-- Where the front ends at the latest: with the element that is refused, or in front of what isn't one.
abbrev pub cut_by : ℕ → Option NamedElement → ℕ
cut_by at None = at
cut_by at (Some element) = shown_end element

abbrev pub cut_at : List NamedElement → ℕ → ℕ
cut_at elements at = cut_by at (element_with elements at)

-- How many octets are shown of a document that is refused at this place, by its elements and by where its type and they
-- part.
abbrev pub front_size : List ℕ → List NamedElement → Mismatch → ℕ → ℕ
front_size document elements mismatch at =
    min (front_by (read_from document start elements) elements mismatch) (cut_at elements at)
