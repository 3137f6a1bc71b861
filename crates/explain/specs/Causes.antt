-- Why an element isn't in DER (X.690 clauses 10 and 11).
use Rattle.std.specs.Prelude.{Bool, List, None, Option, Some, [], codes, cond, drop, false, length, nat_le, nat_lt, not, slice_get, slice_set, true, unwrap_or, ℕ, ◌+◌, ◌-◌, ◌∷◌, ◌&&◌, ◌==◌, ◌||◌, ◌^◌, ◌%◌}
use Rattle.std.specs.Option.{is_some, option_map}
use Rattle.tlv_core.specs.Header.{der_header}
use Rattle.tlv_core.specs.Identifier.{Tag}
use Rattle.asn_elements.specs.Members.{ascends}
use Rattle.asn_names.specs.Levels.{holds_segments}
use Rattle.asn_names.specs.declared.element.NamedElement.{NamedElement}
use Rattle.asn_names.specs.declared.element.Step.{Step}
use Rattle.asn_names.specs.declared.element.Step.TheVariants.{Field, Member, Outermost, Outside, Segment}
use Rattle.ber_outline.specs.declared.announced.Announced.{Announced}
use Rattle.ber_outline.specs.declared.event.ElementHeader.{ElementHeader}
use Rattle.pkix_shapes.specs.declared.shape.Shape.{Choice', Containing', DefinedBy', Leaf, ListOf', Named', Open, Private', Refused, Sequence', SetOf', Shape}
use Rattle.explain.specs.Contents.{between, contents_in}
use Rattle.explain.specs.Public.{is_field, sort_of}
use Rattle.explain.specs.declared.document.values.Sort.{Sort}
use Rattle.explain.specs.declared.document.values.Sort.TheVariants.{Bits, Boolean, Characters, Identifier, Integer, Null, Octets, PublicKey}
use Rattle.reports.specs.declared.report.Cause.{Cause}
use Rattle.reports.specs.declared.report.Cause.TheVariants as causes

-- whether elements of the type and tag are strings
abbrev pub is_string_type : Tag → Shape → Bool
is_string_type tag (Leaf own contents) = true
is_string_type tag (Containing' own p shape) = true
is_string_type tag Open = holds_segments tag
is_string_type tag (ListOf' own least p member) = false
is_string_type tag (SetOf' own least p member) = false
is_string_type tag (Sequence' own p fields) = false
is_string_type tag (Refused own) = false
is_string_type tag (DefinedBy' path identifiers p first q second) = false
is_string_type tag (Choice' p first q second) = false
is_string_type tag (Named' name p shape) = false
is_string_type tag (Private' p shape) = false

abbrev pub is_string_by : Tag → Option Shape → Bool
is_string_by tag None = false
is_string_by tag (Some shape) = is_string_type tag shape

-- an element is a string in segments, which DER forbids (10.2)
abbrev pub is_in_segments : NamedElement → Bool
is_in_segments element =
    element.header.constructed && is_string_by element.header.tag (option_map (λ r. r.now) element.shape)

-- the length octets are indefinite, or more than the fewest (10.1)
abbrev pub cause_of_length : ElementHeader → ℕ → Option ℕ → Option Cause
cause_of_length header contents None = Some causes.IndefiniteLength
cause_of_length header contents (Some length') =
    cond ((contents - header.at) == length (der_header header.tag false length')) None (Some causes.LongLength)

abbrev pub length_cause_by : ElementHeader → Option Announced → Option Cause
length_cause_by header None = None
length_cause_by header (Some announced) = cause_of_length header announced.contents announced.length

abbrev pub length_cause : ElementHeader → Option Cause
length_cause header = length_cause_by header header.announced

-- a default written out (11.5): critical is FALSE by default; TRUE by another octet than FF (11.1)
abbrev pub boolean_cause : Step → List ℕ → Option Cause
boolean_cause step [] = None
boolean_cause step (octet ∷ []) =
    cond ((octet == 0) && is_field step (codes "critical")) (Some causes.Default)
    (cond ((octet == 0) || (octet == 255)) None (Some causes.True))
boolean_cause step (octet ∷ (other ∷ octets)) = None

-- the value of the lowest bit that is used, so many being unused
abbrev pub unit_of : ℕ → ℕ
unit_of unused = cond (nat_le unused 7) (2 ^ unused) 1

abbrev pub last_bits_cause : ℕ → Option ℕ → Option Cause
last_bits_cause unused None = None
last_bits_cause unused (Some last) = cond ((last % unit_of unused) == 0) None (Some causes.UnusedBits)

-- unused bits that aren't 0 (11.2.1)
abbrev pub bits_cause : List ℕ → Option Cause
bits_cause [] = None
bits_cause (unused ∷ octets) = last_bits_cause unused (slice_get octets (length octets - 1))

abbrev pub cause_in : Sort → Step → List ℕ → Option Cause
cause_in Boolean step contents = boolean_cause step contents
cause_in Bits step contents = bits_cause contents
cause_in PublicKey step contents = bits_cause contents
cause_in Integer step contents = None
cause_in Null step contents = None
cause_in Identifier step contents = None
cause_in Characters step contents = None
cause_in Octets step contents = None

abbrev pub cause_in_contents : NamedElement → Option (List ℕ) → Option Cause
cause_in_contents element None = None
cause_in_contents element (Some contents) = cause_in (sort_of element) element.step contents

abbrev pub first_of_both : Option Cause → Option Cause → Option Cause
first_of_both None other = other
first_of_both (Some cause) other = Some cause

-- Why an element with a place of its own isn't in DER, whatever is in it.
abbrev pub shown_cause : List ℕ → NamedElement → Option Cause
shown_cause document element =
    cond (is_in_segments element) (Some causes.Segments)
    (first_of_both (length_cause element.header) (cause_in_contents element (contents_in document element)))

-- elements of the type may be any
abbrev pub is_open_type : Shape → Bool
is_open_type Open = true
is_open_type (Leaf own contents) = false
is_open_type (ListOf' own least p member) = false
is_open_type (SetOf' own least p member) = false
is_open_type (Sequence' own p fields) = false
is_open_type (Containing' own p shape) = false
is_open_type (Refused own) = false
is_open_type (DefinedBy' path identifiers p first q second) = false
is_open_type (Choice' p first q second) = false
is_open_type (Named' name p shape) = false
is_open_type (Private' p shape) = false

abbrev pub is_open : Option Shape → Bool
is_open None = false
is_open (Some shape) = is_open_type shape

-- all octets of an element are private, its header too: it is of an open type, or a value in one
abbrev pub is_hidden : NamedElement → Bool
is_hidden element = element.private && is_open (option_map (λ r. r.now) element.shape)

abbrev pub cause_of : List ℕ → NamedElement → Option Cause
cause_of document element = cond (is_hidden element) None (shown_cause document element)

abbrev pub cause_by : List ℕ → NamedElement → Step → Option Cause
cause_by document element (Segment number) = None
cause_by document element Outermost = cause_of document element
cause_by document element (Field name) = cause_of document element
cause_by document element (Member number) = cause_of document element
cause_by document element Outside = cause_of document element

-- of a segment nothing is said: the string that it is in has the cause; of what is hidden neither
abbrev pub own_cause : List ℕ → NamedElement → Option Cause
own_cause document element = cause_by document element element.step

abbrev pub is_set_type : Bool → Tag → Shape → Bool
is_set_type constructed tag (SetOf' own least p member) = true
is_set_type constructed tag Open = constructed && (tag.class == 0) && (tag.number == 17)
is_set_type constructed tag (Leaf own contents) = false
is_set_type constructed tag (ListOf' own least p member) = false
is_set_type constructed tag (Sequence' own p fields) = false
is_set_type constructed tag (Containing' own p shape) = false
is_set_type constructed tag (Refused own) = false
is_set_type constructed tag (DefinedBy' path identifiers p first q second) = false
is_set_type constructed tag (Choice' p first q second) = false
is_set_type constructed tag (Named' name p shape) = false
is_set_type constructed tag (Private' p shape) = false

abbrev pub is_set_by : Bool → Tag → Option Shape → Bool
is_set_by constructed tag None = false
is_set_by constructed tag (Some shape) = is_set_type constructed tag shape

-- an element is a SET OF: by its type, by its tag where that is open
abbrev pub is_set : NamedElement → Bool
is_set element =
    is_set_by element.header.constructed element.header.tag (option_map (λ r. r.now) element.shape)

-- the octets of an element that is whole and has a definite length
abbrev pub encoding_of : List ℕ → NamedElement → List ℕ
encoding_of document element = unwrap_or (between document (Some element.header.at) element.end) []

-- The octets of the members of an element that is so deep, by the elements after it: of those that are one deeper, as
-- long as they are deeper.
abbrev pub member_encodings : List ℕ → ℕ → List NamedElement → List (List ℕ)
member_encodings document depth [] = []
member_encodings document depth (element ∷ elements) =
    cond (nat_lt depth element.header.depth)
    (cond (element.header.depth == depth + 1) (encoding_of document element ∷ member_encodings document depth elements)
    (member_encodings document depth elements)) []

-- the first cause of elements as long as they are deeper
abbrev pub cause_within : ℕ → List NamedElement → List (Option Cause) → Option Cause
cause_within depth [] causes' = None
cause_within depth (element ∷ elements) [] = None
cause_within depth (element ∷ elements) (cause ∷ causes') =
    cond (nat_lt depth element.header.depth) (first_of_both cause (cause_within depth elements causes')) None

-- one of the elements is hidden, as long as they are deeper
abbrev pub holds_hidden : ℕ → List NamedElement → Bool
holds_hidden depth [] = false
holds_hidden depth (element ∷ elements) =
    cond (nat_lt depth element.header.depth) (cond (is_hidden element) true (holds_hidden depth elements)) false

-- Nothing in an element that is so deep is hidden or has a cause, and its members aren't in the order of SET OF
-- (11.6).
abbrev pub is_out_of_order : List ℕ → ℕ → List NamedElement → List (Option Cause) → Bool
is_out_of_order document depth elements causes' =
    not (holds_hidden depth elements) && not (is_some (cause_within depth elements causes'))
    && not (ascends (member_encodings document depth elements))

-- the order of a SET OF is a cause, by the elements after it and their causes
abbrev pub order_cause : List ℕ → NamedElement → List NamedElement → List (Option Cause) → Option Cause
order_cause document element elements causes' =
    cond (is_set element && is_out_of_order document element.header.depth elements causes') (Some causes.Order) None

-- The cause of an element before those of the elements after it: its own, else its order.
abbrev pub with_cause : List ℕ → NamedElement → List NamedElement → List (Option Cause) → List (Option Cause)
with_cause document element elements causes' =
    first_of_both (own_cause document element) (order_cause document element elements causes') ∷ causes'

-- the causes of the elements of a document
abbrev pub causes_of : List ℕ → List NamedElement → List (Option Cause)
causes_of document [] = []
causes_of document (element ∷ elements) = with_cause document element elements (causes_of document elements)

-- an element without a cause is a SET OF that is out of order
abbrev pub is_disordered_by : List ℕ → Option NamedElement → Option (Option Cause) → List NamedElement
    → List (Option Cause)
    → Bool
is_disordered_by document None cause elements causes' = false
is_disordered_by document (Some element) None elements causes' = false
is_disordered_by document (Some element) (Some (Some cause)) elements causes' = false
is_disordered_by document (Some element) (Some None) elements causes' =
    is_set element && is_out_of_order document element.header.depth elements causes'

-- so is the element of this number
abbrev pub is_disordered : List ℕ → List NamedElement → List (Option Cause) → ℕ → Bool
is_disordered document elements causes' number =
    is_disordered_by document (slice_get elements number) (slice_get causes' number) (drop (number + 1) elements)
    (drop (number + 1) causes')

-- its order becomes its cause
abbrev pub with_order : List ℕ → List NamedElement → List (Option Cause) → ℕ → List (Option Cause)
with_order document elements causes' number =
    cond (is_disordered document elements causes' number) (slice_set causes' number (Some causes.Order)) causes'

-- The cause that the line of an element shows: its own; of a private one without a cause the first in it, since no line
-- shows what is in it.
abbrev pub line_cause_by : Option NamedElement → Option (Option Cause) → List NamedElement → List (Option Cause)
    → Option Cause
line_cause_by None cause elements causes' = None
line_cause_by (Some element) None elements causes' = None
line_cause_by (Some element) (Some cause) elements causes' =
    first_of_both cause (cond element.private (cause_within element.header.depth elements causes') None)

-- of the element of this number; none where there are no causes
abbrev pub line_cause : List NamedElement → List (Option Cause) → ℕ → Option Cause
line_cause elements causes' number =
    line_cause_by (slice_get elements number) (slice_get causes' number) (drop (number + 1) elements)
    (drop (number + 1) causes')
