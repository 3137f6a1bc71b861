-- What a report shows of contents: the number of the octets of what is private, of keys and signatures, and of strings
-- that aren't a subject's, and of a subjectPublicKey its first octet; of others what they say, and all of what is in the
-- value of a known extension.
use Rattle.std.specs.Prelude.{Bool, List, None, Option, Some, [], cond, false, length, nat_le, nat_lt, not, slice_get, string_bytes, true, ℕ, ◌&&◌, ◌*◌, ◌+◌, ◌==◌, ◌||◌, ◌∷◌, ◌<◌, ◌≡◌, codes}
use Rattle.std.specs.Option.{option_map}
use Rattle.tlv_core.specs.Identifier.{Tag}
use Rattle.tlv_core.specs.ObjectIdentifier.{IsObjectIdentifier}
use Rattle.tlv_core.specs.Texts.{oid_text}
use Rattle.x690.specs.Lists.{same_octets}
use Rattle.asn_names.specs.declared.element.NamedElement.{NamedElement}
use Rattle.asn_names.specs.declared.element.Step.{Step}
use Rattle.asn_names.specs.declared.element.Step.TheVariants.{Field, Member, Outermost, Outside, Segment}
use Rattle.pkix_shapes.specs.Identifiers.{row_of, usual}
use Rattle.pkix_shapes.specs.declared.shape.Contents.{Contents}
use Rattle.pkix_shapes.specs.declared.shape.Contents.TheVariants as leaves
use Rattle.pkix_shapes.specs.declared.shape.Shape.{Choice', Containing', DefinedBy', Leaf, ListOf', Named', Open, Private', Refused as RefusedType, Sequence', SetOf', Shape}
use Rattle.explain.specs.declared.document.values.Sort.{Sort}
use Rattle.explain.specs.declared.document.values.Sort.TheVariants.{Bits, Boolean, Characters, Identifier as IdentifierSort, Integer, Null, Octets, PublicKey}
use Rattle.reports.specs.declared.report.Value.{Value}
use Rattle.reports.specs.declared.report.Value.TheVariants as values

-- an element is the field of this name
abbrev pub is_field : Step → List ℕ → Bool
is_field (Field name) word = same_octets name.now word
is_field Outermost word = false
is_field (Member number) word = false
is_field (Segment number) word = false
is_field Outside word = false

-- The field subjectPublicKey is one of requests and public keys alone: no private key has it.
abbrev pub sort_of_leaf : Step → Contents → Sort
sort_of_leaf step leaves.Boolean = Boolean
sort_of_leaf step leaves.Integer = Integer
sort_of_leaf step leaves.Null = Null
sort_of_leaf step leaves.ObjectIdentifier = IdentifierSort
sort_of_leaf step leaves.BitString = cond (is_field step (codes "subjectPublicKey")) PublicKey Bits
sort_of_leaf step leaves.OctetString = Octets
sort_of_leaf step leaves.Utf8String = Characters
sort_of_leaf step leaves.Text = Characters

-- The contents are shown, in an element that isn't private.
abbrev pub is_public : Sort → Step → Bool
is_public Null step = true
is_public IdentifierSort step = true
is_public Integer step = true
is_public Boolean step = true
is_public Bits step = true
is_public PublicKey step = true
is_public Characters step = is_field step (codes "value")
is_public Octets step = false

-- by universal tags (X.680 8.4)
abbrev pub is_text_number : ℕ → Bool
is_text_number number = (number == 12) || (nat_le 18 number && nat_le number 28) || (number == 30)

abbrev pub sort_of_number : ℕ → Sort
sort_of_number number =
    cond (number == 1) Boolean
    (cond ((number == 2) || (number == 10)) Integer
    (cond (number == 3) Bits
    (cond (number == 5) Null
    (cond (number == 6) IdentifierSort
    (cond (is_text_number number) Characters Octets)))))

abbrev pub sort_of_type : Tag → Step → Shape → Sort
sort_of_type tag step (Leaf own contents) = sort_of_leaf step contents
sort_of_type tag step Open = cond (tag.class == 0) (sort_of_number tag.number) Octets
sort_of_type tag step (ListOf' own least p shape) = Octets
sort_of_type tag step (SetOf' own least p shape) = Octets
sort_of_type tag step (Sequence' own p fields) = Octets
sort_of_type tag step (Containing' own p shape) = Octets
sort_of_type tag step (RefusedType own) = Octets
sort_of_type tag step (DefinedBy' path identifiers p first q second) = Octets
sort_of_type tag step (Choice' p first q second) = Octets
sort_of_type tag step (Named' name p shape) = Octets
sort_of_type tag step (Private' p shape) = Octets

abbrev pub sort_by : Tag → Step → Option Shape → Sort
sort_by tag step None = Octets
sort_by tag step (Some shape) = sort_of_type tag step shape

-- what the contents of an element are: by its type, by its tag where that is open
abbrev pub sort_of : NamedElement → Sort
sort_of element = sort_by element.header.tag element.step (option_map (λ r. r.now) element.shape)

-- the number that goes on with these octets (X.690 8.3.3)
abbrev pub number_from : ℕ → List ℕ → ℕ
number_from number [] = number
number_from number (octet ∷ octets) = number_from (number * 256 + octet) octets

-- The first octet isn't needed (X.690 8.3.2), of a number that isn't negative.
abbrev pub is_padded : ℕ → List ℕ → Bool
is_padded first [] = false
is_padded first (second ∷ octets) = (first == 0) && nat_lt second 128

-- the number that an INTEGER of up to four contents octets is which isn't negative; of other contents none
abbrev pub number_of : List ℕ → Option ℕ
number_of [] = None
number_of (first ∷ octets) =
    cond (nat_lt first 128 && not (is_padded first octets) && nat_lt (length octets) 4)
    (Some (number_from first octets)) None

abbrev pub has_unused : List ℕ → Bool
has_unused [] = false
has_unused (unused ∷ octets) = nat_lt unused 8

-- Of contents of this sort their number alone is shown: they aren't short, or aren't what they have to be.
abbrev pub IsSizeAlone : Sort → List ℕ → Type 0
IsSizeAlone Null contents = (length contents == 0) ≡ false
IsSizeAlone Boolean contents = (length contents == 1) ≡ false
IsSizeAlone Integer contents = number_of contents ≡ None
IsSizeAlone Bits contents = has_unused contents ≡ false
IsSizeAlone PublicKey contents = has_unused contents ≡ false
IsSizeAlone Characters contents = ⊥
IsSizeAlone Octets contents = Unit {0}
IsSizeAlone IdentifierSort contents =
    (usual contents ≡ None) × (IsObjectIdentifier contents → ⊥)

-- Of the bits of a public key the first octet is said, too, where there is one; of others none.
abbrev pub SaysFirst : Sort → List ℕ → Option ℕ → Type 0
SaysFirst Bits octets first = first ≡ None
SaysFirst PublicKey octets first = first ≡ slice_get octets 0
SaysFirst Null octets first = ⊥
SaysFirst Boolean octets first = ⊥
SaysFirst Integer octets first = ⊥
SaysFirst Characters octets first = ⊥
SaysFirst Octets octets first = ⊥
SaysFirst IdentifierSort octets first = ⊥

-- The value says what contents of this sort are.
abbrev pub Says : Sort → List ℕ → Value → Type 0
Says sort contents values.Nothing = ⊥
Says sort contents values.NotShown = ⊥
Says sort contents (values.Size number) = (number ≡ length contents) × IsSizeAlone sort contents
Says sort contents (values.Bits number unused first) =
    (octets : List ℕ)
    × (contents ≡ unused ∷ octets)
    × (number ≡ length octets)
    × (unused < 8)
    × SaysFirst sort octets first
Says sort contents values.Null = (sort ≡ Null) × (contents ≡ [])
Says sort contents (values.Boolean is) =
    (sort ≡ Boolean) × (octet : ℕ) × (contents ≡ octet ∷ []) × (is ≡ not (octet == 0))
Says sort contents (values.Number number) = (sort ≡ Integer) × (number_of contents ≡ Some number)
Says sort contents (values.Named known) =
    (sort ≡ IdentifierSort) × (usual contents ≡ Some (row_of known.now))
Says sort contents (values.Arcs text) =
    (sort ≡ IdentifierSort)
    × (usual contents ≡ None)
    × IsObjectIdentifier contents
    × (string_bytes text ≡ oid_text contents)
Says sort contents (values.Characters octets) = (sort ≡ Characters) × (octets.items ≡ contents)
Says sort contents (values.Octets octets) = ⊥

-- What is shown of the contents of an element of a document: their number alone where it is private, or where they
-- aren't public.
abbrev pub ShowsOwn : NamedElement → List ℕ → Value → Type 0
ShowsOwn element contents value =
    elim (element.private || not (is_public (sort_of element) element.step)) [
      | true ↦ value ≡ values.Size (length contents)
      | false ↦ Says (sort_of element) contents value
    ]

abbrev pub AreOctets : List ℕ → Value → Type 0
AreOctets contents (values.Octets octets) = octets.items ≡ contents
AreOctets contents _ = ⊥

-- all that is in the value of an extension, by its octets where no words have it
abbrev pub ShowsAll : Sort → List ℕ → Value → Type 0
ShowsAll Null contents value = Says Null contents value
ShowsAll Boolean contents value = Says Boolean contents value
ShowsAll Integer contents value =
    elim (number_of contents) [ Some number ↦ Says Integer contents value | None ↦ AreOctets contents value ]
ShowsAll Bits contents value = AreOctets contents value
ShowsAll PublicKey contents value = AreOctets contents value
ShowsAll Characters contents value = Says Characters contents value
ShowsAll Octets contents value = AreOctets contents value
ShowsAll IdentifierSort contents value = Says IdentifierSort contents value

-- What is shown of the contents of an element: in the value of an extension all.
abbrev pub ShowsContents : Bool → NamedElement → List ℕ → Value → Type 0
ShowsContents false element contents value = ShowsOwn element contents value
ShowsContents true element contents value = ShowsAll (sort_of element) contents value
