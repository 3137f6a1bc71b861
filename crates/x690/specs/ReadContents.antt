-- The plain reading of leaves and open values (X.690 8.2 to 8.8, 8.19, 8.23), with the first fault in each (profile).
-- Tests on contents, each the same as the relation of its name in Contents and ObjectIdentifiers.
use Rattle.std.specs.Prelude.{Bool, List, None, Some, [], false, length, nat_le, nat_lt, not, suc, true, zero, ℕ, ◌&&◌, ◌*◌, ◌++◌, ◌+◌, ◌-◌, ◌==◌, ◌||◌, ◌∷◌}
use Rattle.std.specs.Str.{is_utf8}
use Rattle.tlv_core.specs.Identifier.{Tag}
use Rattle.tlv_core.specs.Limits.{Limits}
use Rattle.tlv_core.specs.declared.reason.Reason.TheVariants.{BadBits, BadText, LeftOut, TooDeep, WrongForm, WrongTag}
pub use Rattle.x690.specs.Contents.{bad_contents, segment_tag}
use Rattle.x690.specs.Contents.{BitString, Boolean, Integer, LeafKind, Null, ObjectIdentifier, OctetString, Utf8String, bit_contents, boolean_contents, unused_bits}
use Rattle.x690.specs.Layouts.{same_tag, universal}
use Rattle.x690.specs.Lists.{join}
use Rattle.x690.specs.OpenValues.{OpenLeaf, OpenPlain, OpenRefused, OpenSequence, OpenSetOf, open_form}
use Rattle.x690.specs.Points.{Enclosing, fault}
use Rattle.x690.specs.ReadHeaders.{Ended, each_member, in_container, primitive_contents}
use Rattle.x690.specs.Reading.{Done, Fail, Reading, require, ◌>>=◌}
use Rattle.x690.specs.Values.{Leaf, Sequence, SetOf, Value, values_of}

abbrev pub is_integer_contents : List ℕ → Bool
is_integer_contents [] = false
is_integer_contents (x ∷ []) = true
is_integer_contents (x ∷ y ∷ segments) = (not (x == 0) || nat_le 128 y) && (not (x == 255) || nat_lt y 128)

-- Subidentifiers below 2^128; `number` is what stands before the next octet, 0 in front of a subidentifier.
unfoldable pub is_subidentifiers : ℕ → List ℕ → Bool
is_subidentifiers number [] = number == 0
is_subidentifiers number (x ∷ segments) =
    (not ((number == 0) && (x == 128)) && nat_lt x 256)
    && elim (nat_lt x 128) [
      | true ↦ nat_lt (number * 128 + x) 340282366920938463463374607431768211456 && is_subidentifiers 0 segments
      | false ↦ is_subidentifiers (number * 128 + (x - 128)) segments
    ]

abbrev pub is_object_identifier : List ℕ → Bool
is_object_identifier [] = false
is_object_identifier (x ∷ segments) = is_subidentifiers 0 (x ∷ segments)

abbrev pub is_bit_segment : List ℕ → Bool
is_bit_segment [] = false
is_bit_segment (unused ∷ []) = unused == 0
is_bit_segment (unused ∷ x ∷ segments) = nat_le unused 7

-- the contents of a primitive element are those of the kind
abbrev pub is_contents : LeafKind → List ℕ → Bool
is_contents Boolean contents = length contents == 1
is_contents Integer contents = is_integer_contents contents
is_contents Null contents = length contents == 0
is_contents ObjectIdentifier contents = is_object_identifier contents
is_contents BitString contents = is_bit_segment contents
is_contents OctetString contents = true
is_contents Utf8String contents = is_utf8 contents

-- the DER contents, of the contents of a primitive element
abbrev pub der_contents : LeafKind → List ℕ → List ℕ
der_contents Boolean contents = boolean_contents contents
der_contents Integer contents = contents
der_contents Null contents = contents
der_contents ObjectIdentifier contents = contents
der_contents BitString contents = bit_contents (contents ∷ [])
der_contents OctetString contents = contents
der_contents Utf8String contents = contents

-- the DER contents, of the primitive segments of a string
abbrev pub joined_contents : LeafKind → List (List ℕ) → List ℕ
joined_contents Boolean segments = join segments
joined_contents Integer segments = join segments
joined_contents Null segments = join segments
joined_contents ObjectIdentifier segments = join segments
joined_contents BitString segments = bit_contents segments
joined_contents OctetString segments = join segments
joined_contents Utf8String segments = join segments

-- the joined segments are contents of the kind
abbrev pub is_joined_contents : LeafKind → List (List ℕ) → Bool
is_joined_contents Boolean segments = false
is_joined_contents Integer segments = false
is_joined_contents Null segments = false
is_joined_contents ObjectIdentifier segments = false
is_joined_contents BitString segments = true
is_joined_contents OctetString segments = true
is_joined_contents Utf8String segments = is_utf8 (join segments)

-- The contents of a primitive segment after those before it: in a BIT STRING these have no unused bits.
abbrev pub is_next_segment : ℕ → List (List ℕ) → List ℕ → Bool
is_next_segment number before contents = not (number == 3) || (is_bit_segment contents && (unused_bits before == 0))

-- A segment whose identifier is taken, at most `deep` deep: the contents of the primitive segments before it and in it.
unfoldable pub read_segment : ℕ → Limits → ℕ → Enclosing → List (List ℕ) → ℕ → Tag → Bool → Reading (List (List ℕ))
read_segment zero limits number enclosing segments place tag constructed = Fail (fault place TooDeep)
read_segment (suc deep) limits number enclosing segments place tag constructed =
    require (same_tag tag (universal number)) (fault place WrongTag)
    (elim constructed [
      | true ↦
          in_container limits enclosing place true
          (λ inside. each_member (read_segment deep limits number inside) limits.octets limits inside segments)
          >>= λ ended. Done ended.all
      | false ↦
          primitive_contents limits enclosing place
          >>= λ contents.
          require (is_next_segment number segments contents) (fault place BadBits) (Done (segments ++ (contents ∷ [])))
    ])

-- A leaf whose identifier is taken.
unfoldable pub read_leaf : Limits → Enclosing → LeafKind → ℕ → Tag → Bool → Reading Value
read_leaf limits enclosing kind place tag constructed =
    elim constructed [
      | false ↦
          primitive_contents limits enclosing place
          >>= λ contents.
          require (is_contents kind contents) (fault place (bad_contents kind))
          (Done (Leaf tag (der_contents kind contents)))
      | true ↦ elim (segment_tag kind) [
        | None ↦ Fail (fault place WrongForm)
        | Some number ↦
            in_container limits enclosing place true
            (λ inside. each_member (read_segment limits.depth limits number inside) limits.octets limits inside [])
            >>= λ ended.
            require (is_joined_contents kind ended.all) (fault place BadText)
            (Done (Leaf tag (joined_contents kind ended.all)))
      ]
    ]

-- one more value after those before, by the reading of a member
unfoldable pub add_member : (ℕ → Tag → Bool → Reading Value) → List Value → ℕ → Tag → Bool → Reading (List Value)
add_member one values place tag constructed = one place tag constructed >>= λ value. Done (values ++ (value ∷ []))

-- the values of all elements of the container
unfoldable pub all_members : Limits → Enclosing → ℕ → Bool → (Enclosing → ℕ → Tag → Bool → Reading Value)
    → Reading (Ended (List Value))
all_members limits enclosing place constructed one =
    in_container limits enclosing place constructed
    (λ inside. each_member (add_member (one inside)) limits.octets limits inside [])

-- An open value whose identifier is taken, at most `deep` deep.
unfoldable pub read_open : ℕ → Limits → Enclosing → ℕ → Tag → Bool → Reading Value
read_open zero limits enclosing place tag constructed = Fail (fault place TooDeep)
read_open (suc deep) limits enclosing place tag constructed =
    elim (open_form tag) [
      | OpenRefused ↦ Fail (fault place LeftOut)
      | OpenLeaf kind ↦ read_leaf limits enclosing kind place tag constructed
      | OpenPlain ↦ elim constructed [
        | false ↦ primitive_contents limits enclosing place >>= λ contents. Done (Leaf tag contents)
        | true ↦
            all_members limits enclosing place true (λ inside. read_open deep limits inside)
            >>= λ ended. Done (Sequence tag (values_of ended.all))
      ]
      | OpenSequence ↦
          all_members limits enclosing place constructed (λ inside. read_open deep limits inside)
          >>= λ ended. Done (Sequence tag (values_of ended.all))
      | OpenSetOf ↦
          all_members limits enclosing place constructed (λ inside. read_open deep limits inside)
          >>= λ ended. Done (SetOf tag (values_of ended.all))
    ]
