-- The contents of leaves (X.690 8.2, 8.3, 8.4, 8.6, 8.7, 8.8, 8.19, 8.23).
use Rattle.std.specs.Prelude.{IsUtf8, List, None, Option, Some, [], false, length, true, ℕ, ◌*◌, ◌++◌, ◌/◌, ◌<◌, ◌==◌, ◌^◌, ◌∷◌, ◌≡◌, ◌≤◌}
use Rattle.tlv_core.specs.ObjectIdentifier.{IsObjectIdentifier}
use Rattle.tlv_core.specs.declared.reason.Reason.{Reason}
use Rattle.tlv_core.specs.declared.reason.Reason.TheVariants.{BadBits, BadBoolean, BadInteger, BadNull, BadOid, BadText}
use Rattle.x690.specs.Layouts.{Constructed, FirstTree, NoTrees, Primitive, RawTree, RawTrees, tree_tag, universal}
use Rattle.x690.specs.Lists.{join}

-- What the contents of a leaf are. ENUMERATED has those of INTEGER (8.4), strings and times other than UTF8String those
-- of OCTET STRING (8.23, 8.25).
pub data LeafKind : Type 0 where
  Boolean Integer Null ObjectIdentifier BitString OctetString Utf8String : LeafKind

unfoldable mutual
  -- the contents of the primitive segments of a string, in order: of the one that it is, or of those in it,
  -- however nested (8.6.4, 8.7.3)
  pub segments : RawTree → List (List ℕ)
  segments (Primitive tag contents) = contents ∷ []
  segments (Constructed tag trees) = all_segments trees

  pub all_segments : RawTrees → List (List ℕ)
  all_segments NoTrees = []
  all_segments (FirstTree tree trees) = segments tree ++ all_segments trees

unfoldable mutual
  -- Each segment in the string, primitive or constructed, has the universal tag of this number.
  pub Segmented : ℕ → RawTree → Type 0
  Segmented number (Primitive tag contents) = Unit {0}
  Segmented number (Constructed tag trees) = AllSegmented number trees

  pub AllSegmented : ℕ → RawTrees → Type 0
  AllSegmented number NoTrees = Unit {0}
  AllSegmented number (FirstTree tree trees) =
      (tree_tag tree ≡ universal number) × Segmented number tree × AllSegmented number trees

-- The octets of a string: its segments are OCTET STRINGs, joined in order (8.7, 8.23).
pub record StringContents (tree : RawTree) (octets : List ℕ) : Type 0 where
  pub segmented : Segmented 4 tree
  pub is : octets ≡ join (segments tree)

-- The contents of a primitive BIT STRING: the number of unused bits, 0 to 7, and 0 where no octet follows (8.6.2).
abbrev pub IsBitSegment : List ℕ → Type 0
IsBitSegment [] = ⊥
IsBitSegment (unused ∷ octets) = (unused ≤ 7) × ((octets ≡ []) → unused ≡ 0)

-- the number of unused bits of the last segment, 0 where there is none
abbrev pub unused_bits : List (List ℕ) → ℕ
unused_bits [] = 0
unused_bits ([] ∷ []) = 0
unused_bits ((unused ∷ octets) ∷ []) = unused
unused_bits (segment ∷ next ∷ more) = unused_bits (next ∷ more)

-- Each is the contents of a BIT STRING, and all but the last have no unused bits (8.6.4).
abbrev pub AreBitSegments : List (List ℕ) → Type 0
AreBitSegments [] = Unit {0}
AreBitSegments (segment ∷ []) = IsBitSegment segment
AreBitSegments (segment ∷ next ∷ more) =
    IsBitSegment segment × (unused_bits (segment ∷ []) ≡ 0) × AreBitSegments (next ∷ more)

-- the octets of the segments, their numbers of unused bits apart
abbrev pub bit_octets : List (List ℕ) → List ℕ
bit_octets [] = []
bit_octets ([] ∷ more) = bit_octets more
bit_octets ((unused ∷ octets) ∷ more) = octets ++ bit_octets more

-- the octets with the last `unused` bits of the last one set to 0 (11.2.1)
abbrev pub clear_unused : ℕ → List ℕ → List ℕ
clear_unused unused [] = []
clear_unused unused (x ∷ []) = (x / 2 ^ unused * 2 ^ unused) ∷ []
clear_unused unused (x ∷ y ∷ octets) = x ∷ clear_unused unused (y ∷ octets)

-- the DER contents of a BIT STRING of these segments
abbrev pub bit_contents : List (List ℕ) → List ℕ
bit_contents segments = unused_bits segments ∷ clear_unused (unused_bits segments) (bit_octets segments)

-- The DER contents of a BIT STRING: its segments are BIT STRINGs (8.6).
pub record BitStringContents (tree : RawTree) (octets : List ℕ) : Type 0 where
  pub segmented : Segmented 3 tree
  pub each : AreBitSegments (segments tree)
  pub is : octets ≡ bit_contents (segments tree)

-- The contents of an INTEGER: at least one octet, and the first nine bits neither all 0 nor all 1 (8.3.2).
abbrev pub IsInteger : List ℕ → Type 0
IsInteger [] = ⊥
IsInteger (x ∷ []) = Unit {0}
IsInteger (x ∷ y ∷ octets) = ((x ≡ 0) → 128 ≤ y) × ((x ≡ 255) → y < 128)

-- the DER contents of a BOOLEAN: 00 for FALSE, FF for TRUE, which BER gives as any octet but 00 (8.2.2, 11.1)
abbrev pub boolean_contents : List ℕ → List ℕ
boolean_contents [] = []
boolean_contents (x ∷ octets) = elim (x == 0) [ true ↦ 0 ∷ [] | false ↦ 255 ∷ [] ]

-- The tree, its tag apart, is a leaf of the kind, and the octets are its DER contents. Strings
-- alone may be constructed.
unfoldable pub LeafContents : LeafKind → RawTree → List ℕ → Type 0
LeafContents Boolean (Primitive tag contents) octets = (length contents ≡ 1) × (octets ≡ boolean_contents contents)
LeafContents Boolean (Constructed tag trees) octets = ⊥
LeafContents Integer (Primitive tag contents) octets = IsInteger contents × (octets ≡ contents)
LeafContents Integer (Constructed tag trees) octets = ⊥
LeafContents Null (Primitive tag contents) octets = (contents ≡ []) × (octets ≡ contents)
LeafContents Null (Constructed tag trees) octets = ⊥
LeafContents ObjectIdentifier (Primitive tag contents) octets = IsObjectIdentifier contents × (octets ≡ contents)
LeafContents ObjectIdentifier (Constructed tag trees) octets = ⊥
LeafContents BitString tree octets = BitStringContents tree octets
LeafContents OctetString tree octets = StringContents tree octets
LeafContents Utf8String tree octets = StringContents tree octets × IsUtf8 octets

-- The reason for contents of a primitive element that are none of the kind.
abbrev pub bad_contents : LeafKind → Reason
bad_contents Boolean = BadBoolean
bad_contents Integer = BadInteger
bad_contents Null = BadNull
bad_contents ObjectIdentifier = BadOid
bad_contents BitString = BadBits
bad_contents OctetString = BadText
bad_contents Utf8String = BadText

-- the universal tag that the segments of a constructed string have, none where the kind is always primitive
abbrev pub segment_tag : LeafKind → Option ℕ
segment_tag Boolean = None
segment_tag Integer = None
segment_tag Null = None
segment_tag ObjectIdentifier = None
segment_tag BitString = Some 3
segment_tag OctetString = Some 4
segment_tag Utf8String = Some 4
