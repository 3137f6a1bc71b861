-- The fault grammar of contents: primitive elements, strings with segments, and open values (X.690 8.2 to 8.8, 8.19,
-- 8.23; which fault comes first: profile).
use Rattle.std.specs.Prelude.{Bool, IsUtf8, List, None, Some, [], false, length, suc, true, zero, ℕ, ◌++◌, ◌+◌, ◌<◌, ◌∷◌, ◌≡◌, ◌≢◌, ◌≤◌, ◌⊎◌}
use Rattle.tlv_core.specs.Identifier.{Tag}
use Rattle.tlv_core.specs.Limits.{Limits}
use Rattle.tlv_core.specs.declared.fault.Fault.{Fault}
use Rattle.tlv_core.specs.declared.reason.Reason.TheVariants.{BadBits, BadText, LeftOut, Truncated, WrongForm, WrongTag}
use Rattle.x690.specs.Contents.{bad_contents, segment_tag, AreBitSegments, LeafContents, LeafKind, Segmented, Utf8String, segments}
use Rattle.x690.specs.HeaderFaults.{EndsHere, LengthStands, OpensThen, StandsThen, StopsInForm, StopsInLength, StopsInTag}
use Rattle.x690.specs.Layouts.{LaidOut, Primitive, RawTree, tree_depth, tree_tag, universal}
use Rattle.x690.specs.Lists.{join}
use Rattle.x690.specs.OpenValues.{OpenLeaf, OpenPlain, OpenRefused, OpenSequence, OpenSetOf, open_form}
use Rattle.x690.specs.Points.{Enclosing, fault, past_end}
use Rattle.x690.specs.Takes.{Takes}
use Rattle.x690.specs.TypeTerms.{OpenType, TypeTerm}
use Rattle.x690.specs.Values.{Value}

-- Elements stand one after another, so many of them, each going on from the state that those before
-- left; and then this holds.
unfoldable pub After : {State : Type 0} → (State → ℕ → List ℕ → State → ℕ → List ℕ → Type 0)
    → (State → ℕ → List ℕ → Type 0) → ℕ → State → ℕ → List ℕ → Type 0
After Stand Then zero state place octets = Then state place octets
After {State} Stand Then (suc number) state place octets =
    (state' : State)
    × (taken : ℕ)
    × (rest : List ℕ)
    × Stand state place octets state' taken rest
    × After Stand Then number state' (place + taken) rest

-- What stands at the place stops in its identifier, or after it.
abbrev pub StopsHere : Limits → Enclosing → (ℕ → Tag → Bool → ℕ → List ℕ → Fault → Type 0) → ℕ → List ℕ → Fault → Type 0
StopsHere limits enclosing Behind place octets found =
    StopsInTag limits enclosing place octets found
    ⊎ StandsThen limits enclosing place octets
    (λ tag constructed behind rest. Behind place tag constructed behind rest found)

-- A primitive element stops after its identifier: in its length, where the octets end in its contents, or where all
-- its contents stand and are bad.
abbrev pub PrimitiveStops : Limits → Enclosing → ℕ → ℕ → List ℕ → (List ℕ → Type 0) → Fault → Type 0
PrimitiveStops limits enclosing place here octets Bad found =
    StopsInLength limits enclosing.nearest_end place false here octets found
    ⊎ ((number : ℕ) × (behind : ℕ) × (rest : List ℕ)
    × LengthStands limits enclosing.nearest_end here octets number behind rest
    × (length rest < number) × (found ≡ fault (behind + length rest) Truncated))
    ⊎ ((contents : List ℕ) × (behind : ℕ) × (rest : List ℕ)
    × LengthStands limits enclosing.nearest_end here octets (length contents) behind (contents ++ rest) × Bad contents)

-- A segment of a string stands: an element of the universal tag of this number, whose primitive segments come after
-- those `before`, BIT STRINGs without unused bits but in the last.
pub record SegmentStands (limits : Limits) (enclosing : Enclosing) (number : ℕ) (before : List (List ℕ)) (place : ℕ)
    (stand : List ℕ) (after : List (List ℕ)) (taken : ℕ) (rest : List ℕ) : Type 0 where
  pub tree : RawTree
  pub octets : List ℕ
  pub is : stand ≡ octets ++ rest
  pub count : length octets ≡ taken
  pub laid_out : LaidOut tree octets
  pub in_bound : past_end enclosing.nearest_end (place + taken) ≡ false
  pub in_limit : place + taken ≤ limits.octets
  pub depth_fits : enclosing.open_containers + tree_depth tree ≤ limits.depth
  pub tagged : tree_tag tree ≡ universal number
  pub segmented : Segmented number tree
  pub after_is : after ≡ before ++ segments tree
  pub bits : (number ≡ 3) → AreBitSegments after

-- A constructed string or segment stops: in its length, or after some of its segments, where the next one stops.
abbrev pub SegmentsStop : (Enclosing → List (List ℕ) → ℕ → Tag → Bool → ℕ → List ℕ → Fault → Type 0) → Limits → ℕ
    → Enclosing → List (List ℕ) → ℕ → ℕ → List ℕ → Fault → Type 0
SegmentsStop Segment limits number enclosing before place here octets found =
    StopsInLength limits enclosing.nearest_end place true here octets found
    ⊎ OpensThen limits enclosing true here octets (λ inside behind rest.
    (many : ℕ)
    × After (SegmentStands limits inside number)
    (λ before' place' octets'. StopsHere limits inside (Segment inside before') place' octets' found)
    many before behind rest)

-- A segment whose identifier is taken stops after it: it has another tag, its contents are bad after those `before`,
-- or a segment in it stops. It is nested at most `deep` deep, as the limit of depth has it.
unfoldable pub SegmentStops : ℕ → Limits → ℕ → Enclosing → List (List ℕ) → ℕ → Tag → Bool → ℕ → List ℕ → Fault → Type 0
SegmentStops zero limits number enclosing before place tag constructed here octets found = ⊥
SegmentStops (suc deep) limits number enclosing before place tag constructed here octets found =
    ((tag ≢ universal number) × (found ≡ fault place WrongTag))
    ⊎ ((tag ≡ universal number) × (constructed ≡ false)
    × PrimitiveStops limits enclosing place here octets
    (λ contents. (number ≡ 3) × (AreBitSegments (before ++ (contents ∷ [])) → ⊥) × (found ≡ fault place BadBits)) found)
    ⊎ ((tag ≡ universal number) × (constructed ≡ true)
    × SegmentsStop (λ inside before'. SegmentStops deep limits number inside before')
    limits number enclosing before place here octets found)

-- A leaf whose identifier is taken stops after it: it is primitive, and its contents are none of the kind; or
-- constructed, where the kind is always primitive; or a constructed string that stops, or that stands whole while its
-- joined octets aren't UTF-8.
abbrev pub LeafStops : Limits → Enclosing → LeafKind → ℕ → Tag → Bool → ℕ → List ℕ → Fault → Type 0
LeafStops limits enclosing kind place tag constructed here octets found =
    ((constructed ≡ false)
    × PrimitiveStops limits enclosing place here octets (λ contents.
    ((der' : List ℕ) → LeafContents kind (Primitive tag contents) der' → ⊥) × (found ≡ fault place (bad_contents kind)))
    found)
    ⊎ ((constructed ≡ true) × (segment_tag kind ≡ None) × (found ≡ fault place WrongForm))
    ⊎ ((constructed ≡ true) × (number : ℕ) × (segment_tag kind ≡ Some number)
    × (SegmentsStop (λ inside before. SegmentStops limits.depth limits number inside before)
    limits number enclosing [] place here octets found
    ⊎ ((kind ≡ Utf8String) × OpensThen limits enclosing true here octets (λ inside behind rest.
    ((many : ℕ)
    × After (SegmentStands limits inside number)
    (λ all place' octets'. EndsHere limits inside place' octets' × (IsUtf8 (join all) → ⊥)) many [] behind rest)
    × (found ≡ fault place BadText)))))

-- A member of the type stands in a container.
abbrev pub MemberStands : Limits → TypeTerm → Enclosing → Unit {0} → ℕ → List ℕ → Unit {0} → ℕ → List ℕ → Type 0
MemberStands limits type enclosing before place octets after taken rest =
    (value : Value) × Takes limits type [] enclosing place octets value taken rest

-- An open value whose identifier is taken stops after it: its tag is left out, it stops as the leaf that its tag says,
-- or an open value in it stops. It is nested at most `deep` deep, as the limit of depth has it.
unfoldable pub OpenStops : ℕ → Limits → Enclosing → ℕ → Tag → Bool → ℕ → List ℕ → Fault → Type 0
OpenStops zero limits enclosing place tag constructed here octets found = ⊥
OpenStops (suc deep) limits enclosing place tag constructed here octets found =
    ((open_form tag ≡ OpenRefused) × (found ≡ fault place LeftOut))
    ⊎ ((kind : LeafKind) × (open_form tag ≡ OpenLeaf kind)
    × LeafStops limits enclosing kind place tag constructed here octets found)
    ⊎ ((open_form tag ≡ OpenPlain) × (constructed ≡ false)
    × PrimitiveStops limits enclosing place here octets (λ contents. ⊥) found)
    ⊎ ((((open_form tag ≡ OpenPlain) × (constructed ≡ true)) ⊎ (open_form tag ≡ OpenSequence)
    ⊎ (open_form tag ≡ OpenSetOf))
    × (StopsInForm limits enclosing place constructed here octets found
    ⊎ OpensThen limits enclosing constructed here octets (λ inside behind rest.
    (many : ℕ)
    × After (MemberStands limits OpenType inside)
    (λ before place' octets'. StopsHere limits inside (OpenStops deep limits inside) place' octets' found)
    many tt behind rest)))
