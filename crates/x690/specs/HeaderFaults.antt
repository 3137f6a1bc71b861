-- The fault grammar of identifiers, end-of-contents octets and lengths (X.690 8.1.2 to 8.1.5; which
-- fault comes first: profile).
-- `place` is where the identifier of the element begins, `here` where the octets begin that are looked at.
use Rattle.std.specs.Prelude.{Bool, List, Option, [], false, length, true, ℕ, ◌%◌, ◌*◌, ◌++◌, ◌+◌, ◌<◌, ◌∷◌, ◌≡◌, ◌≢◌, ◌≤◌, ◌⊎◌}
use Rattle.tlv_core.specs.Identifier.{IsTag, Tag, identifier}
use Rattle.tlv_core.specs.Length.{SpellsLength}
use Rattle.tlv_core.specs.Limits.{Limits}
use Rattle.tlv_core.specs.declared.fault.Fault.{Fault}
use Rattle.tlv_core.specs.declared.reason.Reason.TheVariants.{BadEnd, BadLength, BadTag, PastEnd, TooDeep, TooLong, Truncated, WrongForm}
use Rattle.x690.specs.Points.{DefiniteLength, IndefiniteLength, LengthForm, entered, Enclosing, EndsAt, EndsWithZeros, at_end, ends_with_zeros, fault, past_end, stands_at_end}

-- An octet of a header may stand at the place: within the nearest container of definite length, and within the limit.
pub record MayStand (limits : Limits) (end : Option ℕ) (here : ℕ) : Type 0 where
  pub in_bound : at_end end here ≡ false
  pub in_limit : here < limits.octets

-- each of these octets may, one after the other
abbrev pub AllMayStand : Limits → Option ℕ → ℕ → List ℕ → Type 0
AllMayStand limits end here [] = Unit {0}
AllMayStand limits end here (octet ∷ octets) = MayStand limits end here × AllMayStand limits end (here + 1) octets

-- The octets begin with these ones of a header, and `rest` follows.
pub record Begin (limits : Limits) (end : Option ℕ) (here : ℕ) (octets header rest : List ℕ) : Type 0 where
  pub is : octets ≡ header ++ rest
  pub stand : AllMayStand limits end here header

-- An octet of a header stands here, and this holds of it and of what follows.
abbrev pub OctetThen : Limits → Option ℕ → ℕ → List ℕ → (ℕ → List ℕ → Type 0) → Type 0
OctetThen limits end here octets Holds =
    (octet : ℕ) × (rest : List ℕ) × Begin limits end here octets (octet ∷ []) rest × Holds octet rest

-- The next octet of a header isn't there.
abbrev pub NoOctet : Limits → Option ℕ → ℕ → ℕ → List ℕ → Fault → Type 0
NoOctet limits end place here octets found =
    ((at_end end here ≡ true) × (found ≡ fault place PastEnd))
    ⊎ ((at_end end here ≡ false) × (limits.octets ≤ here) × (found ≡ fault place TooLong))
    ⊎ (MayStand limits end here × (octets ≡ []) × (found ≡ fault here Truncated))

-- End-of-contents octets stop: after their first octet, where they may not stand, or their
-- second is missing or isn't 00.
abbrev pub EndStops : Limits → Enclosing → ℕ → List ℕ → Fault → Type 0
EndStops limits enclosing place rest found =
    ((ends_with_zeros enclosing.innermost ≡ false) × (found ≡ fault place BadEnd))
    ⊎ ((ends_with_zeros enclosing.innermost ≡ true) × NoOctet limits enclosing.nearest_end place (place + 1) rest found)
    ⊎ ((ends_with_zeros enclosing.innermost ≡ true)
    × OctetThen limits enclosing.nearest_end (place + 1) rest
    (λ second rest'. (second ≢ 0) × (found ≡ fault place BadEnd)))

-- the number in base 128 of octets, bit 8 apart, `high` standing before them
abbrev pub base128_number : ℕ → List ℕ → ℕ
base128_number high [] = high
base128_number high (octet ∷ octets) = base128_number (high * 128 + octet % 128) octets

-- each octet has bit 8 set
abbrev pub AllContinue : List ℕ → Type 0
AllContinue [] = Unit {0}
AllContinue (octet ∷ octets) = (128 ≤ octet) × (octet < 256) × AllContinue octets

-- they don't begin with 80, a leading zero (8.1.2.4.2)
abbrev pub NoLeadingZero : List ℕ → Type 0
NoLeadingZero [] = Unit {0}
NoLeadingZero (octet ∷ octets) = octet ≢ 128

-- An octet that is bad after these ones of a tag number: a leading zero, the fourth with bit 8 set, or the last of a
-- number that the low form has.
abbrev pub BadTagOctet : List ℕ → ℕ → Type 0
BadTagOctet before octet =
    ((before ≡ []) × (octet ≡ 128))
    ⊎ ((length before ≡ 3) × (128 ≤ octet))
    ⊎ ((octet < 128) × (base128_number 0 before * 128 + octet < 31))
    ⊎ (256 ≤ octet)

-- A tag number in the high form stops after some of its octets.
abbrev pub HighNumberStops : Limits → Option ℕ → ℕ → ℕ → List ℕ → Fault → Type 0
HighNumberStops limits end place here octets found =
    (before : List ℕ)
    × (rest : List ℕ)
    × Begin limits end here octets before rest
    × (length before ≤ 3)
    × AllContinue before
    × NoLeadingZero before
    × (NoOctet limits end place (here + length before) rest found
    ⊎ OctetThen limits end (here + length before) rest
    (λ octet rest'. BadTagOctet before octet × (found ≡ fault place BadTag)))

-- An identifier stops after its first octet, which isn't 00: the octet is 20, which would be universal 0, or no octet;
-- its high form stops; or all of it stands, and is nested too deep.
abbrev pub IdentifierStops : Limits → Enclosing → ℕ → List ℕ → ℕ → List ℕ → Fault → Type 0
IdentifierStops limits enclosing place octets first rest found =
    (((first ≡ 32) ⊎ (256 ≤ first)) × (found ≡ fault place BadTag))
    ⊎ ((first < 256) × (first % 32 ≡ 31) × HighNumberStops limits enclosing.nearest_end place (place + 1) rest found)
    ⊎ ((tag : Tag) × (constructed : Bool) × (rest' : List ℕ) × IsTag tag
    × Begin limits enclosing.nearest_end place octets (identifier tag constructed) rest'
    × (limits.depth ≤ enclosing.open_containers) × (found ≡ fault place TooDeep))

-- What stands at the place stops in its identifier, or in the end-of-contents octets.
abbrev pub StopsInTag : Limits → Enclosing → ℕ → List ℕ → Fault → Type 0
StopsInTag limits enclosing place octets found =
    (stands_at_end enclosing.innermost place ≡ false)
    × (NoOctet limits enclosing.nearest_end place place octets found
    ⊎ OctetThen limits enclosing.nearest_end place octets (λ first rest.
    ((first ≡ 0) × EndStops limits enclosing place rest found)
    ⊎ ((first ≢ 0) × IdentifierStops limits enclosing place octets first rest found)))

-- An element stands at the place: `rest` follows its identifier, from `behind` on.
pub record Stands (limits : Limits) (enclosing : Enclosing) (place : ℕ) (octets : List ℕ) (tag : Tag)
    (constructed : Bool) (behind : ℕ) (rest : List ℕ) : Type 0 where
  pub not_ended : stands_at_end enclosing.innermost place ≡ false
  pub is_tag : IsTag tag
  pub begins : Begin limits enclosing.nearest_end place octets (identifier tag constructed) rest
  pub behind_is : behind ≡ place + length (identifier tag constructed)
  pub depth_fits : enclosing.open_containers < limits.depth

-- An element stands at the place, and this holds of its tag and form, and of what is after its identifier.
abbrev pub StandsThen : Limits → Enclosing → ℕ → List ℕ → (Tag → Bool → ℕ → List ℕ → Type 0) → Type 0
StandsThen limits enclosing place octets Holds =
    (tag : Tag)
    × (constructed : Bool)
    × (behind : ℕ)
    × (rest : List ℕ)
    × Stands limits enclosing place octets tag constructed behind rest
    × Holds tag constructed behind rest

-- The container ends at the place: here, where its length is definite, else with end-of-contents octets.
abbrev pub EndsHere : Limits → Enclosing → ℕ → List ℕ → Type 0
EndsHere limits enclosing place octets =
    (enclosing.innermost ≡ EndsAt place)
    ⊎ ((enclosing.innermost ≡ EndsWithZeros) × (rest : List ℕ)
    × Begin limits enclosing.nearest_end place octets (0 ∷ 0 ∷ []) rest)

-- So many contents octets, from the place on, end past the nearest container of definite length, or past the limit.
abbrev pub EndTooFar : Limits → Option ℕ → ℕ → ℕ → Fault → Type 0
EndTooFar limits end place contents_end found =
    ((past_end end contents_end ≡ true) × (found ≡ fault place PastEnd))
    ⊎ ((past_end end contents_end ≡ false) × (limits.octets < contents_end) × (found ≡ fault place TooLong))

-- Length octets stop: they are missing, their first is FF, or 80 where the form has to be definite, some of them are
-- missing, or the contents would end too far.
abbrev pub StopsInLength : Limits → Option ℕ → ℕ → Bool → ℕ → List ℕ → Fault → Type 0
StopsInLength limits end place constructed here octets found =
    NoOctet limits end place here octets found
    ⊎ OctetThen limits end here octets
    (λ first rest. ((255 ≤ first) ⊎ ((constructed ≡ false) × (first ≡ 128))) × (found ≡ fault place BadLength))
    ⊎ ((first : ℕ) × (before : List ℕ) × (rest : List ℕ) × Begin limits end here octets (first ∷ before) rest
    × (first < 255) × (128 + length before < first)
    × NoOctet limits end place (here + 1 + length before) rest found)
    ⊎ ((number : ℕ) × (header : List ℕ) × (rest : List ℕ) × Begin limits end here octets header rest
    × SpellsLength number header
    × EndTooFar limits end place (here + length header + number) found)

-- Length octets of a definite length stand here, its contents within their bounds: `rest` follows, from `behind` on.
pub record LengthStands (limits : Limits) (end : Option ℕ) (here : ℕ) (octets : List ℕ) (number : ℕ) (behind : ℕ)
    (rest : List ℕ) : Type 0 where
  pub header : List ℕ
  pub is : octets ≡ header ++ rest
  pub spells : SpellsLength number header
  pub behind_is : behind ≡ here + length header
  pub in_bound : past_end end (behind + number) ≡ false
  pub in_limit : behind + number ≤ limits.octets

-- A container stops before its contents: it is primitive, or its length stops.
abbrev pub StopsInForm : Limits → Enclosing → ℕ → Bool → ℕ → List ℕ → Fault → Type 0
StopsInForm limits enclosing place constructed here octets found =
    ((constructed ≡ false) × (found ≡ fault place WrongForm))
    ⊎ ((constructed ≡ true) × StopsInLength limits enclosing.nearest_end place true here octets found)

-- what a length of this form is
abbrev pub FormStands : Limits → Option ℕ → ℕ → List ℕ → LengthForm → ℕ → List ℕ → Type 0
FormStands limits end here octets (DefiniteLength number) behind rest =
    LengthStands limits end here octets number behind rest
FormStands limits end here octets IndefiniteLength behind rest =
    Begin limits end here octets (128 ∷ []) rest × (behind ≡ here + 1)

-- A container opens here: its contents begin at `behind`, and `inside` encloses them.
abbrev pub Opens : Limits → Enclosing → Bool → ℕ → List ℕ → Enclosing → ℕ → List ℕ → Type 0
Opens limits enclosing constructed here octets inside behind rest =
    (constructed ≡ true)
    × (form : LengthForm)
    × FormStands limits enclosing.nearest_end here octets form behind rest
    × (inside ≡ entered enclosing behind form)

-- A container opens here, and this holds of what encloses its contents, and of them.
abbrev pub OpensThen : Limits → Enclosing → Bool → ℕ → List ℕ → (Enclosing → ℕ → List ℕ → Type 0) → Type 0
OpensThen limits enclosing constructed here octets Holds =
    (inside : Enclosing)
    × (behind : ℕ)
    × (rest : List ℕ)
    × Opens limits enclosing constructed here octets inside behind rest
    × Holds inside behind rest
