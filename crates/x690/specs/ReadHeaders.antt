-- The plain reading of identifier octets, length octets and contents octets (X.690 8.1.2 to 8.1.5), with the
-- first fault in each (profile).
-- A fault stands at `place`, where the identifier of its element begins; only Truncated stands where the octets end.
use Rattle.std.specs.Prelude.{Bool, List, Option, [], nat_le, nat_lt, not, suc, zero, ℕ, ◌%◌, ◌&&◌, ◌*◌, ◌+◌, ◌-◌, ◌/◌, ◌==◌, ◌∷◌}
use Rattle.tlv_core.specs.Identifier.{Tag}
use Rattle.tlv_core.specs.Limits.{Limits}
use Rattle.tlv_core.specs.declared.reason.Reason.TheVariants.{BadEnd, BadLength, BadTag, PastEnd, TooDeep, TooLong, WrongForm}
pub use Rattle.x690.specs.Points.{DefiniteLength, IndefiniteLength, LengthForm, entered}
use Rattle.x690.specs.Points.{Enclosing, at_end, ends_with_zeros, fault, past_end, stands_at_end}
use Rattle.x690.specs.Reading.{Ask, Done, Fail, Reading, Where, choose, require, ◌>>=◌}

-- One octet of an identifier, of length octets or of end-of-contents octets: it has to stand within the nearest
-- definite container and within the limit.
unfoldable pub header_octet : Limits → Option ℕ → ℕ → Reading ℕ
header_octet limits end place =
    Where (λ here.
    require (not (at_end end here)) (fault place PastEnd)
    (require (nat_lt here limits.octets) (fault place TooLong) (Ask Done)))

-- What stands here: the end of the container, with its place, or an element, with its place, its tag and
-- whether it is constructed.
pub data Next : Type 0 where
  ContainerEnds : ℕ → Next
  ElementStands : ℕ → Tag → Bool → Next

-- the octets of a tag number of 31 or more after the first identifier octet, at most `left` of them (8.1.2.4);
-- `number` is what stands before the next
unfoldable pub read_high_number : Limits → Option ℕ → ℕ → ℕ → ℕ → Reading ℕ
read_high_number limits end place zero number = Fail (fault place BadTag)
read_high_number limits end place (suc left) number =
    header_octet limits end place
    >>= λ octet. require (not ((number == 0) && (octet == 128)) && nat_lt octet 256) (fault place BadTag)
    (choose (nat_lt octet 128)
    (require (nat_le 31 (number * 128 + octet)) (fault place BadTag) (Done (number * 128 + octet)))
    (read_high_number limits end place left (number * 128 + (octet - 128))))

-- the tag number, after the first identifier octet
unfoldable pub read_tag_number : Limits → Option ℕ → ℕ → ℕ → Reading ℕ
read_tag_number limits end place octet =
    choose (nat_lt (octet % 32) 31) (Done (octet % 32)) (read_high_number limits end place 4 0)

-- End of the container, or an identifier: the end of a definite container comes first, then end-of-contents octets, a
-- bad tag, an element that is nested too deep.
unfoldable pub next_tag : Limits → Enclosing → Reading Next
next_tag limits enclosing =
    Where (λ place. choose (stands_at_end enclosing.innermost place) (Done (ContainerEnds place))
    (header_octet limits enclosing.nearest_end place >>= λ octet.
    choose (octet == 0)
    (require (ends_with_zeros enclosing.innermost) (fault place BadEnd)
    (header_octet limits enclosing.nearest_end place
    >>= λ second. require (second == 0) (fault place BadEnd) (Done (ContainerEnds place))))
    (require (not (octet == 32) && nat_lt octet 256) (fault place BadTag)
    (read_tag_number limits enclosing.nearest_end place octet
    >>= λ number. require (nat_lt enclosing.open_containers limits.depth) (fault place TooDeep)
    (Done (ElementStands place (record { class = octet / 64; number = number }) (nat_le 32 (octet % 64))))))))

-- So many contents octets fit into the nearest definite container, and within the limit.
unfoldable pub fit_contents : Limits → Option ℕ → ℕ → ℕ → Reading ℕ
fit_contents limits end place number =
    Where (λ here.
    require (not (past_end end (here + number))) (fault place PastEnd)
    (require (nat_le (here + number) limits.octets) (fault place TooLong) (Done number)))

-- a big-endian number of `left` more octets, `number` standing before them
unfoldable pub read_big_endian : Limits → Option ℕ → ℕ → ℕ → ℕ → Reading ℕ
read_big_endian limits end place zero number = Done number
read_big_endian limits end place (suc left) number =
    header_octet limits end place >>= λ octet. read_big_endian limits end place left (number * 256 + octet)

-- the number of contents octets, after the first length octet: the octet itself, or so many octets as
-- it says (8.1.3.4, 8.1.3.5)
unfoldable pub read_number : Limits → Option ℕ → ℕ → ℕ → Reading ℕ
read_number limits end place octet =
    choose (nat_lt octet 128) (Done octet) (read_big_endian limits end place (octet - 128) 0)
    >>= λ number. fit_contents limits end place number

-- The length octets of a constructed element: FF isn't used (8.1.3.5), 80 is the indefinite form (8.1.3.6).
unfoldable pub read_length : Limits → Option ℕ → ℕ → Reading LengthForm
read_length limits end place =
    header_octet limits end place >>= λ octet. require (nat_lt octet 255) (fault place BadLength)
    (choose (octet == 128) (Done IndefiniteLength)
    (read_number limits end place octet >>= λ number. Done (DefiniteLength number)))

-- The length octets of a primitive element, which has no indefinite form (8.1.3.2).
unfoldable pub read_definite_length : Limits → Option ℕ → ℕ → Reading ℕ
read_definite_length limits end place =
    header_octet limits end place
    >>= λ octet.
    require (nat_lt octet 255 && not (octet == 128)) (fault place BadLength) (read_number limits end place octet)

-- the next octets, so many of them
unfoldable pub next_octets : ℕ → Reading (List ℕ)
next_octets zero = Done []
next_octets (suc number) = Ask (λ octet. next_octets number >>= λ octets. Done (octet ∷ octets))

-- length and contents of a primitive element
unfoldable pub primitive_contents : Limits → Enclosing → ℕ → Reading (List ℕ)
primitive_contents limits enclosing place =
    read_definite_length limits enclosing.nearest_end place >>= λ number. next_octets number

-- A container: its form, its length, and then what stands in it.
unfoldable pub in_container : {A : Type 0} → Limits → Enclosing → ℕ → Bool → (Enclosing → Reading A) → Reading A
in_container limits enclosing place constructed body =
    require constructed (fault place WrongForm)
    (read_length limits enclosing.nearest_end place >>= λ octet. Where (λ here. body (entered enclosing here octet)))

-- what the members gave, and the place where the container ends
pub record Ended (S : Type 0) : Type 0 where
  pub all : S
  pub at : ℕ

-- The members up to the end of the container, by one reading after another that goes on from what those before gave.
-- There are less than `fuel` of them: each takes an octet at least, so the limit of octets is always enough.
unfoldable pub each_member : {S : Type 0} → (S → ℕ → Tag → Bool → Reading S) → ℕ → Limits → Enclosing → S
    → Reading (Ended S)
each_member one zero limits enclosing state = Fail (fault limits.octets TooLong)
each_member one (suc fuel) limits enclosing state =
    next_tag limits enclosing
    >>= λ next. elim next [
      | ContainerEnds place ↦ Done (record { all = state; at = place })
      | ElementStands place tag constructed ↦
          one state place tag constructed >>= λ state'. each_member one fuel limits enclosing state'
    ]
