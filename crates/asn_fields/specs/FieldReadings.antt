-- What is read of a SEQUENCE, field by field; `next` is what stands at the point.
use Rattle.std.specs.Prelude.{Bool, List, None, Option, Some, false, true, ℕ, ◌∷◌}
use Rattle.tlv_core.specs.Identifier.{Tag}
use Rattle.tlv_core.specs.Limits.{Limits}
use Rattle.tlv_core.specs.declared.reason.Reason.TheVariants.{Extra, Missing, WrongTag}
use Rattle.x690.specs.Layouts.{same_tag}
use Rattle.x690.specs.Points.{Enclosing, fault}
use Rattle.x690.specs.ReadHeaders.{ContainerEnds, ElementStands, Next, in_container, next_tag}
use Rattle.x690.specs.ReadTypes.{is_this_leaf, read_type}
use Rattle.x690.specs.Reading.{Done, Fail, Reading, choose, require, ◌>>=◌}
use Rattle.x690.specs.TypeTerms.{TypeTerm, fits_tag}
use Rattle.x690.specs.Values.{Value}

-- into a constructed element of this tag: the point inside, and what stands there first
unfoldable pub read_begin : Limits → Tag → Enclosing → ℕ → Tag → Bool → Reading (Enclosing × Next)
read_begin limits own enclosing place tag constructed =
    require (same_tag own tag) (fault place WrongTag)
    (in_container limits enclosing place constructed Done
    >>= λ inside. next_tag limits inside >>= λ next. Done (inside, next))

-- a field that is due, by itself: what stands after it isn't looked at
unfoldable pub read_take : Limits → TypeTerm → List Value → Enclosing → Next → Reading Value
read_take limits type earlier enclosing (ContainerEnds place) = Fail (fault place Missing)
read_take limits type earlier enclosing (ElementStands place tag constructed) =
    require (fits_tag type tag) (fault place WrongTag) (read_type limits type earlier enclosing place tag constructed)

-- a field that is due: its value, and what stands after it
unfoldable pub read_due : Limits → TypeTerm → List Value → Enclosing → Next → Reading (Value × Next)
read_due limits type earlier enclosing (ContainerEnds place) = Fail (fault place Missing)
read_due limits type earlier enclosing (ElementStands place tag constructed) =
    require (fits_tag type tag) (fault place WrongTag)
    (read_type limits type earlier enclosing place tag constructed
    >>= λ value. next_tag limits enclosing >>= λ next. Done (value, next))

-- a field that may be absent
unfoldable pub read_optional : Limits → TypeTerm → List Value → Enclosing → Next → Reading (Option Value × Next)
read_optional limits type earlier enclosing (ContainerEnds place) = Done (None, ContainerEnds place)
read_optional limits type earlier enclosing (ElementStands place tag constructed) =
    choose (fits_tag type tag)
    (read_type limits type earlier enclosing place tag constructed
    >>= λ value. next_tag limits enclosing >>= λ next. Done (Some value, next))
    (Done (None, ElementStands place tag constructed))

-- no further field
unfoldable pub read_end : Next → Reading (Unit {0})
read_end (ContainerEnds place) = Done tt
read_end (ElementStands place tag constructed) = Fail (fault place Extra)

-- the values, with that of an optional field before them where it is there
abbrev pub with_field : Option Value → List Value → List Value
with_field None values = values
with_field (Some value) values = value ∷ values

-- a field with this DEFAULT, which is a leaf, is left out where it has that value (X.690 11.5)
abbrev pub but_default : Tag → List ℕ → Option Value → Option Value
but_default own octets None = None
but_default own octets (Some value) = elim (is_this_leaf own octets value) [ true ↦ None | false ↦ Some value ]
