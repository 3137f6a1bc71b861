-- What each call of a pull reader reads, by the plain reading at its point.
use Rattle.std.specs.Prelude.{List, None, Some, [], false, not, true, ℕ, ◌==◌, ◌∷◌}
use Rattle.tlv_core.specs.Limits.{Limits}
use Rattle.tlv_core.specs.declared.reason.Reason.TheVariants.{BadBits, BadEnd, Extra, WrongForm}
use Rattle.x690.specs.Contents.{bit_octets, clear_unused, unused_bits}
use Rattle.x690.specs.Lists.{join}
use Rattle.x690.specs.Points.{Enclosing, ends_with_zeros, fault}
use Rattle.x690.specs.ReadContents.{is_next_segment, read_segment}
use Rattle.x690.specs.ReadHeaders.{ContainerEnds, ElementStands, Next, each_member, header_octet, in_container, next_tag, primitive_contents}
use Rattle.x690.specs.Reading.{Done, Fail, Reading, choose, require, ◌>>=◌}
use Rattle.ber_pull.specs.Standing.{Standing, enclosing, is_over}
use Rattle.ber_pull.specs.declared.state.Given.{Given}

-- what stands at the point: the element that is given, the end that is known, or what the octets say
unfoldable pub read_next : Standing → Reading Next
read_next s = elim s.given [
  | Some g ↦ Done (ElementStands g.at g.tag g.constructed)
  | None ↦ choose (is_over s) (Done (ContainerEnds s.taken)) (next_tag s.limits (enclosing s))
]

-- the end-of-contents octets of the innermost container, after the first one
abbrev pub read_end_of_contents : Limits → Enclosing → ℕ → Reading Next
read_end_of_contents l c p =
    require (ends_with_zeros c.innermost) (fault p BadEnd)
    (header_octet l c.nearest_end p >>= λ x. require (x == 0) (fault p BadEnd) (Done (ContainerEnds p)))

-- the length of the container that is given, and then the point inside
unfoldable pub read_entering : Standing → Given → Reading Enclosing
read_entering s g = in_container s.limits (enclosing s) g.at g.constructed Done

-- the end of the container, where no element stands
unfoldable pub read_leaving : Standing → Reading (Unit {0})
read_leaving s =
    read_next s >>= λ d. elim d [ ContainerEnds p ↦ Done tt | ElementStands p tag constructed ↦ Fail (fault p Extra) ]

-- the contents of the primitive element that is given
unfoldable pub read_primitive : Standing → Given → Reading (List ℕ)
read_primitive s g = require (not g.constructed) (fault g.at WrongForm) (primitive_contents s.limits (enclosing s) g.at)

-- the contents of the primitive segments of the string that is given, its segments having the
-- universal tag `n` (X.690 8.6, 8.7)
unfoldable pub read_segments : ℕ → Standing → Given → Reading (List (List ℕ))
read_segments n s g =
    elim g.constructed [
      | false ↦
          primitive_contents s.limits (enclosing s) g.at
          >>= λ o. require (is_next_segment n [] o) (fault g.at BadBits) (Done (o ∷ []))
      | true ↦
          in_container s.limits (enclosing s) g.at true
          (λ c. each_member (read_segment s.limits.depth s.limits n c) s.limits.octets s.limits c [])
          >>= λ e. Done e.all
    ]

-- the octets of the string that is given
unfoldable pub read_octets : Standing → Given → Reading (List ℕ)
read_octets s g = read_segments 4 s g >>= λ o. Done (join o)

-- the number of unused bits of the bit string that is given, and its octets, unused bits being 0
unfoldable pub read_bits : Standing → Given → Reading (ℕ × List ℕ)
read_bits s g = read_segments 3 s g >>= λ o. Done (unused_bits o, clear_unused (unused_bits o) (bit_octets o))
