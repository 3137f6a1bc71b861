-- What is due in a container, and which place an element has there.
use Rattle.std.specs.Prelude.{Bool, None, Option, Some, cond, min, nat_le, true, ℕ, ◌+◌, ◌-◌, ◌^◌, ◌&&◌, ◌==◌, ◌||◌}
use Rattle.std.specs.Borrow.{Bor}
use Rattle.tlv_core.specs.Identifier.{Tag}
use Rattle.x690.specs.TypeTerms.{fits_tag}
use Rattle.pkix_shapes.specs.Dues.{match_in, may_end}
use Rattle.pkix_shapes.specs.Terms.{fields_of, term_of}
use Rattle.pkix_shapes.specs.declared.due.FieldMatch.{FieldMatch}
use Rattle.pkix_shapes.specs.declared.due.FieldMatch.TheVariants as matches
use Rattle.pkix_shapes.specs.declared.shape.Shape.{Choice', Containing', DefinedBy', Leaf, ListOf', Named', Open, Private', Refused, Sequence', SetOf', Shape}
use Rattle.asn_names.specs.declared.element.Level.{Level}
use Rattle.asn_names.specs.declared.element.Level.TheVariants.{Fields, Members, Segments}
use Rattle.asn_names.specs.declared.element.Step.TheVariants as steps
use Rattle.asn_names.specs.declared.level.Place.{Place}

-- one more, counted as far as 64 bits go
abbrev pub one_more : ℕ → ℕ
one_more number = min (number + 1) (2 ^ 64 - 1)

-- a field's place: the fields after it are due then
abbrev pub place_of : FieldMatch → Option Place
place_of (matches.Field name shape after) =
    Some (record { step = steps.Field name; shape = Some shape; after = Some (Fields after) })
place_of (matches.Wrong name shape) = None
place_of matches.Extra = None

-- The place of an element of the tag where this is due: the field that it belongs to, the next member if it fits the
-- type of members, or the next segment.
abbrev pub place_in : Level → Tag → Option Place
place_in (Fields left) tag = place_of (match_in left.now tag)
place_in (Members shape least number) tag =
    cond (fits_tag (term_of shape.now) tag) (Some (record {
      step = steps.Member number;
      shape = Some shape;
      after = Some (Members shape least (one_more number));
    })) None
place_in (Segments number) tag =
    Some (record { step = steps.Segment number; shape = None; after = Some (Segments (one_more number)) })

-- the place of the outermost element, of this type
abbrev pub outermost : Bor Shape → Tag → Option Place
outermost root tag =
    cond (fits_tag (term_of root.now) tag)
    (Some (record { step = steps.Outermost; shape = Some root; after = None })) None

-- BIT STRING, OCTET STRING, ObjectDescriptor, UTF8String, the other character strings and times, BMPString
-- (X.680 8.4, table 1)
abbrev pub is_string : ℕ → Bool
is_string number =
    (number == 3) || ((number == 4) || ((number == 7) || ((number == 12) || ((nat_le 18 number && nat_le number 28)
    || (number == 30)))))

-- whether an open value of the tag is a string, which holds segments where it is constructed
abbrev pub holds_segments : Tag → Bool
holds_segments tag = (tag.class == 0) && is_string tag.number

-- what is due first in a container of this tag and type, the type standing at a place of the program's memory
abbrev pub first_due : Tag → ℕ × ℕ → Shape → Level
first_due tag pointer (Sequence' own p fields) = Fields (record { ref_ptr = p.ref_ptr; now = fields })
first_due tag pointer (ListOf' own least p member) = Members (record { ref_ptr = p.ref_ptr; now = member }) least 0
first_due tag pointer (SetOf' own least p member) = Members (record { ref_ptr = p.ref_ptr; now = member }) least 0
first_due tag pointer Open =
    cond (holds_segments tag) (Segments 0) (Members (record { ref_ptr = pointer; now = Open }) 0 0)
first_due tag pointer (Leaf own contents) = Segments 0
first_due tag pointer (Containing' own p shape) = Segments 0
first_due tag pointer (Refused own) = Segments 0
first_due tag pointer (DefinedBy' path identifiers p first q second) = Segments 0
first_due tag pointer (Choice' p first q second) = Segments 0
first_due tag pointer (Named' name p shape) = Segments 0
first_due tag pointer (Private' p shape) = Segments 0

-- The fields of a SEQUENCE, the members of a list or a set; an open value holds open values, or segments if it is a
-- string; any other element has segments alone.
abbrev pub level_of : Tag → Option (Bor Shape) → Level
level_of tag None = Segments 0
level_of tag (Some shape) = first_due tag shape.ref_ptr shape.now

-- whether a container may end where this is due
abbrev pub may_close : Level → Bool
may_close (Fields left) = may_end (fields_of left.now)
may_close (Members shape least number) = nat_le least number
may_close (Segments number) = true
