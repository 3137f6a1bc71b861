-- Which field an element belongs to, by its tag.
use Rattle.std.specs.Prelude.{Bool, List, None, Option, Some, false, true, ℕ}
use Rattle.tlv_core.specs.Identifier.{Tag}
use Rattle.x690.specs.TypeTerms as types
use Rattle.x690.specs.TypeTerms.{TypeTerm, fits_tag}
use Rattle.pkix_shapes.specs.declared.due.FieldMatch.{FieldMatch}
use Rattle.pkix_shapes.specs.declared.due.FieldMatch.TheVariants as code
use Rattle.pkix_shapes.specs.declared.shape.Fields.{Default', Required', End, Fields, Optional'}
use Rattle.pkix_shapes.specs.Terms.{fields_of, term_of}

pub data Due : Type 0 where
  -- it is the field of this type, and these are after it
  IsField : TypeTerm → types.Fields → Due
  -- a field of this type is due
  IsWrong : TypeTerm → Due
  -- none is due
  IsExtra : Due

-- As FitsFields and StopsFields of x690 have it: a field that may be missing is there exactly where the tag is one of
-- its own, and one that is required is due.
abbrev pub due_in : types.Fields → Tag → Due
due_in types.EndOfFields tag = IsExtra
due_in (types.Required type fields) tag =
    elim (fits_tag type tag) [ true ↦ IsField type fields | false ↦ IsWrong type ]
due_in (types.Optional type fields) tag =
    elim (fits_tag type tag) [ true ↦ IsField type fields | false ↦ due_in fields tag ]
due_in (types.Default own contents type fields) tag =
    elim (fits_tag type tag) [ true ↦ IsField type fields | false ↦ due_in fields tag ]

-- none of the fields has to be there
abbrev pub may_end : types.Fields → Bool
may_end types.EndOfFields = true
may_end (types.Required type fields) = false
may_end (types.Optional type fields) = may_end fields
may_end (types.Default own contents type fields) = may_end fields

-- the field that the element belongs to, or the one that is due, as it is in the type
abbrev pub match_in : Fields → Tag → FieldMatch
match_in End tag = code.Extra
match_in (Required' name p shape q fields) tag =
    elim (fits_tag (term_of shape) tag) [
      | true ↦
          code.Field name (record { ref_ptr = p.ref_ptr; now = shape }) (record { ref_ptr = q.ref_ptr; now = fields })
      | false ↦ code.Wrong name (record { ref_ptr = p.ref_ptr; now = shape })
    ]
match_in (Optional' name p shape q fields) tag =
    elim (fits_tag (term_of shape) tag) [
      | true ↦
          code.Field name (record { ref_ptr = p.ref_ptr; now = shape }) (record { ref_ptr = q.ref_ptr; now = fields })
      | false ↦ match_in fields tag
    ]
match_in (Default' name contents p shape q fields) tag =
    elim (fits_tag (term_of shape) tag) [
      | true ↦
          code.Field name (record { ref_ptr = p.ref_ptr; now = shape }) (record { ref_ptr = q.ref_ptr; now = fields })
      | false ↦ match_in fields tag
    ]

abbrev pub match_of : FieldMatch → Due
match_of (code.Field name shape fields) = IsField (term_of shape.now) (fields_of fields.now)
match_of (code.Wrong name shape) = IsWrong (term_of shape.now)
match_of code.Extra = IsExtra

-- the name of the field that the element belongs to, or of the one that is due
abbrev pub name_due_in : Fields → Tag → Option (List ℕ)
name_due_in End tag = None
name_due_in (Required' name p shape q fields) tag = Some name.now
name_due_in (Optional' name p shape q fields) tag =
    elim (fits_tag (term_of shape) tag) [ true ↦ Some name.now | false ↦ name_due_in fields tag ]
name_due_in (Default' name contents p shape q fields) tag =
    elim (fits_tag (term_of shape) tag) [ true ↦ Some name.now | false ↦ name_due_in fields tag ]

abbrev pub name_of : FieldMatch → Option (List ℕ)
name_of (code.Field name shape fields) = Some name.now
name_of (code.Wrong name shape) = Some name.now
name_of code.Extra = None
