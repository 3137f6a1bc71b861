-- Types that are read by a shape alone.
use Rattle.std.specs.Prelude.{Bool, false, true, ◌&&◌}
use Rattle.pkix_shapes.specs.declared.shape.Fields.{Default', End, Fields, Optional', Required'}
use Rattle.pkix_shapes.specs.declared.shape.Shape.{Choice', Containing', DefinedBy', Leaf, ListOf', Named', Open, Private', Refused, Sequence', SetOf', Shape}

-- it is a leaf, which alone has a default
abbrev pub is_leaf : Shape → Bool
is_leaf (Leaf tag contents) = true
is_leaf Open = false
is_leaf (ListOf' tag least p shape) = false
is_leaf (SetOf' tag least p shape) = false
is_leaf (Sequence' tag p fields) = false
is_leaf (Containing' tag p shape) = false
is_leaf (Refused tag) = false
is_leaf (DefinedBy' path identifiers p first q second) = false
is_leaf (Choice' p first q second) = false
is_leaf (Named' name p shape) = is_leaf shape
is_leaf (Private' p shape) = is_leaf shape

abbrev mutual
  -- nothing in it goes by earlier fields, is inside an OCTET STRING or may not be there at all
  pub is_plain : Shape → Bool
  is_plain (Leaf tag contents) = true
  is_plain Open = true
  is_plain (ListOf' tag least p shape) = is_plain shape
  is_plain (SetOf' tag least p shape) = is_plain shape
  is_plain (Sequence' tag p fields) = are_plain fields
  is_plain (Containing' tag p shape) = false
  is_plain (Refused tag) = false
  is_plain (DefinedBy' path identifiers p first q second) = false
  is_plain (Choice' p first q second) = is_plain first && is_plain second
  is_plain (Named' name p shape) = is_plain shape
  is_plain (Private' p shape) = is_plain shape

  pub are_plain : Fields → Bool
  are_plain End = true
  are_plain (Required' name p shape q fields) = is_plain shape && are_plain fields
  are_plain (Optional' name p shape q fields) = is_plain shape && are_plain fields
  are_plain (Default' name contents p shape q fields) = is_leaf shape && are_plain fields
