-- How large a type is as data, by which reading it ends: every type in it is smaller.
use Rattle.std.proofs.Common.{◌+◌, ℕ}
use Rattle.pkix_shapes.specs.declared.shape.Fields.{Default', End, Fields, Optional', Required'}
use Rattle.pkix_shapes.specs.declared.shape.Shape.{Choice', Containing', DefinedBy', Leaf, ListOf', Named', Open, Private', Refused, Sequence', SetOf', Shape}

abbrev mutual
  pub size : Shape → ℕ
  size (Leaf tag contents) = 1
  size Open = 1
  size (ListOf' tag least p shape) = size shape + 3
  size (SetOf' tag least p shape) = size shape + 3
  size (Sequence' tag p fields) = size_of_fields fields + 2
  size (Containing' tag p shape) = size shape + 1
  size (Refused tag) = 1
  size (DefinedBy' path identifiers p first q second) = size first + size second + 1
  size (Choice' p first q second) = size first + size second + 2
  size (Named' name p shape) = size shape + 1
  size (Private' p shape) = size shape + 1

  pub size_of_fields : Fields → ℕ
  size_of_fields End = 1
  size_of_fields (Required' name p shape q fields) = size shape + size_of_fields fields + 2
  size_of_fields (Optional' name p shape q fields) = size shape + size_of_fields fields + 2
  size_of_fields (Default' name contents p shape q fields) = size_of_fields fields + 1
