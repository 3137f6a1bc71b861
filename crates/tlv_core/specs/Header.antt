-- The header of an element in DER: identifier and shortest length (X.690 8.1.2, 10.1).
use Rattle.std.specs.Prelude.{ℕ, Bool, List, ◌++◌}
use Rattle.tlv_core.specs.Identifier.{Tag, identifier}
use Rattle.tlv_core.specs.Length.{shortest_length}

unfoldable pub der_header : Tag → Bool → ℕ → List ℕ
der_header tag constructed n = identifier tag constructed ++ shortest_length n
