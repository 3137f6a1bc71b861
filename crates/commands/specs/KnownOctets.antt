-- How many octets are known.
use Rattle.std.specs.Prelude.{ℕ, List, None, Option, Some, length}

abbrev pub known_length : Option (List ℕ) → ℕ
known_length None = 0
known_length (Some octets) = length octets
