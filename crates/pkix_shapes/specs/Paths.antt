-- Ways to an element inside another one.
use Rattle.std.specs.Prelude.{List, ℕ}

-- Step by step the number of a field in its type, or of a member, from 0; and 0 to what an OCTET STRING contains.
abbrev pub Path : Type 0
Path = List ℕ
