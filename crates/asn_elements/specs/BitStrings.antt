-- The DER contents of a BIT STRING.
use Rattle.std.specs.Prelude.{List, [], drop, get_or, ℕ, ◌≡◌, ◌≤◌}
use Rattle.x690.specs.Contents.{clear_unused}

-- First the number of unused bits, 0 to 7, and 0 where no octet follows; then the octets, in which these bits
-- are 0 (X.690 8.6.2, 11.2.1).
abbrev pub IsDerBits : List ℕ → Type 0
IsDerBits contents =
    (get_or contents 0 0 ≤ 7)
    × ((drop 1 contents ≡ []) → get_or contents 0 0 ≡ 0)
    × (clear_unused (get_or contents 0 0) (drop 1 contents) ≡ drop 1 contents)
