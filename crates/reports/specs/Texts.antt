-- How numbers, octets and characters are written.
use Rattle.std.specs.Prelude.{List, [], codes, cond, flat_map, nat_lt, ℕ, ◌++◌, ◌==◌, ◌||◌, ◌∷◌}
use Rattle.hex.specs.Hex.{encode_lower}

abbrev pub line_feed : List ℕ
line_feed = 10 ∷ []

-- an octet in two hexadecimal digits
abbrev pub octet_text : ℕ → List ℕ
octet_text octet = encode_lower (octet ∷ [])

abbrev pub octet_after : ℕ → List ℕ
octet_after octet = codes " " ++ octet_text octet

-- octets in hexadecimal digits, a blank between each two
abbrev pub octets_text : List ℕ → List ℕ
octets_text [] = []
octets_text (octet ∷ octets) = octet_text octet ++ flat_map octet_after octets

-- An octet of a character string: printable ASCII as it is, a backslash (92) before a quote (39) and before another
-- backslash, and all else by its hexadecimal digits.
abbrev pub escaped : ℕ → List ℕ
escaped octet =
    cond (octet == 39) (codes "\\'")
    (cond (octet == 92) (codes "\\\\")
    (cond (nat_lt octet 32 || nat_lt 126 octet) (codes "\\x" ++ octet_text octet) (octet ∷ [])))

-- a character string between quotes
unfoldable pub quoted : List ℕ → List ℕ
quoted octets = codes "'" ++ flat_map escaped octets ++ codes "'"
