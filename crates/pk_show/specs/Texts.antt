-- How octets and bits are shown.
use Rattle.std.specs.Prelude.{List, [], codes, decimal, drop, get_or, ℕ, ◌++◌, ◌∷◌}
use Rattle.hex.specs.Hex.{encode_lower}

abbrev pub line_feed : List ℕ
line_feed = 10 ∷ []

-- octets in hexadecimal digits, lower case; a hyphen where there are none
abbrev pub hex_text : List ℕ → List ℕ
hex_text [] = codes "-"
hex_text (octet ∷ octets) = encode_lower (octet ∷ octets)

-- a bit string, by its contents: the number of unused bits, and the octets
unfoldable pub bits_text : List ℕ → List ℕ
bits_text contents = hex_text (drop 1 contents) ++ codes " (" ++ decimal (get_or contents 0 0) ++ codes " unused)"
