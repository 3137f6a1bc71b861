-- Labelled words, wrapped at 100 columns after an indent of 8.
use Rattle.std.specs.Prelude.{List, [], codes, cond, length, nat_le, nat_lt, ℕ, ◌&&◌, ◌+◌, ◌++◌, ◌-◌, ◌==◌, ◌∷◌}
use Rattle.reports.specs.Texts.{line_feed}

-- a character of ASCII; a question mark for what is none
abbrev pub ascii : ℕ → List ℕ
ascii octet = cond (nat_lt octet 128) (octet ∷ []) (codes "?")

-- how many octets come before the first blank (32)
abbrev pub word_length : List ℕ → ℕ
word_length [] = 0
word_length (octet ∷ octets) = cond (octet == 32) 0 (1 + word_length octets)

-- Words on a line that has room for so many octets: where the word after a blank doesn't fit, a new line in its place.
abbrev pub wrapped : ℕ → List ℕ → List ℕ
wrapped room [] = []
wrapped room (octet ∷ octets) =
    cond ((octet == 32) && nat_le room (word_length octets))
    (line_feed ++ codes "        " ++ wrapped 92 octets)
    (ascii octet ++ wrapped (room - 1) octets)

-- a label of 8 columns, and the words after it; nothing where there are none
unfoldable pub labelled_line : List ℕ → List ℕ → List ℕ
labelled_line label words = cond (length words == 0) [] (label ++ wrapped 92 words ++ line_feed)
