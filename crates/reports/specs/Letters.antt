-- How the characters of a string are shown: as they are where they are printable, else by their numbers.
use Rattle.std.specs.Prelude.{Bool, List, [], chars, codes, cond, encode_utf8, false, flat_map, nat_lt, not, true, ℕ, ◌%◌, ◌&&◌, ◌*◌, ◌++◌, ◌+◌, ◌/◌, ◌==◌, ◌||◌, ◌∷◌}
use Rattle.std.specs.List.{list_any}
use Rattle.std.specs.Str.{is_utf8}
use Rattle.hex.specs.Hex.{encode_lower}
use Rattle.tlv_core.specs.Identifier.{Tag}
use Rattle.ucd_category.specs.GeneralCategory.{general_category, general_category_eq}
use Rattle.ucd_category.specs.GeneralCategoryGroup.{in_group}
use Rattle.ucd_category.specs.declared.GeneralCategory.TheVariants.{Control, Format}
use Rattle.ucd_category.specs.declared.GeneralCategoryGroup.TheVariants.{Other, Separator}

-- Letters, marks, numbers, punctuation, symbols and the blank are; what controls, formats or separates isn't, nor what
-- Unicode has not assigned.
abbrev pub is_printable : ℕ → Bool
is_printable c = (c == 32) || not (in_group Other (general_category c) || in_group Separator (general_category c))

-- what RFC 4514 section 2.4 has a backslash before: " + , ; < >
abbrev pub is_special : ℕ → Bool
is_special c = (c == 34) || (c == 43) || (c == 44) || (c == 59) || (c == 60) || (c == 62)

-- the number of a character in four hexadecimal digits, or in six
abbrev pub code_digits : ℕ → List ℕ
code_digits c =
    cond (nat_lt c 65536) (encode_lower ((c / 256) % 256 ∷ c % 256 ∷ []))
    (encode_lower ((c / 65536) % 256 ∷ (c / 256) % 256 ∷ c % 256 ∷ []))

-- A character, in a distinguished name or elsewhere: a backslash (92) is before another one, so that no text is that of
-- two strings.
unfoldable pub letter : Bool → ℕ → List ℕ
letter in_name c =
    cond ((c == 92) || (in_name && is_special c)) (92 ∷ encode_utf8 c)
    (cond (is_printable c) (encode_utf8 c) (codes "\\u{" ++ code_digits c ++ codes "}"))

-- a character of two octets, and U+FFFD in place of half of a pair (X.680 41.15 has none beyond the basic plane)
abbrev pub unit_code : ℕ → ℕ → ℕ
unit_code high low =
    cond (nat_lt (high * 256 + low) 55296 || nat_lt 57343 (high * 256 + low)) (high * 256 + low) 65533

abbrev pub unit : ℕ → ℕ → List ℕ
unit high low = encode_utf8 (unit_code high low)

abbrev pub units : List ℕ → List ℕ
units [] = []
units (octet ∷ []) = []
units (high ∷ (low ∷ octets)) = unit high low ++ units octets

-- they are whole characters of two octets each, none of them half of a pair
abbrev pub are_units : List ℕ → Bool
are_units [] = true
are_units (octet ∷ []) = false
are_units (high ∷ (low ∷ octets)) = not (nat_lt 215 high && nat_lt high 224) && are_units octets

-- such as they are, others as characters of an octet each
abbrev pub by_units : List ℕ → List ℕ
by_units octets = cond (are_units octets) (units octets) (flat_map encode_utf8 octets)

-- it is a string of this universal tag
abbrev pub is_string : ℕ → Tag → Bool
is_string number tag = (tag.class == 0) && (tag.number == number)

-- octets that are UTF-8 as they are, others as characters of an octet each
abbrev pub by_utf8 : List ℕ → List ℕ
by_utf8 octets = cond (is_utf8 octets) octets (flat_map encode_utf8 octets)

-- The characters of a string in UTF-8: of a BMPString (30) and a UTF8String (12) by their forms, where that is sound, of
-- any other an octet each, as ASCII and ISO 8859-1 have it.
abbrev pub characters : Tag → List ℕ → List ℕ
characters tag octets =
    cond (is_string 30 tag) (by_units octets)
    (cond (is_string 12 tag) (by_utf8 octets) (flat_map encode_utf8 octets))

-- the characters of a string, as they are shown
abbrev pub letters : Bool → Tag → List ℕ → List ℕ
letters in_name tag octets = flat_map (letter in_name) (chars (characters tag octets))

-- The character controls or formats text: its general category is Cc or Cf.
abbrev pub is_hidden : ℕ → Bool
is_hidden c =
    general_category_eq (general_category c) Control || general_category_eq (general_category c) Format

-- the characters of two octets each
abbrev pub unit_codes : List ℕ → List ℕ
unit_codes [] = []
unit_codes (octet ∷ []) = []
unit_codes (high ∷ (low ∷ octets)) = unit_code high low ∷ unit_codes octets

abbrev pub codes_in_utf8 : List ℕ → List ℕ
codes_in_utf8 octets = cond (is_utf8 octets) (chars octets) octets

-- the characters of a string by their numbers, as `characters` has them in UTF-8
abbrev pub character_codes : Tag → List ℕ → List ℕ
character_codes tag octets =
    cond (is_string 30 tag && are_units octets) (unit_codes octets)
    (cond (is_string 12 tag) (codes_in_utf8 octets) octets)

-- One of the characters controls or formats text, so that a reader doesn't see it.
abbrev pub has_hidden : Tag → List ℕ → Bool
has_hidden tag octets = list_any is_hidden (character_codes tag octets)
