-- Character strings and times, told apart by their tags alone.
use Rattle.std.specs.Prelude.{List, [], map, ℕ, ◌∷◌}
use Rattle.x690.specs.Contents.{OctetString, Utf8String}
use Rattle.x690.specs.Layouts.{universal}
use Rattle.x690.specs.TypeTerms.{LeafType, TypeTerm, choice_of}

-- the universal tags of those whose octets are carried as they are (profile): ObjectDescriptor, NumericString to
-- UniversalString, BMPString (X.680 table 1)
abbrev pub carried_numbers : List ℕ
carried_numbers = 7 ∷ 18 ∷ 19 ∷ 20 ∷ 21 ∷ 22 ∷ 23 ∷ 24 ∷ 25 ∷ 26 ∷ 27 ∷ 28 ∷ 30 ∷ []

abbrev pub carried_string : ℕ → TypeTerm
carried_string number = LeafType (universal number) OctetString

-- A character string or time: UTF8String, which is UTF-8, or one that is carried.
unfoldable pub string_types : TypeTerm
string_types = choice_of (LeafType (universal 12) Utf8String) (map carried_string carried_numbers)
