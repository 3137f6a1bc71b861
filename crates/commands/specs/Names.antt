-- How a name is shown: as it is, or in quotes and escaped.
use Rattle.std.specs.Prelude.{All, Bool, List, [], codes, cond, false, length, not, ℕ, ◌++◌, ◌==◌, ◌||◌, ◌∷◌}
use Rattle.std.specs.Char.{is_control}
use Rattle.std.specs.Char.Escape.{escape_ascii, escape_default}
use Rattle.std.specs.Int.{IsInRange}
use Rattle.std.specs.List.{flat_map, list_any}
use Rattle.std.specs.Str.{chars, is_utf8}

-- a control character, `"` or `\`
abbrev pub needs_quotes : ℕ → Bool
needs_quotes c = is_control c || c == 34 || c == 92

-- there is something, and nothing in it that needs quotes
abbrev pub is_plain : List ℕ → Bool
is_plain text = cond (length text == 0) false (not (list_any needs_quotes (chars text)))

-- A character that is a quote or isn't printable ASCII stands as its escape, as Rust's `char::escape_default` has it:
-- `\n`, `\u{1b}`.
abbrev pub escaped : List ℕ → List ℕ
escaped text = flat_map escape_default (chars text)

-- the same in quotes
abbrev pub quoted : List ℕ → List ℕ
quoted text = codes "\"" ++ (escaped text ++ codes "\"")

-- octets in quotes, as Rust's `u8::escape_ascii` has them: `\n`, `\xff`
abbrev pub quoted_octets : List ℕ → List ℕ
quoted_octets octets = codes "\"" ++ (flat_map escape_ascii octets ++ codes "\"")

-- a name that is UTF-8
abbrev pub shown_text : List ℕ → List ℕ
shown_text name = cond (is_plain name) name (quoted name)

abbrev pub shown_name : List ℕ → List ℕ
shown_name name = cond (is_utf8 name) (shown_text name) (quoted_octets name)

abbrev pub begins_quoted : List ℕ → Bool
begins_quoted [] = false
begins_quoted (first ∷ others) = first == 34

-- A name in JSON that is UTF-8: as it is, since JSON escapes by itself, but where it begins with a quote, as what is
-- shown of one does that isn't UTF-8.
abbrev pub file_text : List ℕ → List ℕ
file_text name = cond (begins_quoted name) (quoted name) name

abbrev pub file_name : List ℕ → List ℕ
file_name name = cond (is_utf8 name) (file_text name) (quoted_octets name)

-- printable ASCII
abbrev pub IsPrintable : List ℕ → Type 0
IsPrintable text = All (IsInRange 32 126) text
