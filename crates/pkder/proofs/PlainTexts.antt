-- What is shown of words with control characters is printable ASCII.
use Rattle.std.proofs.Common.{Global, String, ◌≡◌, ◌++◌, Bool, List, [], ◌∷◌, append_assoc, cond, false, map, refl, sym, true, ℕ}
use Rattle.std.proofs.lemmas.List.Elements.{All-append, All-cons, All-nil}
use Rattle.std.specs.Char.Escape.{escape_default}
use Rattle.std.specs.List.{filter, flat_map}
use Rattle.std.specs.Prelude.{codes, string_bytes, nat_lt}
use Rattle.std.specs.Str.{chars}
use Rattle.clap.specs.Words.{Text}
use Rattle.commands.proofs.Escapes.{Printable, as_it_is, escape_plain}
use Rattle.commands.specs.Names.{IsPrintable, escaped}
use Rattle.commands.specs.Outcomes.{line_feed}
use Rattle.pkder.specs.CommandLines.{IsPlainLine, controls_line, has_control, quoted_word}

-- ---- a text that is there

-- whether all of it is printable ASCII
abbrev pub are_plain : List ℕ → Bool
are_plain [] = true
are_plain (x ∷ xs) = cond (nat_lt x 32) false (cond (nat_lt x 127) (are_plain xs) false)

plain_before : (x : ℕ) (xs : Text) (low high : Bool) → nat_lt x 32 ≡ low → nat_lt x 127 ≡ high
    → (are_plain xs ≡ true → IsPrintable xs) → cond low false (cond high (are_plain xs) false) ≡ true
    → IsPrintable (x ∷ xs)
plain_before x xs true high l h others e = absurd cc
plain_before x xs false false l h others e = absurd cc
plain_before x xs false true l h others e = All-cons Printable x xs (as_it_is x l h) (others e)

pub plain_by : (text : Text) → are_plain text ≡ true → IsPrintable text
plain_by [] e = All-nil Printable
plain_by (x ∷ xs) e = plain_before x xs (nat_lt x 32) (nat_lt x 127) refl refl (plain_by xs) e

-- ---- what is shown of words with control characters

abbrev pub known : List (String Global) → Text
known words = flat_map quoted_word (filter has_control (map (λ word. string_bytes word) words))

each_plain : {X : Type 0} (f : X → Text) → ((x : X) → IsPrintable (f x)) → (xs : List X) → IsPrintable (flat_map f xs)
each_plain f plain [] = All-nil Printable
each_plain f plain (x ∷ xs) = All-append Printable (f x) (flat_map f xs) (plain x) (each_plain f plain xs)

quoted_plain : (word : Text) → IsPrintable (quoted_word word)
quoted_plain word =
    let quote = codes "\"" in
    All-append Printable (codes " ") (quote ++ (escaped word ++ quote)) (plain_by (codes " ") refl)
    (All-append Printable quote (escaped word ++ quote) (plain_by quote refl)
    (All-append Printable (escaped word) quote (each_plain escape_default escape_plain (chars word))
    (plain_by quote refl)))

pub controls_plain : (words : List Text) → IsPlainLine (controls_line words)
controls_plain words =
    let head = codes "error: a word has control characters:" in
    let others = flat_map quoted_word (filter has_control words) in (
      head ++ others,
      sym (append_assoc head others line_feed),
      All-append Printable head others (plain_by head refl)
          (each_plain quoted_word quoted_plain (filter has_control words)),
    )
