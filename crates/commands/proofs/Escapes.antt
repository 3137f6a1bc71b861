-- Escapes are printable ASCII: of characters, and of octets.
use Rattle.std.proofs.Common.{◌≡◌, ◌∙◌, ◌⊎◌, ◌++◌, ◌<◌, ◌+◌, ◌/◌, ◌%◌, Bool, List, [], ◌∷◌, ap, append_assoc, arith, cond, false, inl, inr, map, refl, subst, sym, true, ℕ}
use Rattle.std.proofs.lemmas.Bool.Decides.{nat_tests}
use Rattle.std.proofs.lemmas.List.Elements.{All-cons, All-head, All-nil, All-rest}
use Rattle.std.proofs.lemmas.Nat.{mod_below}
use Rattle.std.proofs.lemmas.Str.{encode_ascii}
use Rattle.std.specs.Char.{digit_char, encode_utf8}
use Rattle.std.specs.Char.Escape.{backslash, escape_ascii, escape_default, escape_unicode, hex_digit_at, short_escape}
use Rattle.std.specs.Int.{IsInRange}
use Rattle.std.specs.Prelude.{nat_lt, ◌==◌}
use Rattle.commands.specs.Names.{IsPrintable}

abbrev pub Printable : ℕ → Type 0
Printable c = IsInRange 32 126 c

-- ---- what is still to come

-- the first of what is still to come, and the others
pub plain_first : (xs ys : List ℕ) (x : ℕ) → xs ≡ x ∷ ys → IsPrintable xs → Printable x
plain_first xs ys x e h = All-head Printable x ys (subst IsPrintable e h)

pub plain_others : (xs ys : List ℕ) (x : ℕ) → xs ≡ x ∷ ys → IsPrintable xs → IsPrintable ys
plain_others xs ys x e h = All-rest Printable x ys xs e h

-- one of them goes after the text
pub goes_on : (text longer before after : List ℕ) (x : ℕ) → Printable x → before ≡ x ∷ after
    → longer ≡ text ++ encode_utf8 x → longer ++ after ≡ text ++ before
goes_on text longer before after x plain is e =
    ap (λ t. t ++ after) (e ∙ ap (λ t. text ++ t) (encode_ascii x (omega (arith, plain.1))))
    ∙ append_assoc text (x ∷ []) after ∙ ap (λ t. text ++ t) (sym is)

-- ---- the escape of a character

either : {X : Type 0} (P : X → Type 0) (b : Bool) (x y : X) → (b ≡ true → P x) → (b ≡ false → P y) → P (cond b x y)
either P true x y f g = f refl
either P false x y f g = g refl

both : {X : Type 0} (P : X → Type 0) (b : Bool) (x y : X) → P x → P y → P (cond b x y)
both P b x y h k = either P b x y (λ e. h) (λ e. k)

digit_plain : (d : ℕ) → d < 16 → Printable (digit_char d)
digit_plain d small =
    both Printable (nat_lt d 10) (48 + d) (87 + d) (omega arith, omega arith) (omega arith, omega arith)

hexes_plain : (places : List ℕ) (c : ℕ) → IsPrintable (map (λ p. hex_digit_at p c) places ++ (125 ∷ []))
hexes_plain [] c = All-cons Printable 125 [] (omega arith, omega arith) (All-nil Printable)
hexes_plain (p ∷ places) c =
    All-cons Printable (hex_digit_at p c) _ (digit_plain _ (mod_below _ 16 (omega arith))) (hexes_plain places c)

code_plain : (places : List ℕ) (c : ℕ)
    → IsPrintable (backslash ∷ 117 ∷ 123 ∷ (map (λ p. hex_digit_at p c) places ++ (125 ∷ [])))
code_plain places c =
    let hexes : List ℕ = map (λ p. hex_digit_at p c) places ++ (125 ∷ []) in
    All-cons Printable 92 (117 ∷ 123 ∷ hexes) (omega arith, omega arith)
    (All-cons Printable 117 (123 ∷ hexes) (omega arith, omega arith)
    (All-cons Printable 123 hexes (omega arith, omega arith) (hexes_plain places c)))

unicode_plain : (c : ℕ) → IsPrintable (escape_unicode c)
unicode_plain c =
    both IsPrintable (nat_lt c 0x10) _ _ (code_plain (1 ∷ []) c)
    (both IsPrintable (nat_lt c 0x100) _ _ (code_plain (0x10 ∷ 1 ∷ []) c)
    (both IsPrintable (nat_lt c 0x1000) _ _ (code_plain (0x100 ∷ 0x10 ∷ 1 ∷ []) c)
    (both IsPrintable (nat_lt c 0x1_0000) _ _ (code_plain (0x1000 ∷ 0x100 ∷ 0x10 ∷ 1 ∷ []) c)
    (both IsPrintable (nat_lt c 0x10_0000) _ _ (code_plain (0x1_0000 ∷ 0x1000 ∷ 0x100 ∷ 0x10 ∷ 1 ∷ []) c)
    (code_plain (0x10_0000 ∷ 0x1_0000 ∷ 0x1000 ∷ 0x100 ∷ 0x10 ∷ 1 ∷ []) c)))))

-- a letter after the backslash, or none
abbrev Letter : ℕ → Type 0
Letter n = (n ≡ 0) ⊎ Printable n

letter : (c : ℕ) → Letter (short_escape c)
letter c =
    both Letter (c == 9) 116 _ (inr (omega arith, omega arith))
    (both Letter (c == 13) 114 _ (inr (omega arith, omega arith))
    (both Letter (c == 10) 110 _ (inr (omega arith, omega arith))
    (both Letter (c == 39) 39 _ (inr (omega arith, omega arith))
    (both Letter (c == 34) 34 _ (inr (omega arith, omega arith))
    (both Letter (c == backslash) backslash 0 (inr (omega arith, omega arith)) (inl refl))))))

lettered : (n : ℕ) → nat_lt 0 n ≡ true → Letter n → IsPrintable (backslash ∷ n ∷ [])
lettered n some (inl none) = let turned : nat_lt 0 0 ≡ true = subst (λ m. nat_lt 0 m ≡ true) none some in absurd cc
lettered n some (inr h) =
    All-cons Printable 92 (n ∷ []) (omega arith, omega arith) (All-cons Printable n [] h (All-nil Printable))

pub as_it_is : (c : ℕ) → nat_lt c 32 ≡ false → nat_lt c 127 ≡ true → Printable c
as_it_is c least most = (grind (arith, nat_tests), grind (arith, nat_tests))

escaped_plain : (c : ℕ) (other : List ℕ) → IsPrintable other
    → IsPrintable (cond (nat_lt 0 (short_escape c)) (backslash ∷ short_escape c ∷ [])
    (cond (nat_lt c 32) other (cond (nat_lt c 127) (c ∷ []) other)))
escaped_plain c other h =
    either IsPrintable (nat_lt 0 (short_escape c)) _ _ (λ some. lettered (short_escape c) some (letter c))
    (λ none. either IsPrintable (nat_lt c 32) _ _ (λ low. h) (λ least.
    either IsPrintable (nat_lt c 127) _ _ (λ most. All-cons Printable c [] (as_it_is c least most) (All-nil Printable))
    (λ high. h)))

pub escape_plain : (c : ℕ) → IsPrintable (escape_default c)
escape_plain c = escaped_plain c (escape_unicode c) (unicode_plain c)

pub escape_octet_plain : (b : ℕ) → IsPrintable (escape_ascii b)
escape_octet_plain b =
    let high = hex_digit_at 0x10 b in
    let low = hex_digit_at 1 b in
    escaped_plain b (backslash ∷ 120 ∷ high ∷ low ∷ [])
    (All-cons Printable 92 (120 ∷ high ∷ low ∷ []) (omega arith, omega arith)
    (All-cons Printable 120 (high ∷ low ∷ []) (omega arith, omega arith)
    (All-cons Printable high (low ∷ []) (digit_plain (b / 0x10 % 16) (mod_below (b / 0x10) 16 (omega arith)))
    (All-cons Printable low [] (digit_plain (b / 1 % 16) (mod_below (b / 1) 16 (omega arith))) (All-nil Printable)))))
