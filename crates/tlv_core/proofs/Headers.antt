-- How long headers are.
use Rattle.std.proofs.Common.{◌≡◌, ℕ, ◌+◌, ◌*◌, ◌/◌, ◌%◌, ◌<◌, ◌≤◌, nat_lt, Bool, true, false, cond, List, [], ◌∷◌, ◌++◌, length, refl, sym, ◌∙◌, ap, arith, append_assoc, append-nil, suc}
use Rattle.std.proofs.lemmas.List.{length-append}
use Rattle.std.proofs.lemmas.Bool.Decides.{nat_tests}
use Rattle.tlv_core.specs.Identifier.{Tag, leading_base128, base128, identifier}
use Rattle.tlv_core.specs.Length.{number_octets, shortest_length}
use Rattle.tlv_core.specs.Header.{der_header}
use Rattle.tlv_core.proofs.Digits.{leading_none, leading_last, leading_steps, leading_length, number_none, number_last, number_length}

-- a number below 2^28 has at most four digits, the last apart at most three
pub three_leading : (n : ℕ) → n < 2097152 → length (leading_base128 n n) ≤ 3
three_leading n h = leading_length 3 n n (omega arith)

-- the octets of a number below 2^64
pub eight_octets : (n : ℕ) → n < 18446744073709551616 → length (number_octets n n) ≤ 8
eight_octets n h = number_length 8 n n (omega arith)

-- both forms have headers of one length
pub either_form : (tag : Tag) (f g : Bool) (n : ℕ) → length (der_header tag f n) ≡ length (der_header tag g n)
unfolding der_header identifier
either_form tag f g n =
    elim (nat_lt tag.number 31) as (λ b.
    length (cond b ((tag.class * 64 + cond f 32 0 + tag.number) ∷ [])
    ((tag.class * 64 + cond f 32 0 + 31) ∷ base128 tag.number)
    ++ shortest_length n)
    ≡ length (cond b ((tag.class * 64 + cond g 32 0 + tag.number) ∷ [])
    ((tag.class * 64 + cond g 32 0 + 31) ∷ base128 tag.number)
    ++ shortest_length n))
    [ true ↦ refl | false ↦ refl ]

-- what came before, and the digits of a number with the last one pushed
pub leading_pushed : (old mid new : List ℕ) (n : ℕ) → 0 < n → mid ≡ old ++ leading_base128 (n / 128) (n / 128)
    → new ≡ mid ++ ((128 + n % 128) ∷ []) → new ≡ old ++ leading_base128 n n
leading_pushed old mid new n h p q =
    q
    ∙ ap (λ s. s ++ ((128 + n % 128) ∷ [])) p
    ∙ append_assoc old (leading_base128 (n / 128) (n / 128)) ((128 + n % 128) ∷ [])
    ∙ ap (λ s. old ++ s) (sym (leading_last n h))

pub leading_room : (n : ℕ) → 0 < n → length (leading_base128 n n) ≡ length (leading_base128 (n / 128) (n / 128)) + 1
leading_room n h =
    ap length (leading_last n h) ∙ length-append (leading_base128 (n / 128) (n / 128)) ((128 + n % 128) ∷ [])

pub leading_empty : (old : List ℕ) (n : ℕ) → n ≡ 0 → old ≡ old ++ leading_base128 n n
leading_empty old n h = sym (ap (λ s. old ++ s) (leading_none n n h) ∙ append-nil old)

pub number_pushed : (old mid new : List ℕ) (n : ℕ) → 0 < n → mid ≡ old ++ number_octets (n / 256) (n / 256)
    → new ≡ mid ++ ((n % 256) ∷ []) → new ≡ old ++ number_octets n n
number_pushed old mid new n h p q =
    q
    ∙ ap (λ s. s ++ ((n % 256) ∷ [])) p
    ∙ append_assoc old (number_octets (n / 256) (n / 256)) ((n % 256) ∷ [])
    ∙ ap (λ s. old ++ s) (sym (number_last n h))

pub number_room : (n : ℕ) → 0 < n → length (number_octets n n) ≡ length (number_octets (n / 256) (n / 256)) + 1
number_room n h = ap length (number_last n h) ∙ length-append (number_octets (n / 256) (n / 256)) ((n % 256) ∷ [])

pub number_empty : (old : List ℕ) (n : ℕ) → n ≡ 0 → old ≡ old ++ number_octets n n
number_empty old n h = sym (ap (λ s. old ++ s) (number_none n n h) ∙ append-nil old)

pub no_number : (n : ℕ) → n ≡ 0 → length (number_octets n n) ≡ 0
no_number n h = ap length (number_none n n h)

-- the cases of the shortest length
pub shortest_brief : (n : ℕ) → n < 128 → shortest_length n ≡ n ∷ []
unfolding shortest_length
shortest_brief n h = go (nat_lt n 128) (grind (arith, nat_tests))
  where
    go : (b : Bool) → b ≡ true
        → elim b [ true ↦ n ∷ [] | false ↦ (128 + length (number_octets n n)) ∷ number_octets n n ] ≡ n ∷ []
    go true e = refl
    go false e = cc

pub shortest_counted : (n : ℕ) → 128 ≤ n → shortest_length n ≡ (128 + length (number_octets n n)) ∷ number_octets n n
unfolding shortest_length
shortest_counted n h = go (nat_lt n 128) (grind (arith, nat_tests))
  where
    go : (b : Bool) → b ≡ false
        → elim b [ true ↦ n ∷ [] | false ↦ (128 + length (number_octets n n)) ∷ number_octets n n ]
        ≡ (128 + length (number_octets n n)) ∷ number_octets n n
    go true e = cc
    go false e = refl

pub shortest_short : (n : ℕ) → n < 18446744073709551616 → length (shortest_length n) ≤ 9
shortest_short n h = go (nat_lt n 128) refl
  where
    go : (b : Bool) → nat_lt n 128 ≡ b → length (shortest_length n) ≤ 9
    go true e =
        let z : length (shortest_length n) ≡ 1 = ap length (shortest_brief n (grind (arith, nat_tests))) in omega arith
    go false e =
        let z : length (shortest_length n) ≡ suc (length (number_octets n n)) =
        ap length (shortest_counted n (grind (arith, nat_tests))) in
        omega (arith, eight_octets n h)

-- the cases of an identifier
pub identifier_low : (tag : Tag) (form : Bool) → tag.number < 31
    → identifier tag form ≡ (tag.class * 64 + cond form 32 0 + tag.number) ∷ []
unfolding identifier
identifier_low tag form h = go (nat_lt tag.number 31) (grind (arith, nat_tests))
  where
    go : (b : Bool) → b ≡ true
        → cond b ((tag.class * 64 + cond form 32 0 + tag.number) ∷ [])
        ((tag.class * 64 + cond form 32 0 + 31) ∷ base128 tag.number)
        ≡ (tag.class * 64 + cond form 32 0 + tag.number) ∷ []
    go true e = refl
    go false e = cc

pub identifier_high : (tag : Tag) (form : Bool) → 31 ≤ tag.number
    → identifier tag form ≡ (tag.class * 64 + cond form 32 0 + 31) ∷ base128 tag.number
unfolding identifier
identifier_high tag form h = go (nat_lt tag.number 31) (grind (arith, nat_tests))
  where
    go : (b : Bool) → b ≡ false
        → cond b ((tag.class * 64 + cond form 32 0 + tag.number) ∷ [])
        ((tag.class * 64 + cond form 32 0 + 31) ∷ base128 tag.number)
        ≡ (tag.class * 64 + cond form 32 0 + 31) ∷ base128 tag.number
    go true e = cc
    go false e = refl

pub base128_are : (n : ℕ) → base128 n ≡ leading_base128 (n / 128) (n / 128) ++ ((n % 128) ∷ [])
unfolding base128
base128_are n = ap (λ s. s ++ ((n % 128) ∷ [])) (leading_steps n (n / 128) (n / 128) (omega arith) (omega arith))

-- the header of a tag below 31
pub low_header : (tag : Tag) (form : Bool) (n : ℕ) → tag.number < 31
    → length (der_header tag form n) ≡ suc (length (shortest_length n))
unfolding der_header
low_header tag form n h = ap (λ s. length (s ++ shortest_length n)) (identifier_low tag form h)

pub identifier_short : (tag : Tag) (form : Bool) → tag.number < 268435456 → length (identifier tag form) ≤ 5
identifier_short tag form h = go (nat_lt tag.number 31) refl
  where
    go : (b : Bool) → nat_lt tag.number 31 ≡ b → length (identifier tag form) ≤ 5
    go true e =
        let z : length (identifier tag form) ≡ 1 = ap length (identifier_low tag form (grind (arith, nat_tests))) in
        omega arith
    go false e =
        let z : length (identifier tag form) ≡ suc (length (base128 tag.number)) =
        ap length (identifier_high tag form (grind (arith, nat_tests))) in
        let digits = leading_base128 (tag.number / 128) (tag.number / 128) in
        let y = ap length (base128_are tag.number) ∙ length-append digits ((tag.number % 128) ∷ []) in
        omega (arith, y, three_leading (tag.number / 128) (omega arith))

-- a header has at most 14 octets
pub header_short : (tag : Tag) (form : Bool) (n : ℕ) → tag.number < 268435456 → n < 18446744073709551616
    → length (der_header tag form n) ≤ 14
unfolding der_header
header_short tag form n h k =
    omega (
      arith,
      length-append (identifier tag form) (shortest_length n),
      identifier_short tag form h,
      shortest_short n k,
    )
