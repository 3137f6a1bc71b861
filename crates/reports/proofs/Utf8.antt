-- What is one or the other by whether octets are UTF-8.
use Rattle.std.proofs.Common.{ℕ, Bool, List, cond, false, true, ◌≡◌, ap, refl, sym}
use Rattle.std.specs.Str.{IsUtf8, is_utf8}
use Rattle.std.proofs.lemmas.Str.{IsUtf8-from_is_utf8, is_utf8-from_IsUtf8}

false_unless : (b : Bool) → (b ≡ true → ⊥) → false ≡ b
false_unless true h = absurd (h refl)
false_unless false h = refl

pub if_utf8 : {A : Type 0} (octets : List ℕ) (one other : A) → IsUtf8 octets → one ≡ cond (is_utf8 octets) one other
if_utf8 octets one other utf8 = ap (λ b. cond b one other) (sym (is_utf8-from_IsUtf8 octets utf8))

pub unless_utf8 : {A : Type 0} (octets : List ℕ) (one other : A) → (IsUtf8 octets → ⊥)
    → other ≡ cond (is_utf8 octets) one other
unless_utf8 octets one other not_it =
    ap (λ b. cond b one other) (false_unless (is_utf8 octets) (λ t. not_it (IsUtf8-from_is_utf8 octets t)))
