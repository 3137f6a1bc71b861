-- Tags and identifier octets (X.690 8.1.2).
use Rattle.std.specs.Prelude.{ℕ, suc, zero, ◌+◌, ◌*◌, ◌/◌, ◌%◌, ◌<◌, ◌≢◌, ◌==◌, nat_lt, Bool, true, false, cond, List, [], ◌∷◌, ◌++◌}

-- A tag: its class (0 universal, 1 application, 2 context-specific, 3 private) and its number.
pub record Tag : Type 0 where
  pub class : ℕ
  pub number : ℕ

-- The tag may stand in an identifier: the class is one of four, the number is below 2^28 (profile), and it isn't
-- universal 0, the tag of end-of-contents octets.
pub record IsTag (tag : Tag) : Type 0 where
  pub class_fits : tag.class < 4
  pub number_fits : tag.number < 268435456
  pub not_end : tag.class + tag.number ≢ 0

-- the base-128 digits of a number, the most significant first, bit 8 set on each; as many steps as the
-- first argument says, at most
unfoldable pub leading_base128 : ℕ → ℕ → List ℕ
leading_base128 zero n = []
leading_base128 (suc steps) n =
    elim (n == 0) [ true ↦ [] | false ↦ leading_base128 steps (n / 128) ++ ((128 + n % 128) ∷ []) ]

-- the base-128 digits of a number, the most significant first, bit 8 set on all but the last (8.1.2.4.2)
unfoldable pub base128 : ℕ → List ℕ
base128 n = leading_base128 n (n / 128) ++ ((n % 128) ∷ [])

-- The identifier octets of a tag and a form (8.1.2).
unfoldable pub identifier : Tag → Bool → List ℕ
identifier tag constructed =
    let lead = tag.class * 64 + cond constructed 32 0 in
    cond (nat_lt tag.number 31) ((lead + tag.number) ∷ []) ((lead + 31) ∷ base128 tag.number)
