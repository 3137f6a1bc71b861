-- Length octets (X.690 8.1.3, 10.1).
use Rattle.std.specs.Prelude.{◌≡◌, ℕ, suc, zero, ◌+◌, ◌*◌, ◌/◌, ◌%◌, ◌<◌, ◌≤◌, ◌⊎◌, ◌==◌, nat_lt, true, false, List, [], ◌∷◌, ◌++◌, length}

-- the big-endian number of octets, `high` standing before them
abbrev pub big_endian : ℕ → List ℕ → ℕ
big_endian high [] = high
big_endian high (x ∷ octets) = big_endian (high * 256 + x) octets

-- The octets spell the definite length `n`: one octet up to 127 (8.1.3.4), or 128 and the count of the octets that
-- follow, 1 to 126 of them, which are `n` as a big-endian number (8.1.3.5).
unfoldable pub SpellsLength : ℕ → List ℕ → Type 0
SpellsLength n [] = ⊥
SpellsLength n (x ∷ octets) =
    ((x < 128) × (x ≡ n) × (octets ≡ []))
    ⊎ ((129 ≤ x) × (x < 255) × (length octets + 128 ≡ x) × (big_endian 0 octets ≡ n))

-- the big-endian octets of a number, without leading zeros, as many steps as the first argument says, at most
unfoldable pub number_octets : ℕ → ℕ → List ℕ
number_octets zero n = []
number_octets (suc steps) n = elim (n == 0) [ true ↦ [] | false ↦ number_octets steps (n / 256) ++ ((n % 256) ∷ []) ]

-- The shortest length octets of `n` (10.1).
unfoldable pub shortest_length : ℕ → List ℕ
shortest_length n =
    elim (nat_lt n 128) [ true ↦ n ∷ [] | false ↦ (128 + length (number_octets n n)) ∷ number_octets n n ]
