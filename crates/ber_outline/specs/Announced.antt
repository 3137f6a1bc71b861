-- The length that a header announces (X.690 8.1.3).
use Rattle.std.specs.Prelude.{List, None, Option, Some, [], cond, length, nat_lt, take, ℕ, ◌+◌, ◌-◌, ◌==◌, ◌||◌, ◌∷◌}
use Rattle.tlv_core.specs.Length.{big_endian}
use Rattle.ber_outline.specs.declared.announced.Announced.{Announced}

-- the number, where it is below 2^32
abbrev pub below_2_to_32 : ℕ → Option ℕ
below_2_to_32 number = cond (nat_lt number 4294967296) (Some number) None

-- the contents begin at the place, and this is their length
abbrev pub announcing : ℕ → Option ℕ → Option Announced
announcing contents None = None
announcing contents (Some number) = Some (record { contents = contents; length = Some number })

-- What the length octets say that are at a place, before others: one octet up to 7F is the length itself (8.1.3.4),
-- 80 the indefinite form (8.1.3.6), any other but FF says how many octets follow that are the length (8.1.3.5).
abbrev pub announced : ℕ → List ℕ → Option Announced
announced place [] = None
announced place (first ∷ octets) =
    cond (nat_lt first 128) (Some (record { contents = place + 1; length = Some first }))
    (cond (first == 128) (Some (record { contents = place + 1; length = None }))
    (cond ((first == 255) || nat_lt (length octets) (first - 128)) None
    (announcing (place + 1 + (first - 128)) (below_2_to_32 (big_endian 0 (take (first - 128) octets))))))
