-- The versions of documents, as contents of INTEGERs.
use Rattle.std.specs.Prelude.{List, [], cond, nat_lt, suc, zero, ℕ, ◌-◌, ◌∷◌}

-- as many numbers from this one on, each in the one octet that an INTEGER below 128 has
abbrev pub one_octets : ℕ → ℕ → List (List ℕ)
one_octets zero number = []
one_octets (suc count) number = cond (nat_lt number 128) ((number ∷ []) ∷ one_octets count (suc number)) []

-- those from the least to the most, no further than 127
abbrev pub versions : ℕ → ℕ → List (List ℕ)
versions least most = one_octets (suc most - least) least
