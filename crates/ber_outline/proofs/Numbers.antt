-- Numbers of lengths.
use Rattle.std.proofs.Common.{arith, ◌≡◌, ◌+◌, ◌*◌, ◌≤◌, ◌∷◌, Bool, List, None, [], false, length, nat_lt, refl, slice_index_or, subst, ◌==◌, ℕ}
use Rattle.std.proofs.lemmas.Bool.Decides.{nat_tests}
use Rattle.std.proofs.lemmas.List.{length-append}
use Rattle.tlv_core.specs.Header.{der_header}
use Rattle.tlv_core.specs.Identifier.{Tag, identifier}
use Rattle.tlv_core.specs.Length.{big_endian, shortest_length}
use Rattle.ber_outline.specs.Announced.{below_2_to_32}

-- more octets make the number no less
pub grows : (high : ℕ) (octets : List ℕ) → high ≤ big_endian high octets
grows high [] = omega arith
grows high (x ∷ octets) =
    let more : high * 256 + x ≤ big_endian (high * 256 + x) octets = grows (high * 256 + x) octets in omega arith

-- a number that is too large stays so
pub too_large : (high : ℕ) (octets : List ℕ) → 4294967296 ≤ high → None ≡ below_2_to_32 (big_endian high octets)
too_large high octets h =
    let more = grows high octets in
    let over : nat_lt (big_endian high octets) 4294967296 ≡ false = grind (arith, nat_tests) in
    rw over refl

-- a header of length 0 is an identifier and one octet
pub header_longer : (tag : Tag) (form : Bool) → length (der_header tag form 0) ≡ length (identifier tag form) + 1
unfolding der_header shortest_length
header_longer tag form = length-append (identifier tag form) (0 ∷ [])

-- nor does one octet more help
pub too_large_after : (high first : ℕ) (octets : List ℕ) → first ≡ slice_index_or octets 0 0
    → (length octets == 0) ≡ false → 4294967296 ≤ high * 256 + first → None ≡ below_2_to_32 (big_endian high octets)
too_large_after high first [] is some h = let z = some in cc
too_large_after high first (x ∷ octets) is some h =
    too_large (high * 256 + x) octets (subst (λ y. 4294967296 ≤ high * 256 + y) is h)
