-- No spelling of a length is shorter than the shortest one.
use Rattle.std.proofs.Common.{◌≡◌, ℕ, ◌+◌, ◌^◌, ◌<◌, ◌≤◌, ⊎_elim, List, ◌∷◌, length, ap, subst, arith}
use Rattle.tlv_core.specs.Length.{SpellsLength, big_endian, shortest_length}
use Rattle.tlv_core.specs.ObjectIdentifier.{AllBelow}
use Rattle.x690_laws.proofs.LengthsOfHeaders.{number_below, shortest_one, shortest_within, spelled_cases}

pub shortest_least : (n : ℕ) (s : List ℕ) → AllBelow 256 s → SpellsLength n s → length (shortest_length n) ≤ length s
shortest_least n s a h = ⊎_elim
    (λ x. omega (arith, x.one, shortest_one n x.small))
    (λ x.
    let below : AllBelow 256 (x.count ∷ x.octets) = subst (AllBelow 256) x.is a in
    let k : big_endian 0 x.octets < 256 ^ (0 + length x.octets) = number_below 0 0 x.octets below.1 (omega arith) in
    let k' : n < 256 ^ length x.octets =
    subst (λ e. n < 256 ^ e) (omega arith) (subst (λ y. y < 256 ^ (0 + length x.octets)) x.number k) in
    omega (arith, ap length x.is, shortest_within (length x.octets) n k'))
    (spelled_cases n s h)
