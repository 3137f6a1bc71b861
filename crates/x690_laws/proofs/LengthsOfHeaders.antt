-- How many octets the headers of elements have.
use Rattle.std.proofs.Common.{◌≡◌, ℕ, suc, ◌+◌, ◌*◌, ◌^◌, ◌<◌, ◌≤◌, ◌⊎◌, inl, inr, ⊎_elim, Bool, true, List, [], ◌∷◌, ◌++◌, length, refl, ap, subst, arith, pow-suc}
use Rattle.std.proofs.lemmas.List.{length-append}
use Rattle.x690_laws.proofs.LayoutsOfHeaders.{identifier_cases}
use Rattle.x690_laws.proofs.TextsAsLayouts.{shortest_cases}
use Rattle.tlv_core.specs.Identifier.{Tag, identifier}
use Rattle.tlv_core.proofs.Digits.{number_length}
use Rattle.tlv_core.specs.Length.{SpellsLength, big_endian, shortest_length}
use Rattle.x690.specs.DerTexts.{der_element}
use Rattle.x690.specs.Layouts.{Definite, Indefinite}
use Rattle.tlv_core.specs.ObjectIdentifier.{AllBelow}

-- identifiers

-- as many octets in either form
pub identifier_form : (t : Tag) (f g : Bool) → length (identifier t f) ≡ length (identifier t g)
identifier_form t f g = ⊎_elim
    (λ a.
    ⊎_elim (λ b. omega (arith, ap length a.is, ap length b.is)) (λ b. absurd (omega arith)) (identifier_cases t g))
    (λ a.
    ⊎_elim (λ b. absurd (omega arith)) (λ b. omega (arith, ap length a.is, ap length b.is)) (identifier_cases t g))
    (identifier_cases t f)

pub identifier_some : (t : Tag) (f : Bool) → 1 ≤ length (identifier t f)
identifier_some t f =
    ⊎_elim (λ a. omega (arith, ap length a.is)) (λ a. omega (arith, ap length a.is)) (identifier_cases t f)

-- the shortest length

-- of a number below 256^k
pub shortest_within : (k n : ℕ) → n < 256 ^ k → length (shortest_length n) ≤ k + 1
shortest_within k n h =
    ⊎_elim (λ a. omega (arith, ap length a.is)) (λ a. omega (arith, ap length a.is, number_length k n n h))
    (shortest_cases n)

pub shortest_one : (n : ℕ) → n < 128 → length (shortest_length n) ≡ 1
shortest_one n h = ⊎_elim (λ a. omega (arith, ap length a.is)) (λ a. absurd (omega (arith, a.large))) (shortest_cases n)

-- lengths as they are spelled

pub record IsOneOctet (n : ℕ) (s : List ℕ) : Type 0 where
  pub small : n < 128
  pub one : length s ≡ 1

pub record IsBigEndian (n : ℕ) (s : List ℕ) : Type 0 where
  pub count : ℕ
  pub octets : List ℕ
  pub is : s ≡ count ∷ octets
  pub some : 1 ≤ length octets
  pub number : big_endian 0 octets ≡ n

pub spelled_cases : (n : ℕ) (s : List ℕ) → SpellsLength n s → IsOneOctet n s ⊎ IsBigEndian n s
unfolding SpellsLength
spelled_cases n [] h = absurd h
spelled_cases n (x ∷ octets) h = ⊎_elim
    (λ a. inl (record { small = omega arith; one = omega (arith, ap length a.2) }))
    (λ a. inr (record { count = x; octets = octets; is = refl; some = omega arith; number = a.3 }))
    h

-- the number of some octets, `high` being one of `j`
pub number_below : (j high : ℕ) (s : List ℕ) → AllBelow 256 s → high < 256 ^ j
    → big_endian high s < 256 ^ (j + length s)
number_below j high [] a h = subst (λ e. high < 256 ^ e) (omega arith) h
number_below j high (x ∷ s) a h =
    let lt : x < 256 = a.0 in
    let next : high * 256 + x < 256 ^ suc j = omega (arith, pow-suc 256 j) in
    subst (λ e. big_endian (high * 256 + x) s < 256 ^ e) (omega arith)
    (number_below (suc j) (high * 256 + x) s a.1 next)

pub spelled_some : (n : ℕ) (s : List ℕ) → SpellsLength n s → 1 ≤ length s
spelled_some n s h = ⊎_elim (λ a. omega (arith, a.one)) (λ a. omega (arith, ap length a.is)) (spelled_cases n s h)

-- the shortest length of what is at most half as much again has at most one octet more
pub shortest_against : (m n : ℕ) (s : List ℕ) → AllBelow 256 s → 2 * m ≤ 3 * n → SpellsLength n s
    → length (shortest_length m) ≤ length s + 1
shortest_against m n s a l h = ⊎_elim
    (λ x. omega (arith, x.one, x.small, shortest_within 1 m (omega (arith, x.small))))
    (λ x.
    let below : AllBelow 256 (x.count ∷ x.octets) = subst (AllBelow 256) x.is a in
    let k : big_endian 0 x.octets < 256 ^ (0 + length x.octets) = number_below 0 0 x.octets below.1 (omega arith) in
    let k' : n < 256 ^ length x.octets =
    subst (λ e. n < 256 ^ e) (omega arith) (subst (λ y. y < 256 ^ (0 + length x.octets)) x.number k) in
    omega
    (arith, ap length x.is, shortest_within (suc (length x.octets)) m (omega (arith, pow-suc 256 (length x.octets)))))
    (spelled_cases n s h)

-- elements

pub element_length : (t : Tag) (f : Bool) (o : List ℕ)
    → length (der_element t f o) ≡ length (identifier t f) + (length (shortest_length (length o)) + length o)
unfolding der_element
element_length t f o = omega (
  arith,
  length-append (identifier t f) (shortest_length (length o) ++ o),
  length-append (shortest_length (length o)) o,
)

pub definite_length : (t : Tag) (g : Bool) (c b : List ℕ) (h : Definite t g c b)
    → length b ≡ length (identifier t g) + (length h.length_octets + length c)
definite_length t g c b h = omega
    (arith, ap length h.is, length-append (identifier t g) (h.length_octets ++ c), length-append h.length_octets c)

pub indefinite_length : (t : Tag) (c b : List ℕ) → Indefinite t c b
    → length b ≡ length (identifier t true) + (3 + length c)
indefinite_length t c b h = omega
    (arith, ap length h.is, length-append (identifier t true) (128 ∷ (c ++ (0 ∷ 0 ∷ []))), length-append c (0 ∷ 0 ∷ []))
