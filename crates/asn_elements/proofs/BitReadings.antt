-- The contents of BIT STRINGs that were read.
use Rattle.std.proofs.Common.{◌≡◌, ◌∙◌, ◌+◌, ◌*◌, ◌/◌, ◌^◌, ◌<◌, ◌≤◌, ◌++◌, ◌∷◌, Bool, List, None, Option, Some, [], ap, append-nil, arith, false, get_or, length, refl, set, subst, suc, sym, true, zero, ℕ}
use Rattle.std.proofs.lemmas.Nat.{div-mul-add, pow_pos}
use Rattle.tlv_core.specs.Limits.{Limits}
use Rattle.x690.specs.Contents.{AreBitSegments, bit_contents, bit_octets, clear_unused, unused_bits}
use Rattle.x690.specs.Points.{Enclosing}
use Rattle.x690.specs.Reading.{Took, run}
use Rattle.x690.specs.Reads.{Reads, Said}
use Rattle.x690.proofs.Runs.{took_bind, took_done}
use Rattle.x690_laws.proofs.FaultsOfContents.{all_stand, one_stands}
use Rattle.x690.specs.ReadContents.{is_bit_segment}
use Rattle.x690_laws.proofs.ReadingLeavesSound.{segment_fits}
use Rattle.ber_pull.proofs.Joining.{clear_at}
use Rattle.ber_pull.specs.Calls.{read_bits, read_segments}
use Rattle.ber_pull.specs.Hears.{Hears}
use Rattle.ber_pull.specs.Standing.{Standing, enclosing}
use Rattle.ber_pull.specs.declared.state.Given.{Given}
use Rattle.asn_elements.specs.BitStrings.{IsDerBits}
use Rattle.asn_elements.proofs.LeafReadings.{segment_alone, segments_in}

-- ---- unused bits

unused_few : (segments : List (List ℕ)) → AreBitSegments segments → unused_bits segments ≤ 7
unused_few [] h = omega arith
unused_few ([] ∷ []) h = absurd h
unused_few ((unused ∷ octets) ∷ []) h = h.0
unused_few (segment ∷ next ∷ more) h = unused_few (next ∷ more) h.2

nothing_behind : (octets more : List ℕ) → octets ++ more ≡ [] → more ≡ []
nothing_behind [] more e = e
nothing_behind (x ∷ octets) more e = cc

none_unused : (segments : List (List ℕ)) → AreBitSegments segments → bit_octets segments ≡ [] → unused_bits segments ≡ 0
none_unused [] h e = refl
none_unused ([] ∷ []) h e = absurd h
none_unused ((unused ∷ octets) ∷ []) h e = h.1 (sym (append-nil octets) ∙ e)
none_unused ([] ∷ next ∷ more) h e = absurd h.0
none_unused ((unused ∷ octets) ∷ next ∷ more) h e =
    none_unused (next ∷ more) h.2 (nothing_behind octets (bit_octets (next ∷ more)) e)

cleared_none : (unused : ℕ) (octets : List ℕ) → clear_unused unused octets ≡ [] → octets ≡ []
cleared_none unused [] e = refl
cleared_none unused (x ∷ []) e = cc
cleared_none unused (x ∷ y ∷ octets) e = cc

-- bits that are cleared stay as they are

and_none : (n : ℕ) → n + 0 ≡ n
and_none n = omega arith

cleared_octet : (x m : ℕ) → 0 < m → ((x / m * m) / m) * m ≡ x / m * m
cleared_octet x m some = ap (λ n. n * m) (ap (λ n. n / m) (sym (and_none (x / m * m))) ∙ div-mul-add (x / m) m 0 some)

clear_behind : (unused x : ℕ) (octets : List ℕ) → (octets ≡ [] → ⊥)
    → clear_unused unused (x ∷ octets) ≡ x ∷ clear_unused unused octets
clear_behind unused x [] some = absurd (some refl)
clear_behind unused x (y ∷ octets) some = refl

some_octets : (x : ℕ) (octets : List ℕ) → x ∷ octets ≡ [] → ⊥
some_octets x octets e = cc

cleared_twice : (unused : ℕ) (octets : List ℕ)
    → clear_unused unused (clear_unused unused octets) ≡ clear_unused unused octets
cleared_twice unused [] = refl
cleared_twice unused (x ∷ []) = ap (λ n. n ∷ []) (cleared_octet x (2 ^ unused) (pow_pos unused))
cleared_twice unused (x ∷ y ∷ octets) =
    clear_behind unused x (clear_unused unused (y ∷ octets))
    (λ e. some_octets y octets (cleared_none unused (y ∷ octets) e))
    ∙ ap (λ t. x ∷ t) (cleared_twice unused (y ∷ octets))

der_bits : (segments : List (List ℕ)) → AreBitSegments segments → IsDerBits (bit_contents segments)
der_bits segments h = (
  unused_few segments h,
  λ e. none_unused segments h (cleared_none (unused_bits segments) (bit_octets segments) e),
  cleared_twice (unused_bits segments) (bit_octets segments),
)

-- of a segment alone its last octet

pub cleared : (contents : List ℕ) (last d e : ℕ) → length contents ≡ suc last → 0 < last
    → set contents last (get_or contents last d / 2 ^ get_or contents 0 e * 2 ^ get_or contents 0 e)
    ≡ bit_contents (contents ∷ [])
cleared contents zero d e h some = absurd (omega arith)
cleared [] (suc n) d e h some = absurd (omega arith)
cleared (unused ∷ octets) (suc n) d e h some =
    ap (λ w. unused ∷ w) (clear_at octets unused n d (omega arith) ∙ ap (clear_unused unused) (sym (append-nil octets)))

pub der_bits_alone : (contents : List ℕ) → is_bit_segment contents ≡ true
    → (0 < length (bit_contents (contents ∷ []))) × IsDerBits (bit_contents (contents ∷ []))
der_bits_alone contents h = (omega arith, der_bits (contents ∷ []) (segment_fits contents h))

-- ---- what was read

bit_segments : (l : Limits) (c : Enclosing) (p : ℕ) (form : Bool) (k : ℕ) (octets : List ℕ) (all : List (List ℕ))
    (q : ℕ) (r : List ℕ)
    → run (elim form [ false ↦ segment_alone 3 l c p | true ↦ segments_in 3 l c p ]) k octets ≡ Took all q r
    → AreBitSegments all
bit_segments l c p false k octets all q r h =
    let x = one_stands 3 l c p k octets all q r h in subst AreBitSegments (sym x.2) (x.3 refl)
bit_segments l c p true k octets all q r h =
    let x = took_bind _ _ _ _ _ _ _ h in
    let y = took_done _ _ _ _ _ _ x.next_tag in
    let z = all_stand 3 l c p k octets x.value x.place x.rest x.first in
    subst AreBitSegments y.0 (z.0 refl)

bits_took : (s : Standing) (g : Given) (k : ℕ) (octets : List ℕ) (unused : ℕ) (bits : List ℕ) (q : ℕ) (r : List ℕ)
    → run (read_bits s g) k octets ≡ Took (unused, bits) q r → IsDerBits (unused ∷ bits)
unfolding read_bits read_segments
bits_took s g k octets unused bits q r h =
    let x = took_bind _ _ _ _ _ _ _ h in
    let y = took_done _ _ _ _ _ _ x.next_tag in
    subst (λ z. IsDerBits (z.0 ∷ z.1)) y.0
    (der_bits x.value (bit_segments s.limits (enclosing s) g.at g.constructed k octets x.value x.place x.rest x.first))

pub bits_heard : (s : Standing) (g : Given) (k : ℕ) (before : Option (List ℕ)) (unused : ℕ) (bits : List ℕ) (q : ℕ)
    (after : Option (List ℕ))
    → Hears (read_bits s g) k before (Said (unused, bits)) q after → IsDerBits (unused ∷ bits)
unfolding Hears Reads
bits_heard s g k None unused bits q after x = bits_took s g k x.0 unused bits q [] x.2
bits_heard s g k (Some before) unused bits q None x = absurd x
bits_heard s g k (Some before) unused bits q (Some after) x = bits_took s g k before unused bits q after x.1

-- ---- what is kept

pub few_unused : (contents : List ℕ) (other : ℕ) → 0 < length contents → IsDerBits contents
    → get_or contents 0 other ≤ 7
few_unused [] other some h = absurd (omega (arith, some))
few_unused (unused ∷ octets) other some h = h.0
