-- The arcs that subidentifiers tell are those of the object identifier.
use Rattle.std.proofs.Common.{◌≡◌, ℕ, zero, suc, ◌+◌, ◌-◌, ◌*◌, ◌/◌, ◌%◌, ◌<◌, ◌≤◌, true, false, cond, nat_lt, List, [], ◌∷◌, ◌++◌, refl, sym, ◌∙◌, ap, ap₂, subst, append_assoc, arith, min, drop, flat_map, slice_get, Some, None, codes, decimal}
use Rattle.std.proofs.lemmas.Bool.Decides.{nat_tests}
use Rattle.tlv_core.specs.Identifier.{base128}
use Rattle.tlv_core.specs.ObjectIdentifier.{IsObjectIdentifier, ObjectIdentifierOctets}
use Rattle.tlv_core.proofs.Base128.{IsRun, base128_run, base128_value, run_value}
use Rattle.tlv_core.specs.Texts.{arcs_by, arcs_of, dotted, subidentifiers}

-- a run of octets that bit 8 joins is one subidentifier
run_first : (high : ℕ) (run rest : List ℕ) → IsRun run
    → subidentifiers high (run ++ rest) ≡ run_value high run ∷ subidentifiers 0 rest
run_first high [] rest h = absurd h
run_first high (x ∷ []) rest h =
    let t : nat_lt x 128 ≡ true = grind (arith, nat_tests) in
    let e : x ≡ x % 128 = omega arith in
    ap (λ b. cond b ((high * 128 + x) ∷ subidentifiers 0 rest) (subidentifiers (high * 128 + (x - 128)) rest)) t
    ∙ ap (λ n. (high * 128 + n) ∷ subidentifiers 0 rest) e
run_first high (x ∷ y ∷ run) rest h =
    let t : nat_lt x 128 ≡ false = let l : 128 ≤ x = h.0 in grind (arith, nat_tests) in
    let e : x - 128 ≡ x % 128 = let l : 128 ≤ x = h.0 in let m : x < 256 = h.1 in omega arith in
    ap (λ b.
    cond b ((high * 128 + x) ∷ subidentifiers 0 ((y ∷ run) ++ rest))
    (subidentifiers (high * 128 + (x - 128)) ((y ∷ run) ++ rest))) t
    ∙ ap (λ n. subidentifiers (high * 128 + n) ((y ∷ run) ++ rest)) e
    ∙ run_first (high * 128 + x % 128) (y ∷ run) rest h.2

numbers_told : (ns : List ℕ) → subidentifiers 0 (flat_map base128 ns) ≡ ns
numbers_told [] = refl
numbers_told (n ∷ ns) =
    run_first 0 (base128 n) (flat_map base128 ns) (base128_run n)
    ∙ ap₂ (λ m (ms : List ℕ). m ∷ ms) (base128_value n) (numbers_told ns)

first_arc : (x y : ℕ) → x ≤ 2 → ((x < 2) → y < 40) → min ((40 * x + y) / 40) 2 ≡ x
first_arc zero y h g = let s : y < 40 = g (omega arith) in omega arith
first_arc (suc zero) y h g = let s : y < 40 = g (omega arith) in omega arith
first_arc (suc (suc zero)) y h g = omega arith
first_arc (suc (suc (suc x))) y h g = absurd (omega arith)

pub arcs_told : (arcs octets : List ℕ) → ObjectIdentifierOctets arcs octets → arcs_of octets ≡ arcs
arcs_told [] octets h = absurd h
arcs_told (x ∷ []) octets h = absurd h
arcs_told (x ∷ y ∷ more) octets h =
    let root = first_arc x y h.0 h.1 in
    let second : 40 * x + y - 40 * x ≡ y = omega arith in
    ap (λ s. arcs_by (subidentifiers 0 s)) h.3
    ∙ ap arcs_by (numbers_told ((40 * x + y) ∷ more))
    ∙ ap (λ k. k ∷ (40 * x + y - 40 * k) ∷ more) root
    ∙ ap (λ k. x ∷ k ∷ more) second

pub arcs_fit : (octets : List ℕ) → IsObjectIdentifier octets → ObjectIdentifierOctets (arcs_of octets) octets
arcs_fit octets (arcs, h) = subst (λ xs. ObjectIdentifierOctets xs octets) (sym (arcs_told arcs octets h)) h

-- the text of arcs that stand after another one
abbrev pub behind_stops : List ℕ → List ℕ
behind_stops arcs = flat_map (λ next. codes "." ++ decimal next) arcs

-- the text so far, and the next arc after it
pub next_arc_text : (old arcs : List ℕ) (n : ℕ)
    → (old ++ (codes "." ++ decimal n)) ++ behind_stops arcs ≡ old ++ behind_stops (n ∷ arcs)
next_arc_text old arcs n = append_assoc old (codes "." ++ decimal n) (behind_stops arcs)

-- the first two arcs and those after them
pub first_arcs_text : (old arcs : List ℕ) (x y : ℕ)
    → ((old ++ decimal x) ++ (codes "." ++ decimal y)) ++ behind_stops arcs ≡ old ++ dotted (x ∷ y ∷ arcs)
first_arcs_text old arcs x y =
    next_arc_text (old ++ decimal x) arcs y ∙ append_assoc old (decimal x) (behind_stops (y ∷ arcs))

not_some : (n : ℕ) → None ≡ Some n → ⊥
not_some n h = cc

-- the arc that stands first, or none does
pub is_first : (arcs : List ℕ) (n : ℕ) → Some n ≡ slice_get arcs 0 → arcs ≡ n ∷ drop 1 arcs
is_first [] n h = absurd (not_some n (sym h))
is_first (x ∷ arcs) n h = let e : n ≡ x = cc in ap (λ (m : ℕ). m ∷ arcs) (sym e)

pub none_first : (arcs : List ℕ) → None ≡ slice_get arcs 0 → arcs ≡ []
none_first [] h = refl
none_first (x ∷ arcs) h = absurd (not_some x h)
