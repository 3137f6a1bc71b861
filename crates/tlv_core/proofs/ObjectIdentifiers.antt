-- Arcs and the octets of their subidentifiers.
use Rattle.std.proofs.Common.{◌≡◌, ◌≢◌, ℕ, zero, suc, ◌+◌, ◌-◌, ◌*◌, ◌/◌, ◌%◌, ◌^◌, ◌<◌, ◌≤◌, ◌==◌, false, min, List, [], ◌∷◌, ◌++◌, refl, sym, ◌∙◌, ap, ap₂, subst, add-one, append_assoc, append-nil, arith, take, drop, length, flat_map, get_or, slice_get, Option, Some, None, IfSome}
use Rattle.std.specs.Option.{SomeIff}
use Rattle.std.proofs.lemmas.Grind.{flat_map-append}
use Rattle.std.proofs.lemmas.List.{take-append-drop, take_more, take_all, length-drop}
use Rattle.std.proofs.lemmas.Bool.Decides.{nat_tests}
use Rattle.tlv_core.specs.Identifier.{leading_base128, base128}
use Rattle.tlv_core.specs.ObjectIdentifier.{AllBelow, ObjectIdentifierOctets, IsObjectIdentifier, LaterOctets}
use Rattle.tlv_core.proofs.Digits.{leading_none}
use Rattle.tlv_core.proofs.Base128.{IsRun, run_value, run_beyond, run_value_more, leading_open, leading_value, base128_run, base128_value, base128_alone, base128_first, leading_next, base128_next}

-- The octets don't begin with a number below 2^128.
abbrev pub NoNumber : List ℕ → Type 0
NoNumber octets = (n : ℕ) (rest : List ℕ) → n < 2 ^ 128 → octets ≡ base128 n ++ rest → ⊥

run_some : (s t : List ℕ) → IsRun s → s ++ t ≢ []
run_some [] t h e = h
run_some (x ∷ s) t h e = cc

base128_some : (n : ℕ) (s : List ℕ) → base128 n ++ s ≢ []
base128_some n s e = run_some (base128 n) s (base128_run n) e

-- what begins with numbers goes on with the numbers after them
pub numbers_beyond : (ns ms rest : List ℕ) → flat_map base128 ns ++ rest ≡ flat_map base128 ms
    → (later : List ℕ) × (ms ≡ ns ++ later) × (rest ≡ flat_map base128 later)
numbers_beyond [] ms rest e = (ms, refl, e)
numbers_beyond (n ∷ ns) [] rest e =
    absurd
    (base128_some n (flat_map base128 ns ++ rest) (sym (append_assoc (base128 n) (flat_map base128 ns) rest) ∙ e))
numbers_beyond (n ∷ ns) (m ∷ ms) rest e =
    let both = base128_alone n m (flat_map base128 ns ++ rest) (flat_map base128 ms)
    (sym (append_assoc (base128 n) (flat_map base128 ns) rest) ∙ e) in
    let i = numbers_beyond ns ms rest both.1 in
    let q : n ≡ m = both.0 in
    let t : ms ≡ ns ++ i.0 = i.1 in
    (i.0, cc, i.2)

below_more : (b : ℕ) (ns : List ℕ) (n : ℕ) → AllBelow b ns → n < b → AllBelow b (ns ++ n ∷ [])
below_more b [] n h g = (g, tt)
below_more b (m ∷ ns) n h g = (h.0, below_more b ns n h.1 g)

below_later : (b : ℕ) (ns later : List ℕ) → AllBelow b (ns ++ later) → AllBelow b later
below_later b [] later h = h
below_later b (m ∷ ns) later h = below_later b ns later h.1

-- the first arc is told by the first subidentifier
first_arc : (x y : ℕ) → x ≤ 2 → ((x < 2) → y < 40) → min ((40 * x + y) / 40) 2 ≡ x
first_arc zero y h g = let s : y < 40 = g (omega arith) in omega arith
first_arc (suc zero) y h g = let s : y < 40 = g (omega arith) in omega arith
first_arc (suc (suc zero)) y h g = omega arith
first_arc (suc (suc (suc x))) y h g = absurd (omega arith)

-- the arcs of one subidentifier
pub two_arcs : (n : ℕ) → n < 2 ^ 128
    → ObjectIdentifierOctets (min (n / 40) 2 ∷ (n - 40 * min (n / 40) 2) ∷ []) (base128 n)
two_arcs n h =
    let k = min (n / 40) 2 in
    let e : 40 * k + (n - 40 * k) ≡ n = omega arith in (
      omega arith,
      λ s. omega arith,
      (subst (λ m. m < 2 ^ 128) (sym e) h, tt),
      sym (ap (λ m. base128 m ++ []) e ∙ append-nil (base128 n)),
    )

-- one arc more
pub more_arcs : (xs octets : List ℕ) (n : ℕ) → ObjectIdentifierOctets xs octets → n < 2 ^ 128
    → ObjectIdentifierOctets (xs ++ n ∷ []) (octets ++ base128 n)
more_arcs [] o n h g = absurd h
more_arcs (x ∷ []) o n h g = absurd h
more_arcs (x ∷ y ∷ xs) o n h g =
    let ns = (40 * x + y) ∷ xs in
    let e : o ++ base128 n ≡ flat_map base128 (ns ++ n ∷ []) = ap (λ s. s ++ base128 n) h.3
    ∙ ap (λ s. flat_map base128 ns ++ s) (sym (append-nil (base128 n))) ∙ sym (flat_map-append base128 ns (n ∷ [])) in
    (h.0, h.1, below_more (2 ^ 128) ns n h.2 g, e)

-- what begins with the octets of an object identifier and goes on with no number is none
pub no_more_arcs : (xs o rest octets : List ℕ) → ObjectIdentifierOctets xs o → octets ≡ o ++ rest
    → false ≡ (length rest == 0) → NoNumber rest → IsObjectIdentifier octets → ⊥
no_more_arcs [] o rest octets h e z none is = h
no_more_arcs (x ∷ []) o rest octets h e z none is = h
no_more_arcs (x ∷ y ∷ xs) o rest octets h e z none (ys, g) = go ys g
  where
    ends : (ns : List ℕ) → AllBelow (2 ^ 128) ns → rest ≡ flat_map base128 ns → ⊥
    ends [] b q = let e : length rest ≡ 0 = ap length q in grind (arith, nat_tests)
    ends (n ∷ ns) b q = none n (flat_map base128 ns) b.0 q

    go : (ys : List ℕ) → ObjectIdentifierOctets ys octets → ⊥
    go [] g = g
    go (a ∷ []) g = g
    go (a ∷ b ∷ ys) g =
        let i =
        numbers_beyond ((40 * x + y) ∷ xs) ((40 * a + b) ∷ ys) rest (ap (λ s. s ++ rest) (sym h.3) ∙ sym e ∙ g.3) in
        ends i.0 (below_later (2 ^ 128) ((40 * x + y) ∷ xs) i.0 (subst (λ l. AllBelow (2 ^ 128) l) i.1 g.2)) i.2

-- after the leading digits of a number that the octets begin with stand its other digits
record Begun (octets : List ℕ) (i v n : ℕ) (rest : List ℕ) : Type 0 where
  digits : List ℕ
  run : IsRun digits
  behind : drop i octets ≡ digits ++ rest
  whole : base128 n ≡ leading_base128 v v ++ digits
  value : run_value v digits ≡ n

begun : (octets : List ℕ) (i v n : ℕ) (rest : List ℕ) → take i octets ≡ leading_base128 v v → octets ≡ base128 n ++ rest
    → Begun octets i v n rest
begun octets i v n rest h e =
    let parts : leading_base128 v v ++ drop i octets ≡ base128 n ++ rest =
    ap (λ s. s ++ drop i octets) (sym h) ∙ take-append-drop i octets ∙ e in
    let b = run_beyond (leading_base128 v v) (drop i octets) (base128 n) rest (leading_open v) (base128_run n) parts in
    record {
      digits = b.0;
      run = b.2;
      behind = b.3;
      whole = b.1;
      value = sym (leading_value v v b.0 (omega arith)) ∙ ap (λ s. run_value 0 s) (sym b.1) ∙ base128_value n;
    }

-- its digits are too many
pub too_great : (octets : List ℕ) (i v : ℕ) → take i octets ≡ leading_base128 v v → 2 ^ 121 ≤ v → NoNumber octets
too_great octets i v h g n rest l e =
    let b = begun octets i v n rest h e in
    let m = run_value_more v b.digits b.run in
    let q : run_value v b.digits ≡ n = b.value in
    omega arith

-- it has no last digit
pub no_last : (octets : List ℕ) (i v : ℕ) → take i octets ≡ leading_base128 v v → drop i octets ≡ [] → NoNumber octets
no_last octets i v h z n rest l e =
    let b = begun octets i v n rest h e in
    run_some b.digits rest b.run (sym b.behind ∙ z)

-- its first digit is a needless 0
pub needless_zero : (octets : List ℕ) (i v : ℕ) (s : List ℕ) → take i octets ≡ leading_base128 v v → v ≡ 0
    → drop i octets ≡ 128 ∷ s → NoNumber octets
needless_zero octets i v s h z d n rest l e =
    let b = begun octets i v n rest h e in
    let w : base128 n ≡ b.digits = b.whole ∙ ap (λ t. t ++ b.digits) (leading_none v v z) in
    base128_first n rest s (ap (λ t. t ++ rest) w ∙ sym b.behind ∙ d)

-- one digit more, which others follow
pub digit_next : (octets : List ℕ) (i v x m : ℕ) → i < length octets → take i octets ≡ leading_base128 v v
    → x ≡ get_or octets i 0 → 128 ≤ x → x < 256 → m ≡ v * 128 + x % 128 → 0 < m
    → take (i + 1) octets ≡ leading_base128 m m
digit_next octets i v x m l h g a b e p =
    let q : 0 < v * 128 + x % 128 = omega arith in
    take_more octets i 0 l
    ∙ ap₂ (λ s (y : ℕ). s ++ y ∷ []) h (sym g)
    ∙ sym (leading_next v x a b q)
    ∙ ap (λ n. leading_base128 n n) (sym e)

-- the last digit
pub digit_last : (octets : List ℕ) (i v x m : ℕ) → i < length octets → take i octets ≡ leading_base128 v v
    → x ≡ get_or octets i 0 → x < 128 → m ≡ v * 128 + x % 128 → take (i + 1) octets ≡ base128 m
digit_last octets i v x m l h g a e =
    take_more octets i 0 l ∙ ap₂ (λ s (y : ℕ). s ++ y ∷ []) h (sym g) ∙ sym (base128_next v x a) ∙ ap base128 (sym e)

pub all_below : (bound : ℕ) (xs : List ℕ) → ((i : ℕ) → get_or xs i 0 < bound) → AllBelow bound xs
all_below bound [] h = tt
all_below bound (x ∷ xs) h = (h 0, all_below bound xs (λ i. h (suc i)))

-- what is left after the first octets
pub rest_is : (octets first : List ℕ) (used : ℕ) → take used octets ≡ first
    → octets ≡ first ++ take (length octets - used) (drop used octets)
rest_is octets first used h =
    let rest : take (length octets - used) (drop used octets) ≡ drop used octets =
    take_all (length octets - used) (drop used octets) (omega (arith, length-drop used octets)) in
    sym (take-append-drop used octets) ∙ ap₂ (λ s t. s ++ t) h (sym rest)

pub rest_next : (octets o rest first : List ℕ) (used : ℕ) → octets ≡ o ++ rest → take used rest ≡ first
    → octets ≡ (o ++ first) ++ take (length rest - used) (drop used rest)
rest_next octets o rest first used e h =
    e
    ∙ ap (λ s. o ++ s) (rest_is rest first used h)
    ∙ sym (append_assoc o first (take (length rest - used) (drop used rest)))

-- the first two arcs make the leading subidentifier
pub leading_some : (arcs : List ℕ) (made : Option ℕ) → 2 ≤ length arcs → get_or arcs 0 0 ≤ 2
    → (get_or arcs 0 0 < 2 → get_or arcs 1 0 < 40) → ((i : ℕ) → get_or arcs i 0 < 2 ^ 128)
    → SomeIff made (get_or arcs 1 0 + 40 * get_or arcs 0 0 < 2 ^ 128) (get_or arcs 1 0 + 40 * get_or arcs 0 0)
    → IfSome made (λ first. ObjectIdentifierOctets arcs (flat_map base128 (first ∷ drop 2 arcs)))
leading_some arcs None l h g all e = tt
leading_some [] (Some first) l h g all e = absurd (omega arith)
leading_some (x ∷ []) (Some first) l h g all e = absurd (omega arith)
leading_some (x ∷ y ∷ arcs) (Some first) l h g all e = (
  h,
  g,
  (let b = e.0 in omega arith, all_below (2 ^ 128) arcs (λ i. all (suc (suc i)))),
  ap (λ n. flat_map base128 (n ∷ arcs)) (let q = e.1 in omega arith),
)

-- the arcs read so far, and what is left
pub record ArcsBefore (arcs octets rest : List ℕ) : Type 0 where
  pub read : List ℕ
  pub are : ObjectIdentifierOctets arcs read
  pub whole : octets ≡ read ++ rest

pub first_read : (octets : List ℕ) (n used : ℕ) → n < 2 ^ 128 → take used octets ≡ base128 n
    → ArcsBefore (min (n / 40) 2 ∷ (n - 40 * min (n / 40) 2) ∷ []) octets
    (take (length octets - used) (drop used octets))
first_read octets n used h e =
    record { read = base128 n; are = two_arcs n h; whole = rest_is octets (base128 n) used e }

pub next_read : (arcs octets rest : List ℕ) (n used : ℕ) → ArcsBefore arcs octets rest → n < 2 ^ 128
    → take used rest ≡ base128 n → ArcsBefore (arcs ++ n ∷ []) octets (take (length rest - used) (drop used rest))
next_read arcs octets rest n used b h e = record {
  read = b.read ++ base128 n;
  are = more_arcs arcs b.read n b.are h;
  whole = rest_next octets b.read rest (base128 n) used b.whole e;
}

pub none_read : (arcs octets rest : List ℕ) → ArcsBefore arcs octets rest → false ≡ (length rest == 0) → NoNumber rest
    → IsObjectIdentifier octets → ⊥
none_read arcs octets rest b some none is = no_more_arcs arcs b.read rest octets b.are b.whole some none is

pub rest_length : (octets : List ℕ) (used : ℕ)
    → length (take (length octets - used) (drop used octets)) ≡ length octets - used
rest_length octets used =
    ap length (take_all (length octets - used) (drop used octets) (omega (arith, length-drop used octets)))
    ∙ length-drop used octets

-- The first subidentifier tells the first two arcs, and after it stand those of the later ones.
pub leading_are : (arcs octets : List ℕ) (n used lead : ℕ) → ObjectIdentifierOctets arcs octets
    → take used octets ≡ base128 n → lead ≡ min (n / 40) 2
    → (arcs ≡ lead ∷ (n - 40 * lead) ∷ drop 2 arcs)
    × LaterOctets (drop 2 arcs) (take (length octets - used) (drop used octets))
leading_are [] octets n used lead h t e = absurd h
leading_are (x ∷ []) octets n used lead h t e = absurd h
leading_are (x ∷ y ∷ arcs) octets n used lead h t e =
    let both = base128_alone n (40 * x + y) (take (length octets - used) (drop used octets)) (flat_map base128 arcs)
    (sym (rest_is octets (base128 n) used t) ∙ h.3) in
    let m : n ≡ 40 * x + y = both.0 in
    let p : lead ≡ x = e ∙ ap (λ k. min (k / 40) 2) m ∙ first_arc x y h.0 h.1 in
    let q : n - 40 * lead ≡ y = omega arith in
    (ap₂ (λ (a : ℕ) (b : ℕ). a ∷ b ∷ arcs) (sym p) (sym q), (h.2.1, both.1))

-- the number that later arcs begin with is the first of them
pub arc_given : (arcs rest : List ℕ) (n used : ℕ) → LaterOctets arcs rest → take used rest ≡ base128 n
    → (Some n ≡ slice_get arcs 0) × LaterOctets (drop 1 arcs) (take (length rest - used) (drop used rest))
arc_given [] rest n used h e =
    absurd (base128_some n (take (length rest - used) (drop used rest)) (sym (rest_is rest (base128 n) used e) ∙ h.1))
arc_given (m ∷ ms) rest n used h e =
    let both = base128_alone n m (take (length rest - used) (drop used rest)) (flat_map base128 ms)
    (sym (rest_is rest (base128 n) used e) ∙ h.1) in
    (ap Some both.0, (h.0.1, both.1))

-- where no number follows there is no arc
pub no_arc_given : (arcs rest : List ℕ) → LaterOctets arcs rest → NoNumber rest
    → (None ≡ slice_get arcs 0) × LaterOctets (drop 1 arcs) rest
no_arc_given [] rest h none = (refl, h)
no_arc_given (n ∷ ns) rest h none = absurd (none n (flat_map base128 ns) h.0.0 h.1)

passed_on : (arcs : List ℕ) (k : ℕ) (rest : List ℕ) (n used : ℕ) → k ≤ length arcs → LaterOctets (drop k arcs) rest
    → take used rest ≡ base128 n
    → (suc k ≤ length arcs) × LaterOctets (drop (suc k) arcs) (take (length rest - used) (drop used rest))
passed_on [] zero rest n used l h e =
    absurd (base128_some n (take (length rest - used) (drop used rest)) (sym (rest_is rest (base128 n) used e) ∙ h.1))
passed_on [] (suc k) rest n used l h e = absurd (omega arith)
passed_on (m ∷ ms) zero rest n used l h e = (omega arith, (arc_given (m ∷ ms) rest n used h e).1)
passed_on (m ∷ ms) (suc k) rest n used l h e =
    let i = passed_on ms k rest n used (omega arith) h e in
    (omega (arith, i.0), i.1)

-- one arc more is passed
pub one_passed : (arcs : List ℕ) (k : ℕ) (rest : List ℕ) (n used : ℕ) → k ≤ length arcs → LaterOctets (drop k arcs) rest
    → take used rest ≡ base128 n
    → (k + 1 ≤ length arcs) × LaterOctets (drop (k + 1) arcs) (take (length rest - used) (drop used rest))
one_passed arcs k rest n used l h e =
    subst (λ m. (m ≤ length arcs) × LaterOctets (drop m arcs) (take (length rest - used) (drop used rest)))
    (sym (add-one k)) (passed_on arcs k rest n used l h e)

-- where no number follows all arcs are passed
pub all_passed : (arcs : List ℕ) (k : ℕ) (rest : List ℕ) → LaterOctets (drop k arcs) rest → NoNumber rest
    → length arcs ≤ k
all_passed [] k rest h none = omega arith
all_passed (m ∷ ms) zero rest h none = absurd (none m (flat_map base128 ms) h.0.0 h.1)
all_passed (m ∷ ms) (suc k) rest h none = let i : length ms ≤ k = all_passed ms k rest h none in omega arith

-- the arc after those that are passed
passed_get : (arcs : List ℕ) (i k : ℕ) → k ≡ min i (length arcs) → slice_get (drop k arcs) 0 ≡ slice_get arcs i
passed_get [] i zero e = refl
passed_get [] i (suc k) e = absurd (omega arith)
passed_get (m ∷ ms) zero zero e = refl
passed_get (m ∷ ms) zero (suc k) e = absurd (omega arith)
passed_get (m ∷ ms) (suc i) zero e = absurd (omega arith)
passed_get (m ∷ ms) (suc i) (suc k) e = passed_get ms i k (omega arith)

pub first_told : (arcs : List ℕ) (x y i : ℕ) → arcs ≡ x ∷ y ∷ drop 2 arcs → i ≡ 0 → Some x ≡ slice_get arcs i
first_told arcs x y i e z = sym (ap (λ s. slice_get s i) e ∙ ap (λ n. slice_get (x ∷ y ∷ drop 2 arcs) n) z)

pub second_told : (arcs : List ℕ) (x y i : ℕ) → arcs ≡ x ∷ y ∷ drop 2 arcs → i ≡ 1 → Some y ≡ slice_get arcs i
second_told arcs x y i e z = sym (ap (λ s. slice_get s i) e ∙ ap (λ n. slice_get (x ∷ y ∷ drop 2 arcs) n) z)

pub later_told : (arcs : List ℕ) (x y i k : ℕ) → arcs ≡ x ∷ y ∷ drop 2 arcs → 2 ≤ i
    → k ≡ min (i - 2) (length (drop 2 arcs)) → slice_get (drop k (drop 2 arcs)) 0 ≡ slice_get arcs i
later_told arcs x y zero k e l p = absurd (omega arith)
later_told arcs x y (suc zero) k e l p = absurd (omega arith)
later_told arcs x y (suc (suc i)) k e l p =
    passed_get (drop 2 arcs) i k (omega arith) ∙ sym (ap (λ s. slice_get s (suc (suc i))) e)

pub all_counted : (arcs : List ℕ) (x y passed most : ℕ) → arcs ≡ x ∷ y ∷ drop 2 arcs
    → passed ≡ min most (length (drop 2 arcs)) → passed < most → 2 + passed ≡ length arcs
all_counted arcs x y passed most e p l =
    let n : length arcs ≡ suc (suc (length (drop 2 arcs))) = ap length e in
    omega arith
