-- The faults of headers: the plain reading halts as the fault grammar says, and where it says.
use Rattle.std.proofs.Common.{◌≡◌, ℕ, zero, suc, ◌+◌, ◌-◌, ◌*◌, ◌/◌, ◌%◌, ◌<◌, ◌≤◌, ◌≢◌, ◌⊎◌, inl, inr, ⊎_elim, ◌==◌, ◌&&◌, nat_lt, nat_le, not, Bool, true, false, Option, Some, None, List, [], ◌∷◌, ◌++◌, length, refl, sym, ◌∙◌, ap, ap₂, subst, arith}
use Rattle.std.proofs.lemmas.Bool.Decides.{nat_tests}
use Rattle.tlv_core.specs.Identifier.{Tag, identifier}
use Rattle.tlv_core.specs.Limits.{Limits}
use Rattle.tlv_core.specs.declared.fault.Fault.{Fault}
use Rattle.tlv_core.specs.declared.reason.Reason.TheVariants.{BadEnd, BadTag, TooDeep, Truncated}
use Rattle.x690.specs.HeaderFaults.{AllContinue, AllMayStand, BadTagOctet, Begin, EndStops, EndsHere, HighNumberStops, IdentifierStops, MayStand, NoLeadingZero, NoOctet, Stands, StopsInTag, base128_number}
use Rattle.x690.specs.Points.{Enclosing, at_end, ends_with_zeros, fault, past_end, stands_at_end}
use Rattle.x690.specs.ReadHeaders.{ContainerEnds, ElementStands, header_octet, next_tag, read_high_number, read_tag_number}
use Rattle.x690.specs.Reading.{Ask, Done, Fail, Halted, Reading, Took, choose, require, run, ◌>>=◌}
use Rattle.x690_laws.proofs.ReadingOfLayouts.{id_some}
use Rattle.x690_laws.proofs.ReadingOfHeaders.{both, ends_on, endless_on, require_on, next_deep, next_on, not_at_bound, not_false, octet_on, choose_first, choose_second, where_on, within_less}
use Rattle.x690_laws.proofs.ReadingHeadersSound.{Within, both_true, identifier_is, next_took, not_true, number_took, octet_took, tag_is}
use Rattle.x690.proofs.Runs.{halt_bind, halted_bind, halted_done, halted_fail, halted_require, halted_choose, run_bind}

-- octets that may stand

bound_after : (e : Option ℕ) (k : ℕ) → at_end e k ≡ false → past_end e (k + 1) ≡ false
bound_after None k h = refl
bound_after (Some e) k h = grind (arith, nat_tests)

pub within_of : (l : Limits) (e : Option ℕ) (k : ℕ) → MayStand l e k → Within l e (k + 1)
within_of l e k m = let z = m.in_limit in record { nearest_end = bound_after e k m.in_bound; limit = omega arith }

pub may_of : (l : Limits) (e : Option ℕ) (k : ℕ) → Within l e (k + 1) → MayStand l e k
may_of l e k w =
    let z : k + 1 ≤ l.octets = w.limit in record { in_bound = not_at_bound e k w.nearest_end; in_limit = omega arith }

pub all_within : (l : Limits) (e : Option ℕ) (k x : ℕ) (s : List ℕ) → AllMayStand l e k (x ∷ s)
    → Within l e (k + length (x ∷ s))
all_within l e k x [] h =
    let q : k + 1 ≡ k + length (x ∷ []) = omega arith in subst (Within l e) q (within_of l e k h.0)
all_within l e k x (y ∷ s) h =
    let q : k + 1 + length (y ∷ s) ≡ k + length (x ∷ y ∷ s) = omega arith in
    subst (Within l e) q (all_within l e (k + 1) y s h.1)

pub some_within : (l : Limits) (e : Option ℕ) (k : ℕ) (s : List ℕ) → 0 < length s → AllMayStand l e k s
    → Within l e (k + length s)
some_within l e k [] z h = absurd (omega arith)
some_within l e k (x ∷ s) z h = all_within l e k x s h

pub all_may : (l : Limits) (e : Option ℕ) (k : ℕ) (s : List ℕ) → Within l e (k + length s) → AllMayStand l e k s
all_may l e k [] w = tt
all_may l e k (x ∷ s) w =
    let q : k + length (x ∷ s) ≡ k + 1 + length s = omega arith in (
      may_of l e k (within_less l e (k + 1) (k + length (x ∷ s)) (omega arith) w),
      all_may l e (k + 1) s (subst (Within l e) q w),
    )

-- one octet

ask_halts : (k : ℕ) (s : List ℕ) (f : Fault) → run (Ask Done) k s ≡ Halted f → (s ≡ []) × (f ≡ fault k Truncated)
unfolding run
ask_halts k [] f h = let e : fault k Truncated ≡ f = cc in (refl, sym e)
ask_halts k (x ∷ s) f h = cc

ask_empty : (k : ℕ) → run (Ask Done) k [] ≡ Halted (fault k Truncated)
unfolding run
ask_empty k = refl

pub fail_on : (A : Type 0) (f : Fault) (k : ℕ) (s : List ℕ) → run {A = A} (Fail f) k s ≡ Halted f
unfolding run
fail_on A f k s = refl

pub require_off : {A : Type 0} (b : Bool) (g : Fault) (p : Reading A) (k : ℕ) (s : List ℕ) (f : Fault) → b ≡ false
    → f ≡ g → run (require b g p) k s ≡ Halted f
unfolding require run
require_off true g p k s f e z = cc
require_off false g p k s f e z = ap Halted (sym z)

pub no_octet : (l : Limits) (e : Option ℕ) (p k : ℕ) (s : List ℕ) (f : Fault) → run (header_octet l e p) k s ≡ Halted f
    → NoOctet l e p k s f
unfolding header_octet
no_octet l e p k s f h = ⊎_elim
    (λ a. inl (not_not _ a.0, a.1))
    (λ a. ⊎_elim
    (λ b. let b0 : nat_lt k l.octets ≡ false = b.0 in inr (inl (not_true _ a.0, grind (arith, nat_tests), b.1)))
    (λ b. let b0 : nat_lt k l.octets ≡ true = b.0 in
    let z = ask_halts k s f b.1 in
    inr (inr (record { in_bound = not_true _ a.0; in_limit = grind (arith, nat_tests) }, z.0, z.1)))
    (halted_require _ _ _ k s f a.1))
    (halted_require _ _ _ k s f (sym (where_on _ k s) ∙ h))
  where
    not_not : (b : Bool) → not b ≡ false → b ≡ true
    not_not true e = refl
    not_not false e = cc

pub no_octet_halts : (l : Limits) (e : Option ℕ) (p k : ℕ) (s : List ℕ) (f : Fault) → NoOctet l e p k s f
    → run (header_octet l e p) k s ≡ Halted f
unfolding header_octet
no_octet_halts l e p k s f (inl (a, g)) = where_on _ k s ∙ require_off _ _ _ k s f (ap not a) g
no_octet_halts l e p k s f (inr (inl (a, b, g))) =
    where_on _ k s ∙ require_on _ _ _ k s (not_false _ a) ∙ require_off _ _ _ k s f (grind (arith, nat_tests)) g
no_octet_halts l e p k s f (inr (inr (m, z, g))) =
    let lt : k < l.octets = m.in_limit in
    where_on _ k s
    ∙ require_on _ _ _ k s (not_false _ m.in_bound)
    ∙ require_on _ _ _ k s (grind (arith, nat_tests))
    ∙ ap (λ w. run (Ask Done) k w) z
    ∙ ask_empty k
    ∙ ap Halted (sym g)

pub octet_begins : (l : Limits) (e : Option ℕ) (p k : ℕ) (s : List ℕ) (x q : ℕ) (r : List ℕ)
    → run (header_octet l e p) k s ≡ Took x q r → Begin l e k s (x ∷ []) r × (q ≡ k + 1)
octet_begins l e p k s x q r h =
    let o = octet_took l e p k s x q r h in
    (record { is = o.is; stand = (may_of l e k (subst (Within l e) o.place o.within), tt) }, o.place)

pub begins_octet : (l : Limits) (e : Option ℕ) (p k : ℕ) (s : List ℕ) (x : ℕ) (r : List ℕ) → Begin l e k s (x ∷ []) r
    → run (header_octet l e p) k s ≡ Took x (k + 1) r
begins_octet l e p k s x r b =
    ap (λ w. run (header_octet l e p) k w) b.is ∙ octet_on l e p k x r (within_of l e k b.stand.0)

-- one octet, and then others
pub begin_more : (l : Limits) (e : Option ℕ) (k j : ℕ) (s : List ℕ) (x : ℕ) (t before r : List ℕ) → j ≡ k + 1
    → Begin l e k s (x ∷ []) t → Begin l e j t before r → Begin l e k s (x ∷ before) r
begin_more l e k j s x t before r q a b =
    record { is = a.is ∙ ap (λ w. x ∷ w) b.is; stand = (a.stand.0, subst (λ w. AllMayStand l e w before) q b.stand) }

pub begin_first : (l : Limits) (e : Option ℕ) (k : ℕ) (s : List ℕ) (x : ℕ) (before r : List ℕ)
    → Begin l e k s (x ∷ before) r → Begin l e k s (x ∷ []) (before ++ r)
begin_first l e k s x before r b = record { is = b.is; stand = (b.stand.0, tt) }

pub begin_rest : (l : Limits) (e : Option ℕ) (k : ℕ) (s : List ℕ) (x : ℕ) (before r : List ℕ)
    → Begin l e k s (x ∷ before) r
    → Begin l e (k + 1) (before ++ r) before r
begin_rest l e k s x before r b = record { is = refl; stand = b.stand.1 }

pub begin_none : (l : Limits) (e : Option ℕ) (k : ℕ) (s : List ℕ) → Begin l e k s [] s
begin_none l e k s = record { is = refl; stand = tt }

-- high tag numbers, `n` being the number of the octets before

abbrev LeadFits : ℕ → List ℕ → Type 0
LeadFits n before = (n ≡ 0) → NoLeadingZero before

abbrev BadFrom : ℕ → ℕ → List ℕ → ℕ → Type 0
BadFrom left n before x =
    ((n ≡ 0) × (before ≡ []) × (x ≡ 128))
    ⊎ ((length before + 1 ≡ left) × (128 ≤ x))
    ⊎ ((x < 128) × (base128_number n before * 128 + x < 31))
    ⊎ (256 ≤ x)

record HighFrom (l : Limits) (e : Option ℕ) (p left n k : ℕ) (s : List ℕ) (f : Fault) : Type 0 where
  before : List ℕ
  rest : List ℕ
  begin : Begin l e k s before rest
  few : length before + 1 ≤ left
  continue : AllContinue before
  lead : LeadFits n before
  stops : NoOctet l e p (k + length before) rest f
      ⊎ ((x : ℕ) × (rest' : List ℕ) × Begin l e (k + length before) rest (x ∷ []) rest' × BadFrom left n before x
      × (f ≡ fault p BadTag))

lead_or_large : (n x : ℕ) → not ((n == 0) && (x == 128)) && nat_lt x 256 ≡ false → ((n ≡ 0) × (x ≡ 128)) ⊎ (256 ≤ x)
lead_or_large n x h = go (n == 0) (x == 128) (nat_lt x 256) refl refl refl h
  where
    go : (a b c : Bool) → (n == 0) ≡ a → (x == 128) ≡ b → nat_lt x 256 ≡ c → not (a && b) && c ≡ false
        → ((n ≡ 0) × (x ≡ 128)) ⊎ (256 ≤ x)
    go true true c p q r h = inl (grind (arith, nat_tests), grind (arith, nat_tests))
    go true false true p q r h = cc
    go true false false p q r h = inr (grind (arith, nat_tests))
    go false b true p q r h = cc
    go false b false p q r h = inr (grind (arith, nat_tests))

lead_or_fits : (n x : ℕ) → not ((n == 0) && (x == 128)) ≡ true → n ≡ 0 → x ≢ 128
lead_or_fits n x h a b =
    let t' = subst (λ w. not ((w == 0) && (x == 128)) ≡ true) a h in
    let t'' = subst (λ w. not ((0 == 0) && (w == 128)) ≡ true) b t' in
    cc

pub here_no : (l : Limits) (e : Option ℕ) (p k : ℕ) (s : List ℕ) (f : Fault) → NoOctet l e p k s f
    → NoOctet l e p (k + 0) s f
here_no l e p k s f h = let q : k ≡ k + 0 = omega arith in subst (λ w. NoOctet l e p w s f) q h

here_begin : (l : Limits) (e : Option ℕ) (k : ℕ) (s t r : List ℕ) → Begin l e k s t r → Begin l e (k + 0) s t r
here_begin l e k s t r h = let q : k ≡ k + 0 = omega arith in subst (λ w. Begin l e w s t r) q h

high_halts : (l : Limits) (e : Option ℕ) (p left n k : ℕ) (s : List ℕ) (f : Fault) → 0 < left
    → run (read_high_number l e p left n) k s ≡ Halted f → HighFrom l e p left n k s f
unfolding read_high_number
high_halts l e p zero n k s f z h = absurd (omega arith)
high_halts l e p (suc left) n k s f z h = ⊎_elim
    (λ a. record {
      before = [];
      rest = s;
      begin = begin_none l e k s;
      few = omega arith;
      continue = tt;
      lead = λ w. tt;
      stops = inl (here_no l e p k s f (no_octet l e p k s f a));
    })
    (λ a. let b = octet_begins l e p k s a.0 a.1 a.2 a.3 in ⊎_elim
    (λ t. ⊎_elim
    (λ u. bad a.0 a.2 b.0 (inl (u.0, refl, u.1)) t.1)
    (λ u. bad a.0 a.2 b.0 (inr (inr (inr u))) t.1)
    (lead_or_large n a.0 t.0))
    (λ t. let t0 = both_true _ _ t.0 in ⊎_elim
    (λ u. let u0 : nat_lt a.0 128 ≡ true = u.0 in ⊎_elim
    (λ w.
    let w0 : nat_le 31 (n * 128 + a.0) ≡ false = w.0 in
    bad a.0 a.2 b.0 (inr (inr (inl (grind (arith, nat_tests), grind (arith, nat_tests))))) w.1)
    (λ w. absurd (halted_done _ _ _ f w.1))
    (halted_require _ _ _ a.1 a.2 f u.1))
    (λ u.
    more left a.0 a.1 a.2 b.0 b.1 t0.0 t0.1 u.0 u.1
    (λ w g. high_halts l e p left (n * 128 + (a.0 - 128)) a.1 a.2 f w g))
    (halted_choose _ _ _ a.1 a.2 f t.1))
    (halted_require _ _ _ a.1 a.2 f a.4))
    (halted_bind _ _ k s f h)
  where
    bad : (x : ℕ) (r : List ℕ) → Begin l e k s (x ∷ []) r → BadFrom (suc left) n [] x → f ≡ fault p BadTag
        → HighFrom l e p (suc left) n k s f
    bad x r b w g = record {
      before = [];
      rest = s;
      begin = begin_none l e k s;
      few = omega arith;
      continue = tt;
      lead = λ w. tt;
      stops = inr (x, r, here_begin l e k s (x ∷ []) r b, w, g);
    }

    later : (left' x : ℕ) (before : List ℕ) (y : ℕ) → 128 ≤ x → (n ≡ 0 → x ≢ 128)
        → n * 128 + (x - 128) ≡ n * 128 + x % 128 → BadFrom (suc left') (n * 128 + (x - 128)) before y
        → BadFrom (suc (suc left')) n (x ∷ before) y
    later left' x before y ge lf d (inl h) =
        let z : n * 128 + (x - 128) ≡ 0 = h.0 in
        let a : n ≡ 0 = omega arith in
        let b : x ≡ 128 = omega arith in
        absurd (lf a b)
    later left' x before y ge lf d (inr (inl h)) =
        let c : length before + 1 ≡ suc left' = h.0 in inr (inl (omega arith, h.1))
    later left' x before y ge lf d (inr (inr (inl h))) =
        inr (inr (inl (h.0, subst (λ w. base128_number w before * 128 + y < 31) d h.1)))
    later left' x before y ge lf d (inr (inr (inr h))) = inr (inr (inr h))

    more : (left' x j : ℕ) (v : List ℕ) → Begin l e k s (x ∷ []) v → j ≡ k + 1 → not ((n == 0) && (x == 128)) ≡ true
        → nat_lt x 256 ≡ true → nat_lt x 128 ≡ false
        → run (read_high_number l e p left' (n * 128 + (x - 128))) j v ≡ Halted f
        → (0 < left' → run (read_high_number l e p left' (n * 128 + (x - 128))) j v ≡ Halted f
        → HighFrom l e p left' (n * 128 + (x - 128)) j v f)
        → HighFrom l e p (suc left') n k s f
    more zero x j v b q t0 t1 u h ih =
        let ge : 128 ≤ x = grind (arith, nat_tests) in
        record {
          before = [];
          rest = s;
          begin = begin_none l e k s;
          few = omega arith;
          continue = tt;
          lead = λ w. tt;
          stops = inr (
            x,
            v,
            here_begin l e k s (x ∷ []) v b,
            inr (inl (omega arith, ge)),
            halted_fail ℕ (fault p BadTag) j v f h,
          );
        }
    more (suc left') x j v b q t0 t1 u h ih =
        let ge : 128 ≤ x = grind (arith, nat_tests) in
        let lt : x < 256 = grind (arith, nat_tests) in
        let i = ih (omega arith) h in
        let d : n * 128 + (x - 128) ≡ n * 128 + x % 128 = omega arith in
        let c : length i.before + 1 ≤ suc left' = i.few in
        let w : j + length i.before ≡ k + length (x ∷ i.before) = omega arith in
        let lf = lead_or_fits n x t0 in
        record {
          before = x ∷ i.before;
          rest = i.rest;
          begin = begin_more l e k j s x v i.before i.rest q b i.begin;
          few = omega arith;
          continue = (ge, lt, i.continue);
          lead = lf;
          stops = ⊎_elim
              (λ a. inl (subst (λ y. NoOctet l e p y i.rest f) w a))
              (λ a. inr (
                a.0,
                a.1,
                subst (λ y. Begin l e y i.rest (a.0 ∷ []) a.1) w a.2,
                later left' x i.before a.0 ge lf d a.3,
                a.4,
              ))
              i.stops;
        }

-- after one octet of a high tag number, where the two tests go on
high_next : (l : Limits) (e : Option ℕ) (p left n k : ℕ) (s : List ℕ) (x : ℕ) (r : List ℕ) → Begin l e k s (x ∷ []) r
    → not ((n == 0) && (x == 128)) && nat_lt x 256 ≡ true
    → run (read_high_number l e p (suc left) n) k s
    ≡ run (choose (nat_lt x 128) (require (nat_le 31 (n * 128 + x)) (fault p BadTag) (Done (n * 128 + x)))
    (read_high_number l e p left (n * 128 + (x - 128))))
    (k + 1) r
unfolding read_high_number
high_next l e p left n k s x r b t =
    run_bind _ _ k s x (k + 1) r (begins_octet l e p k s x r b) ∙ require_on _ _ _ (k + 1) r t

high_refused : (l : Limits) (e : Option ℕ) (p left n k : ℕ) (s : List ℕ) (x : ℕ) (r : List ℕ) (f : Fault)
    → Begin l e k s (x ∷ []) r → not ((n == 0) && (x == 128)) && nat_lt x 256 ≡ false → f ≡ fault p BadTag
    → run (read_high_number l e p (suc left) n) k s ≡ Halted f
unfolding read_high_number
high_refused l e p left n k s x r f b t g =
    run_bind _ _ k s x (k + 1) r (begins_octet l e p k s x r b) ∙ require_off _ _ _ (k + 1) r f t g

not_last : (l : Limits) (e : Option ℕ) (p n k : ℕ) (s : List ℕ) (f : Fault) → f ≡ fault p BadTag
    → run (read_high_number l e p zero n) k s ≡ Halted f
unfolding read_high_number
not_last l e p n k s f g = fail_on ℕ (fault p BadTag) k s ∙ ap Halted (sym g)

large_fails : (n x : ℕ) → 256 ≤ x → not ((n == 0) && (x == 128)) && nat_lt x 256 ≡ false
large_fails n x h = go (not ((n == 0) && (x == 128))) (nat_lt x 256) (grind (arith, nat_tests))
  where
    go : (a b : Bool) → b ≡ false → a && b ≡ false
    go true b e = e
    go false b e = refl

lead_fails : (n x : ℕ) → n ≡ 0 → x ≡ 128 → not ((n == 0) && (x == 128)) && nat_lt x 256 ≡ false
lead_fails n x a b = ap₂ (λ u v. not ((u == 0) && (v == 128)) && nat_lt v 256) a b

fits_lead : (n x : ℕ) → (n ≡ 0 → x ≢ 128) → not ((n == 0) && (x == 128)) ≡ true
fits_lead n x h = go (n == 0) (x == 128) refl refl
  where
    go : (a b : Bool) → (n == 0) ≡ a → (x == 128) ≡ b → not (a && b) ≡ true
    go true true p q =
        let z : n ≡ 0 = grind (arith, nat_tests) in let w : x ≡ 128 = grind (arith, nat_tests) in absurd (h z w)
    go true false p q = refl
    go false b p q = refl

first_missing : (l : Limits) (e : Option ℕ) (p left n k : ℕ) (s : List ℕ) (f : Fault) → NoOctet l e p k s f
    → run (read_high_number l e p (suc left) n) k s ≡ Halted f
unfolding read_high_number
first_missing l e p left n k s f h = halt_bind (header_octet l e p) _ k s f (no_octet_halts l e p k s f h)

not_zero : (n x : ℕ) → 128 ≤ x → (n ≡ 0 → x ≢ 128) → n * 128 + (x - 128) ≢ 0
not_zero n x ge g z = let a : n ≡ 0 = omega arith in let b : x ≡ 128 = omega arith in g a b

less_by : (left n x : ℕ) (before : List ℕ) (y : ℕ) → 128 ≤ x → x < 256 → BadFrom (suc left) n (x ∷ before) y
    → BadFrom left (n * 128 + (x - 128)) before y
less_by left n x before y ge lt (inl h) = let z : x ∷ before ≡ [] = h.1 in cc
less_by left n x before y ge lt (inr (inl h)) =
    let z : length (x ∷ before) + 1 ≡ suc left = h.0 in inr (inl (omega arith, h.1))
less_by left n x before y ge lt (inr (inr (inl h))) =
    let d : n * 128 + x % 128 ≡ n * 128 + (x - 128) = omega arith in
    inr (inr (inl (h.0, subst (λ w. base128_number w before * 128 + y < 31) d h.1)))
less_by left n x before y ge lt (inr (inr (inr h))) = inr (inr (inr h))

high_stops : (l : Limits) (e : Option ℕ) (p left n k : ℕ) (s : List ℕ) (f : Fault) (before rest : List ℕ)
    → Begin l e k s before rest → length before + 1 ≤ left → AllContinue before → LeadFits n before
    → (NoOctet l e p (k + length before) rest f
    ⊎ ((x : ℕ) × (rest' : List ℕ) × Begin l e (k + length before) rest (x ∷ []) rest' × BadFrom left n before x
    × (f ≡ fault p BadTag)))
    → run (read_high_number l e p left n) k s ≡ Halted f
high_stops l e p zero n k s f before rest b c d g h = absurd (omega arith)
high_stops l e p (suc left) n k s f [] rest b c d g (inl h) =
    let q : k + 0 ≡ k = omega arith in
    first_missing l e p left n k s f
    (subst (λ w. NoOctet l e p k w f) (sym b.is) (subst (λ w. NoOctet l e p w rest f) q h))
high_stops l e p (suc left) n k s f [] rest b c d g (inr (x, r, bx, w, z)) =
    let q : k + 0 ≡ k = omega arith in
    go (subst (λ y. Begin l e k y (x ∷ []) r) (sym b.is) (subst (λ y. Begin l e y rest (x ∷ []) r) q bx)) w
  where
    tested : (t : Bool) → not ((n == 0) && (x == 128)) && nat_lt x 256 ≡ t → suc zero ≡ suc left → 128 ≤ x
        → Begin l e k s (x ∷ []) r → run (read_high_number l e p (suc left) n) k s ≡ Halted f
    tested true t m ge bx =
        let m' : left ≡ 0 = omega arith in
        let u : nat_lt x 128 ≡ false = grind (arith, nat_tests) in
        high_next l e p left n k s x r bx t
        ∙ choose_second _ _ _ (k + 1) r u
        ∙ ap (λ y. run (read_high_number l e p y (n * 128 + (x - 128))) (k + 1) r) m'
        ∙ not_last l e p (n * 128 + (x - 128)) (k + 1) r f z
    tested false t m ge bx = high_refused l e p left n k s x r f bx t z

    go : Begin l e k s (x ∷ []) r → BadFrom (suc left) n [] x → run (read_high_number l e p (suc left) n) k s ≡ Halted f
    go bx (inl w) = high_refused l e p left n k s x r f bx (lead_fails n x w.0 w.2) z
    go bx (inr (inl w)) =
        tested (not ((n == 0) && (x == 128)) && nat_lt x 256) refl (let m : 1 ≡ suc left = w.0 in m) w.1 bx
    go bx (inr (inr (inl w))) =
        let lt : x < 128 = w.0 in
        let sm : n * 128 + x < 31 = w.1 in
        let t : not ((n == 0) && (x == 128)) ≡ true = fits_lead n x (λ a y. absurd (omega arith)) in
        let t' : nat_lt x 256 ≡ true = grind (arith, nat_tests) in
        high_next l e p left n k s x r bx (both _ _ t t')
        ∙ choose_first _ _ _ (k + 1) r (grind (arith, nat_tests))
        ∙ require_off _ _ _ (k + 1) r f (grind (arith, nat_tests)) z
    go bx (inr (inr (inr w))) = high_refused l e p left n k s x r f bx (large_fails n x w) z
high_stops l e p (suc left) n k s f (x ∷ before) rest b c d g h =
    let ge : 128 ≤ x = d.0 in
    let lt : x < 256 = d.1 in
    let t : not ((n == 0) && (x == 128)) ≡ true = fits_lead n x g in
    let t' : nat_lt x 256 ≡ true = grind (arith, nat_tests) in
    let u : nat_lt x 128 ≡ false = grind (arith, nat_tests) in
    let q : k + length (x ∷ before) ≡ k + 1 + length before = omega arith in
    let nz : n * 128 + (x - 128) ≢ 0 = not_zero n x ge g in
    high_next l e p left n k s x (before ++ rest) (begin_first l e k s x before rest b) (both _ _ t t')
    ∙ choose_second _ _ _ (k + 1) (before ++ rest) u
    ∙ high_stops l e p left (n * 128 + (x - 128)) (k + 1) (before ++ rest) f before rest
    (begin_rest l e k s x before rest b) (omega arith) d.2 (λ z. absurd (nz z))
    (⊎_elim
    (λ a. inl (subst (λ y. NoOctet l e p y rest f) q a))
    (λ a.
    inr (a.0, a.1, subst (λ y. Begin l e y rest (a.0 ∷ []) a.1) q a.2, less_by left n x before a.0 ge lt a.3, a.4))
    h)

high_number_stops : (l : Limits) (e : Option ℕ) (p k : ℕ) (s : List ℕ) (f : Fault)
    → run (read_high_number l e p 4 0) k s ≡ Halted f → HighNumberStops l e p k s f
high_number_stops l e p k s f h =
    let x = high_halts l e p 4 0 k s f (omega arith) h in
    let few : length x.before + 1 ≤ 4 = x.few in (
      x.before,
      x.rest,
      x.begin,
      omega arith,
      x.continue,
      x.lead refl,
      ⊎_elim inl (λ a. inr (a.0, a.1, a.2, (bad x.before a.0 a.3, a.4))) x.stops,
    )
  where
    bad : (before : List ℕ) (y : ℕ) → BadFrom 4 0 before y → BadTagOctet before y
    bad before y (inl w) = inl (w.1, w.2)
    bad before y (inr (inl w)) = let c : length before + 1 ≡ 4 = w.0 in inr (inl (omega arith, w.1))
    bad before y (inr (inr w)) = inr (inr w)

high_number_halts : (l : Limits) (e : Option ℕ) (p k : ℕ) (s : List ℕ) (f : Fault) → HighNumberStops l e p k s f
    → run (read_high_number l e p 4 0) k s ≡ Halted f
high_number_halts l e p k s f (before, rest, b, few, c, z, h) =
    high_stops l e p 4 0 k s f before rest b (omega arith) c (λ w. z)
    (⊎_elim inl (λ a. inr (a.0, a.1, a.2, bad before a.0 a.3.0, a.3.1)) h)
  where
    bad : (before : List ℕ) (y : ℕ) → BadTagOctet before y → BadFrom 4 0 before y
    bad before y (inl w) = inl (refl, w.0, w.1)
    bad before y (inr (inl w)) = let c : length before ≡ 3 = w.0 in inr (inl (omega arith, w.1))
    bad before y (inr (inr w)) = inr (inr w)

-- what stands at a place

not_ended : (l : Limits) (c : Enclosing) (k : ℕ) (s : List ℕ) (p : ℕ) (t : Tag) (form : Bool) (j : ℕ) (u : List ℕ)
    → run (next_tag l c) k s ≡ Took (ElementStands p t form) j u → stands_at_end c.innermost k ≡ false
not_ended l c k s p t form j u h = go (stands_at_end c.innermost k) refl
  where
    go : (b : Bool) → stands_at_end c.innermost k ≡ b → stands_at_end c.innermost k ≡ false
    go true e =
        let z : Took (ContainerEnds k) k s ≡ Took (ElementStands p t form) j u = sym (ends_on l c k s e) ∙ h in cc
    go false e = e

pub stands_of : (l : Limits) (c : Enclosing) (k : ℕ) (s : List ℕ) (p : ℕ) (t : Tag) (form : Bool) (j : ℕ) (u : List ℕ)
    → run (next_tag l c) k s ≡ Took (ElementStands p t form) j u → (p ≡ k) × Stands l c k s t form j u
stands_of l c k s p t form j u h =
    let n = next_took l c k s (ElementStands p t form) j u h in
    let w = subst (Within l c.nearest_end) n.place n.within in (
      n.at,
      record {
        not_ended = not_ended l c k s p t form j u h;
        is_tag = n.tag;
        begins = record { is = n.is; stand = all_may l c.nearest_end k (identifier t form) w };
        behind_is = n.place;
        depth_fits = n.deep;
      },
    )

pub stands_run : (l : Limits) (c : Enclosing) (k : ℕ) (s : List ℕ) (t : Tag) (form : Bool) (j : ℕ) (u : List ℕ)
    → Stands l c k s t form j u → run (next_tag l c) k s ≡ Took (ElementStands k t form) j u
stands_run l c k s t form j u h =
    ap (λ w. run (next_tag l c) k w) h.begins.is
    ∙ next_on l c k t form u h.not_ended h.is_tag h.depth_fits
    (some_within l c.nearest_end k (identifier t form) (id_some t form h.is_tag) h.begins.stand)
    ∙ ap (λ w. Took (ElementStands k t form) w u) (sym h.behind_is)

pub ends_of : (l : Limits) (c : Enclosing) (k : ℕ) (s : List ℕ) (p j : ℕ) (u : List ℕ)
    → run (next_tag l c) k s ≡ Took (ContainerEnds p) j u → (p ≡ k) × EndsHere l c k s
ends_of l c k s p j u h =
    let n = next_took l c k s (ContainerEnds p) j u h in (
      n.at,
      ⊎_elim
          (λ a. inl a.0)
          (λ a.
          let q : j ≡ k + length {A = ℕ} (0 ∷ 0 ∷ []) = a.2 in inr (
            a.0,
            u,
            record { is = a.1; stand = all_may l c.nearest_end k (0 ∷ 0 ∷ []) (subst (Within l c.nearest_end) q a.3) },
          ))
          n.ends,
    )

pub ends_run : (l : Limits) (c : Enclosing) (k : ℕ) (s : List ℕ) → EndsHere l c k s
    → (j : ℕ) × (u : List ℕ) × (run (next_tag l c) k s ≡ Took (ContainerEnds k) j u)
ends_run l c k s (inl e) =
    let t : (k == k) ≡ true = grind (arith, nat_tests) in (k, s, ends_on l c k s (ap (λ w. stands_at_end w k) e ∙ t))
ends_run l c k s (inr (e, r, b)) = (
  k + 2,
  r,
  ap (λ w. run (next_tag l c) k w) b.is ∙ endless_on l c k r e (all_within l c.nearest_end k 0 (0 ∷ []) b.stand),
)

pub tag_stops : (l : Limits) (c : Enclosing) (k : ℕ) (s : List ℕ) (f : Fault) → run (next_tag l c) k s ≡ Halted f
    → StopsInTag l c k s f
unfolding next_tag read_tag_number
tag_stops l c k s f h = ⊎_elim
    (λ a. absurd (halted_done _ k s f a.1))
    (λ a. (
      a.0,
      ⊎_elim
          (λ b. inl (no_octet l c.nearest_end k k s f b))
          (λ b. let o = octet_begins l c.nearest_end k k s b.0 b.1 b.2 b.3 in
          inr (
            b.0,
            b.2,
            o.0,
            ⊎_elim
                (λ z. let z0 : (b.0 == 0) ≡ true = z.0 in inl (grind (arith, nat_tests), ending b.1 b.2 o.1 z.1))
                (λ z.
                let z0 : (b.0 == 0) ≡ false = z.0 in
                let nz : b.0 ≢ 0 = grind (arith, nat_tests) in
                inr (nz, naming b.0 b.1 b.2 o.0 o.1 nz z.1))
                (halted_choose _ _ _ b.1 b.2 f b.4),
          ))
          (halted_bind _ _ k s f a.1),
    ))
    (halted_choose _ _ _ k s f (sym (where_on _ k s) ∙ h))
  where
    ending : (j : ℕ) (r : List ℕ) → j ≡ k + 1
        → run (require (ends_with_zeros c.innermost) (fault k BadEnd)
        (header_octet l c.nearest_end k >>= λ y. require (y == 0) (fault k BadEnd) (Done (ContainerEnds k)))) j r
        ≡ Halted f
        → EndStops l c k r f
    ending j r q h = ⊎_elim
        (λ a. inl a)
        (λ a. ⊎_elim
        (λ b. inr (inl (a.0, subst (λ w. NoOctet l c.nearest_end k w r f) q (no_octet l c.nearest_end k j r f b))))
        (λ b. let o = octet_begins l c.nearest_end k j r b.0 b.1 b.2 b.3 in ⊎_elim
        (λ d.
        let d0 : (b.0 == 0) ≡ false = d.0 in
        inr (inr (
          a.0,
          (b.0, b.2, subst (λ w. Begin l c.nearest_end w r (b.0 ∷ []) b.2) q o.0, (grind (arith, nat_tests), d.1)),
        )))
        (λ d. absurd (halted_done _ _ _ f d.1))
        (halted_require _ _ _ b.1 b.2 f b.4))
        (halted_bind _ _ j r f a.1))
        (halted_require _ _ _ j r f h)

    not_both : (x : ℕ) → not (x == 32) && nat_lt x 256 ≡ false → (x ≡ 32) ⊎ (256 ≤ x)
    not_both x h = go (x == 32) (nat_lt x 256) refl refl h
      where
        go : (a b : Bool) → (x == 32) ≡ a → nat_lt x 256 ≡ b → not a && b ≡ false → (x ≡ 32) ⊎ (256 ≤ x)
        go true b p q e = inl (grind (arith, nat_tests))
        go false true p q e = cc
        go false false p q e = inr (grind (arith, nat_tests))

    naming : (x j : ℕ) (r : List ℕ) → Begin l c.nearest_end k s (x ∷ []) r → j ≡ k + 1 → x ≢ 0
        → run (require (not (x == 32) && nat_lt x 256) (fault k BadTag)
        (choose (nat_lt (x % 32) 31) (Done (x % 32)) (read_high_number l c.nearest_end k 4 0)
        >>= λ n.
        require (nat_lt c.open_containers l.depth) (fault k TooDeep)
        (Done (ElementStands k (record { class = x / 64; number = n }) (nat_le 32 (x % 64)))))) j r
        ≡ Halted f
        → IdentifierStops l c k s x r f
    naming x j r o q nz h = ⊎_elim
        (λ a. inl (not_both x a.0, a.1))
        (λ a. let a0 = both_true _ _ a.0 in
        let z1 : (x == 32) ≡ false = not_true _ a0.0 in
        let n1 : x ≢ 32 = grind (arith, nat_tests) in
        let z2 : nat_lt x 256 ≡ true = a0.1 in
        let lt : x < 256 = grind (arith, nat_tests) in
        ⊎_elim
        (λ b. ⊎_elim
        (λ d. absurd (halted_done _ _ _ f d.1))
        (λ d. let d0 : nat_lt (x % 32) 31 ≡ false = d.0 in
        let ge : 31 ≤ x % 32 = grind (arith, nat_tests) in
        inr (inl (
          lt,
          omega arith,
          subst (λ w. HighNumberStops l c.nearest_end k w r f) q (high_number_stops l c.nearest_end k j r f d.1),
        )))
        (halted_choose _ _ _ j r f b))
        (λ b. ⊎_elim
        (λ d. let d0 : nat_lt c.open_containers l.depth ≡ false = d.0 in
        let w = some_within l c.nearest_end k (x ∷ []) (omega arith) o.stand in
        let q' : k + length (x ∷ []) ≡ j = omega arith in
        let i = number_took l c.nearest_end k x j r b.0 b.1 b.2 (subst (Within l c.nearest_end) q' w) b.3 in
        let id = identifier_is l c.nearest_end x j r b.0 b.1 b.2 lt i in
        let p1 : b.1 ≡ j + length i.octets = i.place in
        let n : length (identifier (record { class = x / 64; number = b.0 }) (nat_le 32 (x % 64)))
        ≡ length (x ∷ i.octets) = ap length id in
        let e : b.1 ≡ k + length (identifier (record { class = x / 64; number = b.0 }) (nat_le 32 (x % 64))) =
        omega arith in
        inr (inr (
          record { class = x / 64; number = b.0 },
          nat_le 32 (x % 64),
          b.2,
          tag_is l c.nearest_end x j r b.0 b.1 b.2 lt nz n1 i,
          record {
            is = o.is ∙ ap (λ v. x ∷ v) i.is ∙ sym (ap (λ v. v ++ b.2) id);
            stand =
                all_may l c.nearest_end k (identifier (record { class = x / 64; number = b.0 }) (nat_le 32 (x % 64)))
                (subst (Within l c.nearest_end) e i.within);
          },
          grind (arith, nat_tests),
          d.1,
        )))
        (λ d. absurd (halted_done _ _ _ f d.1))
        (halted_require _ _ _ b.1 b.2 f b.4))
        (halted_bind _ _ j r f a.1))
        (halted_require _ _ _ j r f h)

pub tag_halts : (l : Limits) (c : Enclosing) (k : ℕ) (s : List ℕ) (f : Fault) → StopsInTag l c k s f
    → run (next_tag l c) k s ≡ Halted f
unfolding next_tag read_tag_number
tag_halts l c k s f (a, inl h) =
    where_on _ k s
    ∙ choose_second _ _ _ k s a
    ∙ halt_bind (header_octet l c.nearest_end k) _ k s f (no_octet_halts l c.nearest_end k k s f h)
tag_halts l c k s f (a, inr (x, r, b, inl (z, h))) =
    let t : (x == 0) ≡ true = grind (arith, nat_tests) in
    where_on _ k s
    ∙ choose_second _ _ _ k s a
    ∙ run_bind _ _ k s x (k + 1) r (begins_octet l c.nearest_end k k s x r b)
    ∙ choose_first _ _ _ (k + 1) r t
    ∙ ending h
  where
    ending : EndStops l c k r f
        → run (require (ends_with_zeros c.innermost) (fault k BadEnd)
        (header_octet l c.nearest_end k >>= λ y. require (y == 0) (fault k BadEnd) (Done (ContainerEnds k))))
        (k + 1) r
        ≡ Halted f
    ending (inl (e, g)) = require_off _ _ _ (k + 1) r f e g
    ending (inr (inl (e, g))) =
        require_on _ _ _ (k + 1) r e
        ∙ halt_bind (header_octet l c.nearest_end k) _ (k + 1) r f (no_octet_halts l c.nearest_end k (k + 1) r f g)
    ending (inr (inr (e, (y, r', b', (n, g))))) =
        let u : (y == 0) ≡ false = grind (arith, nat_tests) in
        require_on _ _ _ (k + 1) r e
        ∙ run_bind _ _ (k + 1) r y (k + 1 + 1) r' (begins_octet l c.nearest_end k (k + 1) r y r' b')
        ∙ require_off _ _ _ (k + 1 + 1) r' f u g
tag_halts l c k s f (a, inr (x, r, b, inr (n, inl (w, g)))) =
    let t : (x == 0) ≡ false = grind (arith, nat_tests) in
    where_on _ k s
    ∙ choose_second _ _ _ k s a
    ∙ run_bind _ _ k s x (k + 1) r (begins_octet l c.nearest_end k k s x r b)
    ∙ choose_second _ _ _ (k + 1) r t
    ∙ require_off _ _ _ (k + 1) r f (off w) g
  where
    either : (a b : Bool) → (a ≡ true) ⊎ (b ≡ false) → not a && b ≡ false
    either true b h = refl
    either false b (inl h) = cc
    either false b (inr h) = h

    off : (x ≡ 32) ⊎ (256 ≤ x) → not (x == 32) && nat_lt x 256 ≡ false
    off (inl e) = let z : (x == 32) ≡ true = grind (arith, nat_tests) in either _ _ (inl z)
    off (inr e) = let z : nat_lt x 256 ≡ false = grind (arith, nat_tests) in either _ _ (inr z)
tag_halts l c k s f (a, inr (x, r, b, inr (n, inr (inl (lt, m, h))))) =
    let t : (x == 0) ≡ false = grind (arith, nat_tests) in
    let n32 : x ≢ 32 = λ e. absurd (omega arith) in
    let t1 : (x == 32) ≡ false = grind (arith, nat_tests) in
    let t2 : nat_lt x 256 ≡ true = grind (arith, nat_tests) in
    let t3 : nat_lt (x % 32) 31 ≡ false = grind (arith, nat_tests) in
    where_on _ k s
    ∙ choose_second _ _ _ k s a
    ∙ run_bind _ _ k s x (k + 1) r (begins_octet l c.nearest_end k k s x r b)
    ∙ choose_second _ _ _ (k + 1) r t
    ∙ require_on _ _ _ (k + 1) r (both _ _ (not_false _ t1) t2)
    ∙ halt_bind _ _ (k + 1) r f (choose_second _ _ _ (k + 1) r t3 ∙ high_number_halts l c.nearest_end k (k + 1) r f h)
tag_halts l c k s f (a, inr (x, r, b, inr (n, inr (inr (t, form, r', g, i, d, e))))) =
    ap (λ w. run (next_tag l c) k w) i.is
    ∙ next_deep l c k t form r' a g d (some_within l c.nearest_end k (identifier t form) (id_some t form g) i.stand)
    ∙ ap Halted (sym e)
