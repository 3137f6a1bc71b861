-- The faults of lengths: the plain reading halts as the fault grammar says, and where it says.
use Rattle.std.proofs.Common.{◌≡◌, ℕ, zero, suc, ◌+◌, ◌-◌, ◌*◌, ◌<◌, ◌≤◌, ◌≢◌, ◌⊎◌, inl, inr, ⊎_elim, ◌==◌, ◌&&◌, nat_lt, nat_le, not, Bool, true, false, Option, List, [], ◌∷◌, ◌++◌, length, refl, sym, ◌∙◌, ap, ap₂, subst, arith}
use Rattle.std.proofs.lemmas.Bool.Decides.{nat_tests}
use Rattle.tlv_core.specs.Length.{SpellsLength, big_endian}
use Rattle.tlv_core.specs.Limits.{Limits}
use Rattle.tlv_core.specs.declared.fault.Fault.{Fault}
use Rattle.x690.specs.HeaderFaults.{AllMayStand, Begin, EndTooFar, FormStands, LengthStands, NoOctet, StopsInLength}
use Rattle.x690.specs.ReadHeaders.{DefiniteLength, IndefiniteLength, LengthForm, fit_contents, header_octet, read_big_endian, read_definite_length, read_length, read_number}
use Rattle.x690.specs.Reading.{Done, Halted, Reading, Took, choose, run}
use Rattle.x690_laws.proofs.ReadingOfHeaders.{both, done_on, FirstOf, big_on, length_on, first_of_len, require_on, indefinite_on, not_false, number_on, octet_on, choose_first, choose_second, where_on, within_less}
use Rattle.x690_laws.proofs.ReadingHeadersSound.{Within, both_true, length_took, not_true, number_of_took, octet_took}
use Rattle.x690_laws.proofs.FaultsOfHeaders.{all_within, begin_first, begin_more, begin_none, begin_rest, begins_octet, here_no, may_of, no_octet, no_octet_halts, octet_begins, require_off, within_of}
use Rattle.x690.proofs.Runs.{halt_bind, halted_bind, halted_done, halted_require, halted_choose, run_bind, took_bind, took_done, took_require, took_choose}

-- lengths

-- so many octets of a length, or some of them and no more
record BigStands (l : Limits) (e : Option ℕ) (left n k : ℕ) (s : List ℕ) (m q : ℕ) (r : List ℕ) : Type 0 where
  octets : List ℕ
  begin : Begin l e k s octets r
  place : q ≡ k + length octets
  count : length octets ≡ left
  number : big_endian n octets ≡ m

big_stands : (l : Limits) (e : Option ℕ) (p left n k : ℕ) (s : List ℕ) (m q : ℕ) (r : List ℕ)
    → run (read_big_endian l e p left n) k s ≡ Took m q r → BigStands l e left n k s m q r
unfolding read_big_endian
big_stands l e p zero n k s m q r h =
    let d = took_done _ _ _ _ _ _ h in
    let d1 : k ≡ q = d.1 in
    record { octets = []; begin = record { is = d.2; stand = tt }; place = omega arith; count = refl; number = d.0 }
big_stands l e p (suc left) n k s m q r h =
    let a = took_bind _ _ _ _ _ _ _ h in
    let o = octet_begins l e p k s a.value a.place a.rest a.first in
    let i = big_stands l e p left (n * 256 + a.value) a.place a.rest m q r a.next_tag in
    let z : a.place ≡ k + 1 = o.1 in
    let z' : q ≡ a.place + length i.octets = i.place in
    let z'' : length i.octets ≡ left = i.count in
    record {
      octets = a.value ∷ i.octets;
      begin = begin_more l e k a.place s a.value a.rest i.octets r o.1 o.0 i.begin;
      place = omega arith;
      count = omega arith;
      number = i.number;
    }

big_halts : (l : Limits) (e : Option ℕ) (p left n k : ℕ) (s : List ℕ) (f : Fault)
    → run (read_big_endian l e p left n) k s ≡ Halted f
    → (before : List ℕ) × (rest : List ℕ) × Begin l e k s before rest × (length before < left)
    × NoOctet l e p (k + length before) rest f
unfolding read_big_endian
big_halts l e p zero n k s f h = absurd (halted_done _ k s f h)
big_halts l e p (suc left) n k s f h = ⊎_elim
    (λ a. ([], s, begin_none l e k s, omega arith, here_no l e p k s f (no_octet l e p k s f a)))
    (λ a. let o = octet_begins l e p k s a.0 a.1 a.2 a.3 in
    let i = big_halts l e p left (n * 256 + a.0) a.1 a.2 f a.4 in
    let q : a.1 ≡ k + 1 = o.1 in
    let lt : length i.0 < left = i.3 in
    let w : a.1 + length i.0 ≡ k + length (a.0 ∷ i.0) = omega arith in (
      a.0 ∷ i.0,
      i.1,
      begin_more l e k a.1 s a.0 a.2 i.0 i.1 q o.0 i.2,
      omega arith,
      subst (λ y. NoOctet l e p y i.1 f) w i.4,
    ))
    (halted_bind _ _ k s f h)

big_stops : (l : Limits) (e : Option ℕ) (p left n k : ℕ) (s : List ℕ) (f : Fault) (before rest : List ℕ)
    → Begin l e k s before rest → length before < left → NoOctet l e p (k + length before) rest f
    → run (read_big_endian l e p left n) k s ≡ Halted f
unfolding read_big_endian
big_stops l e p zero n k s f before rest b c h = absurd (omega arith)
big_stops l e p (suc left) n k s f [] rest b c h =
    let q : k + 0 ≡ k = omega arith in
    halt_bind (header_octet l e p) _ k s f
    (no_octet_halts l e p k s f (subst (λ w. NoOctet l e p k w f) (sym b.is) (subst (λ w. NoOctet l e p w rest f) q h)))
big_stops l e p (suc left) n k s f (x ∷ before) rest b c h =
    let q : k + length (x ∷ before) ≡ k + 1 + length before = omega arith in
    run_bind _ _ k s x (k + 1) (before ++ rest)
    (begins_octet l e p k s x (before ++ rest) (begin_first l e k s x before rest b))
    ∙ big_stops l e p left (n * 256 + x) (k + 1) (before ++ rest) f before rest (begin_rest l e k s x before rest b)
    (omega arith) (subst (λ y. NoOctet l e p y rest f) q h)

fit_halts : (l : Limits) (e : Option ℕ) (p n k : ℕ) (s : List ℕ) (f : Fault) → run (fit_contents l e p n) k s ≡ Halted f
    → EndTooFar l e p (k + n) f
unfolding fit_contents
fit_halts l e p n k s f h = ⊎_elim
    (λ a. inl (not_not _ a.0, a.1))
    (λ a. ⊎_elim
    (λ b. let b0 : nat_le (k + n) l.octets ≡ false = b.0 in inr (not_true _ a.0, grind (arith, nat_tests), b.1))
    (λ b. absurd (halted_done _ k s f b.1))
    (halted_require _ _ _ k s f a.1))
    (halted_require _ _ _ k s f (sym (where_on _ k s) ∙ h))
  where
    not_not : (b : Bool) → not b ≡ false → b ≡ true
    not_not true e = refl
    not_not false e = cc

fit_stops : (l : Limits) (e : Option ℕ) (p n k : ℕ) (s : List ℕ) (f : Fault) → EndTooFar l e p (k + n) f
    → run (fit_contents l e p n) k s ≡ Halted f
unfolding fit_contents
fit_stops l e p n k s f (inl (a, g)) = where_on _ k s ∙ require_off _ _ _ k s f (ap not a) g
fit_stops l e p n k s f (inr (a, b, g)) =
    where_on _ k s ∙ require_on _ _ _ k s (not_false _ a) ∙ require_off _ _ _ k s f (grind (arith, nat_tests)) g

-- the number after the first octet of a length stops
abbrev LateStop : Limits → Option ℕ → ℕ → ℕ → List ℕ → Fault → Type 0
LateStop l e p k s f =
    ((first : ℕ) × (before : List ℕ) × (rest : List ℕ) × Begin l e k s (first ∷ before) rest × (first < 255)
    × (128 + length before < first) × NoOctet l e p (k + 1 + length before) rest f)
    ⊎ ((number : ℕ) × (header : List ℕ) × (rest : List ℕ) × Begin l e k s header rest × SpellsLength number header
    × EndTooFar l e p (k + length header + number) f)

number_halts : (l : Limits) (e : Option ℕ) (p k : ℕ) (s : List ℕ) (x j : ℕ) (r : List ℕ) (f : Fault)
    → Begin l e k s (x ∷ []) r → j ≡ k + 1 → x < 255 → x ≢ 128 → run (read_number l e p x) j r ≡ Halted f
    → LateStop l e p k s f
unfolding read_number SpellsLength
number_halts l e p k s x j r f b q lt ne h = ⊎_elim
    (λ a. ⊎_elim
    (λ d. absurd (halted_done _ j r f d.1))
    (λ d. let i = big_halts l e p (x - 128) 0 j r f d.1 in
    let c : length i.0 < x - 128 = i.3 in
    inl (
      x,
      i.0,
      i.1,
      begin_more l e k j s x r i.0 i.1 q b i.2,
      lt,
      omega arith,
      subst (λ w. NoOctet l e p (w + length i.0) i.1 f) q i.4,
    ))
    (halted_choose _ _ _ j r f a))
    (λ a. let far = fit_halts l e p a.0 a.1 a.2 f a.4 in ⊎_elim
    (λ d. let d0 : nat_lt x 128 ≡ true = d.0 in
    let y = took_done _ _ _ _ _ _ d.1 in
    let y0 : x ≡ a.0 = y.0 in
    let y1 : j ≡ a.1 = y.1 in
    let w : a.1 + a.0 ≡ k + length (x ∷ []) + a.0 = omega arith in
    inr (
      a.0,
      x ∷ [],
      a.2,
      record { is = b.is ∙ ap (λ z. x ∷ z) y.2; stand = b.stand },
      inl (grind (arith, nat_tests), y0, refl),
      subst (λ z. EndTooFar l e p z f) w far,
    ))
    (λ d. let d0 : nat_lt x 128 ≡ false = d.0 in
    let ge : 128 ≤ x = grind (arith, nat_tests) in
    let i = big_stands l e p (x - 128) 0 j r a.0 a.1 a.2 d.1 in
    let c : length i.octets ≡ x - 128 = i.count in
    let pl : a.1 ≡ j + length i.octets = i.place in
    let w : a.1 + a.0 ≡ k + length (x ∷ i.octets) + a.0 = omega arith in
    inr (
      a.0,
      x ∷ i.octets,
      a.2,
      begin_more l e k j s x r i.octets a.2 q b i.begin,
      inr (omega arith, lt, omega arith, i.number),
      subst (λ z. EndTooFar l e p z f) w far,
    ))
    (took_choose _ _ _ _ _ _ _ _ a.3))
    (halted_bind _ _ j r f h)

pub length_stops : (l : Limits) (e : Option ℕ) (p k : ℕ) (s : List ℕ) (f : Fault)
    → run (read_length l e p) k s ≡ Halted f → StopsInLength l e p true k s f
unfolding read_length
length_stops l e p k s f h = ⊎_elim
    (λ a. inl (no_octet l e p k s f a))
    (λ a. let o = octet_begins l e p k s a.0 a.1 a.2 a.3 in ⊎_elim
    (λ b. let b0 : nat_lt a.0 255 ≡ false = b.0 in inr (inl (a.0, a.2, o.0, (inl (grind (arith, nat_tests)), b.1))))
    (λ b. let b0 : nat_lt a.0 255 ≡ true = b.0 in let lt : a.0 < 255 = grind (arith, nat_tests) in ⊎_elim
    (λ d. absurd (halted_done _ _ _ f d.1))
    (λ d. let d0 : (a.0 == 128) ≡ false = d.0 in let ne : a.0 ≢ 128 = grind (arith, nat_tests) in ⊎_elim
    (λ g. inr (inr (number_halts l e p k s a.0 a.1 a.2 f o.0 o.1 lt ne g)))
    (λ g. absurd (halted_done _ _ _ f g.4))
    (halted_bind _ _ a.1 a.2 f d.1))
    (halted_choose _ _ _ a.1 a.2 f b.1))
    (halted_require _ _ _ a.1 a.2 f a.4))
    (halted_bind _ _ k s f h)

pub definite_stops : (l : Limits) (e : Option ℕ) (p k : ℕ) (s : List ℕ) (f : Fault)
    → run (read_definite_length l e p) k s ≡ Halted f → StopsInLength l e p false k s f
unfolding read_definite_length
definite_stops l e p k s f h = ⊎_elim
    (λ a. inl (no_octet l e p k s f a))
    (λ a. let o = octet_begins l e p k s a.0 a.1 a.2 a.3 in ⊎_elim
    (λ b. inr (inl (a.0, a.2, o.0, (which a.0 b.0, b.1))))
    (λ b. let b0 = both_true _ _ b.0 in
    let t0 : nat_lt a.0 255 ≡ true = b0.0 in let lt : a.0 < 255 = grind (arith, nat_tests) in
    let t1 : (a.0 == 128) ≡ false = not_true _ b0.1 in let ne : a.0 ≢ 128 = grind (arith, nat_tests) in
    inr (inr (number_halts l e p k s a.0 a.1 a.2 f o.0 o.1 lt ne b.1)))
    (halted_require _ _ _ a.1 a.2 f a.4))
    (halted_bind _ _ k s f h)
  where
    which : (x : ℕ) → nat_lt x 255 && not (x == 128) ≡ false → (255 ≤ x) ⊎ ((false ≡ false) × (x ≡ 128))
    which x h = go (nat_lt x 255) (x == 128) refl refl h
      where
        go : (a b : Bool) → nat_lt x 255 ≡ a → (x == 128) ≡ b → a && not b ≡ false
            → (255 ≤ x) ⊎ ((false ≡ false) × (x ≡ 128))
        go false b p q h = inl (grind (arith, nat_tests))
        go true true p q h = inr (refl, grind (arith, nat_tests))
        go true false p q h = cc

-- the number up to where its contents are looked at
prefix_on : (l : Limits) (e : Option ℕ) (p m k : ℕ) (header : List ℕ) (f : FirstOf m header) (r : List ℕ)
    → Within l e (k + length f.rest)
    → run (choose (nat_lt f.first 128) (Done f.first) (read_big_endian l e p (f.first - 128) 0)) k (f.rest ++ r)
    ≡ Took m (k + length f.rest) r
prefix_on l e p m k header f r w = ⊎_elim
    (λ a. let a0 : f.first < 128 = a.0 in
    let t : nat_lt f.first 128 ≡ true = grind (arith, nat_tests) in
    let n : length f.rest ≡ 0 = ap length a.2 in
    let q : k ≡ k + length f.rest = omega arith in
    choose_first _ _ _ k (f.rest ++ r) t
    ∙ done_on f.first k (f.rest ++ r)
    ∙ ap₂ (λ u v. Took u k (v ++ r)) a.1 a.2
    ∙ ap (λ u. Took m u r) q)
    (λ a. let a0 : 129 ≤ f.first = a.0 in
    let t : nat_lt f.first 128 ≡ false = grind (arith, nat_tests) in
    choose_second _ _ _ k (f.rest ++ r) t ∙ ap (λ u. run (read_big_endian l e p u 0) k (f.rest ++ r)) (sym a.1)
    ∙ big_on l e p 0 k f.rest r w ∙ ap (λ u. Took u (k + length f.rest) r) a.2)
    f.form

number_late : (l : Limits) (e : Option ℕ) (p k x : ℕ) (r : List ℕ) (f : Fault) (before rest : List ℕ)
    → r ≡ before ++ rest → AllMayStand l e (k + 1) before → 128 + length before < x
    → NoOctet l e p (k + 1 + length before) rest f → run (read_number l e p x) (k + 1) r ≡ Halted f
unfolding read_number
number_late l e p k x r f before rest is stand lt h =
    let t : nat_lt x 128 ≡ false = grind (arith, nat_tests) in
    halt_bind _ _ (k + 1) r f
    (choose_second _ _ _ (k + 1) r t
    ∙ big_stops l e p (x - 128) 0 (k + 1) r f before rest (record { is = is; stand = stand }) (omega arith) h)

number_far : (l : Limits) (e : Option ℕ) (p k m : ℕ) (header r : List ℕ) (g : Fault) (f : FirstOf m header)
    → Within l e (k + 1 + length f.rest) → EndTooFar l e p (k + 1 + length f.rest + m) g
    → run (read_number l e p f.first) (k + 1) (f.rest ++ r) ≡ Halted g
unfolding read_number
number_far l e p k m header r g f w h =
    run_bind _ _ (k + 1) (f.rest ++ r) m (k + 1 + length f.rest) r (prefix_on l e p m (k + 1) header f r w)
    ∙ fit_stops l e p m (k + 1 + length f.rest) r g h

-- a length, after its first octet
length_next : (l : Limits) (e : Option ℕ) (p k : ℕ) (s : List ℕ) (x : ℕ) (r : List ℕ) (f : Fault)
    → Begin l e k s (x ∷ []) r → x < 255 → x ≢ 128 → run (read_number l e p x) (k + 1) r ≡ Halted f
    → run (read_length l e p) k s ≡ Halted f
unfolding read_length
length_next l e p k s x r f b lt ne h =
    run_bind _ _ k s x (k + 1) r (begins_octet l e p k s x r b)
    ∙ require_on _ _ _ (k + 1) r (grind (arith, nat_tests))
    ∙ choose_second _ _ _ (k + 1) r (grind (arith, nat_tests))
    ∙ halt_bind (read_number l e p x) _ (k + 1) r f h

definite_next : (l : Limits) (e : Option ℕ) (p k : ℕ) (s : List ℕ) (x : ℕ) (r : List ℕ) (f : Fault)
    → Begin l e k s (x ∷ []) r → x < 255 → x ≢ 128 → run (read_number l e p x) (k + 1) r ≡ Halted f
    → run (read_definite_length l e p) k s ≡ Halted f
unfolding read_definite_length
definite_next l e p k s x r f b lt ne h =
    let t : nat_lt x 255 ≡ true = grind (arith, nat_tests) in
    let t' : (x == 128) ≡ false = grind (arith, nat_tests) in
    run_bind _ _ k s x (k + 1) r (begins_octet l e p k s x r b)
    ∙ require_on _ _ _ (k + 1) r (both _ _ t (not_false _ t'))
    ∙ h

late_halts : {A : Type 0} (reading : Reading A) (l : Limits) (e : Option ℕ) (p k : ℕ) (s : List ℕ) (f : Fault)
    → ((x : ℕ) (r : List ℕ) → Begin l e k s (x ∷ []) r → x < 255 → x ≢ 128
    → run (read_number l e p x) (k + 1) r ≡ Halted f → run reading k s ≡ Halted f)
    → LateStop l e p k s f → run reading k s ≡ Halted f
late_halts reading l e p k s f go (inl (x, before, rest, b, lt, c, h)) =
    go x (before ++ rest) (begin_first l e k s x before rest b) lt (λ z. absurd (omega arith))
    (number_late l e p k x (before ++ rest) f before rest refl b.stand.1 c h)
late_halts reading l e p k s f go (inr (m, header, rest, b, sp, h)) =
    let i = first_of_len m header sp in
    let b' = subst (λ w. Begin l e k s w rest) i.is b in
    let n : length header ≡ length (i.first ∷ i.rest) = ap length i.is in
    let w = all_within l e k i.first i.rest b'.stand in
    let q : k + length (i.first ∷ i.rest) ≡ k + 1 + length i.rest = omega arith in
    let q' : k + length header + m ≡ k + 1 + length i.rest + m = omega arith in
    go i.first (i.rest ++ rest) (begin_first l e k s i.first i.rest rest b') i.below i.not_indefinite
    (number_far l e p k m header rest f i (subst (Within l e) q w) (subst (λ y. EndTooFar l e p y f) q' h))

pub length_halts : (l : Limits) (e : Option ℕ) (p k : ℕ) (s : List ℕ) (f : Fault) → StopsInLength l e p true k s f
    → run (read_length l e p) k s ≡ Halted f
unfolding read_length
length_halts l e p k s f (inl h) = halt_bind (header_octet l e p) _ k s f (no_octet_halts l e p k s f h)
length_halts l e p k s f (inr (inl (x, r, b, (inl ge, g)))) =
    run_bind _ _ k s x (k + 1) r (begins_octet l e p k s x r b)
    ∙ require_off _ _ _ (k + 1) r f (grind (arith, nat_tests)) g
length_halts l e p k s f (inr (inl (x, r, b, (inr w, g)))) = let z : true ≡ false = w.0 in cc
length_halts l e p k s f (inr (inr h)) =
    late_halts (read_length l e p) l e p k s f (λ x r b lt ne g. length_next l e p k s x r f b lt ne g) h

pub definite_halts : (l : Limits) (e : Option ℕ) (p k : ℕ) (s : List ℕ) (f : Fault) → StopsInLength l e p false k s f
    → run (read_definite_length l e p) k s ≡ Halted f
unfolding read_definite_length
definite_halts l e p k s f (inl h) = halt_bind (header_octet l e p) _ k s f (no_octet_halts l e p k s f h)
definite_halts l e p k s f (inr (inl (x, r, b, (w, g)))) =
    run_bind _ _ k s x (k + 1) r (begins_octet l e p k s x r b) ∙ require_off _ _ _ (k + 1) r f (off w) g
  where
    either : (a b : Bool) → (a ≡ false) ⊎ (b ≡ true) → a && not b ≡ false
    either false b h = refl
    either true true h = refl
    either true false (inl h) = cc
    either true false (inr h) = cc

    off : (255 ≤ x) ⊎ ((false ≡ false) × (x ≡ 128)) → nat_lt x 255 && not (x == 128) ≡ false
    off (inl h) = let z : nat_lt x 255 ≡ false = grind (arith, nat_tests) in either _ _ (inl z)
    off (inr h) = let y : x ≡ 128 = h.1 in let z : (x == 128) ≡ true = grind (arith, nat_tests) in either _ _ (inr z)
definite_halts l e p k s f (inr (inr h)) =
    late_halts (read_definite_length l e p) l e p k s f (λ x r b lt ne g. definite_next l e p k s x r f b lt ne g) h

-- a length that stands

pub form_stands : (l : Limits) (e : Option ℕ) (p k : ℕ) (s : List ℕ) (x : LengthForm) (q : ℕ) (r : List ℕ)
    → run (read_length l e p) k s ≡ Took x q r → FormStands l e k s x q r
form_stands l e p k s (DefiniteLength m) q r h =
    let n = length_took l e p k s (DefiniteLength m) q r h in record {
      header = n.octets;
      is = n.is;
      spells = n.spells;
      behind_is = n.place;
      in_bound = n.within.nearest_end;
      in_limit = n.within.limit;
    }
form_stands l e p k s IndefiniteLength q r h =
    let n = length_took l e p k s IndefiniteLength q r h in
    (record { is = n.0; stand = (may_of l e k (subst (Within l e) n.1 n.2), tt) }, n.1)

pub form_run : (l : Limits) (e : Option ℕ) (p k : ℕ) (s : List ℕ) (x : LengthForm) (q : ℕ) (r : List ℕ)
    → FormStands l e k s x q r → run (read_length l e p) k s ≡ Took x q r
form_run l e p k s (DefiniteLength m) q r h =
    let w : Within l e (q + m) = record { nearest_end = h.in_bound; limit = h.in_limit } in
    ap (λ z. run (read_length l e p) k z) h.is
    ∙ length_on l e p m k h.header r h.spells (subst (λ z. Within l e (z + m)) h.behind_is w)
    ∙ ap (λ z. Took (DefiniteLength m) z r) (sym h.behind_is)
form_run l e p k s IndefiniteLength q r h =
    ap (λ z. run (read_length l e p) k z) h.0.is
    ∙ indefinite_on l e p k r (within_of l e k h.0.stand.0)
    ∙ ap (λ z. Took IndefiniteLength z r) (sym h.1)

pub definite_stands : (l : Limits) (e : Option ℕ) (p k : ℕ) (s : List ℕ) (m q : ℕ) (r : List ℕ)
    → run (read_definite_length l e p) k s ≡ Took m q r → LengthStands l e k s m q r
unfolding read_definite_length
definite_stands l e p k s m q r h =
    let a = took_bind _ _ _ _ _ _ _ h in
    let o = octet_took l e p k s a.value a.place a.rest a.first in
    let o1 : a.place ≡ k + 1 = o.place in
    let b = took_require _ _ _ _ _ _ _ _ a.next_tag in
    let b0 = both_true _ _ b.0 in
    let t0 : nat_lt a.value 255 ≡ true = b0.0 in let lt : a.value < 255 = grind (arith, nat_tests) in
    let t1 : (a.value == 128) ≡ false = not_true _ b0.1 in let ne : a.value ≢ 128 = grind (arith, nat_tests) in
    let n = number_of_took l e p a.value a.place a.rest m q r lt ne b.1 in
    let n2 : q ≡ a.place + length n.0 = n.2 in
    record {
      header = a.value ∷ n.0;
      is = o.is ∙ ap (λ w. a.value ∷ w) n.1;
      spells = n.3;
      behind_is = omega arith;
      in_bound = n.4.nearest_end;
      in_limit = n.4.limit;
    }

pub definite_run : (l : Limits) (e : Option ℕ) (p k : ℕ) (s : List ℕ) (m q : ℕ) (r : List ℕ)
    → LengthStands l e k s m q r → run (read_definite_length l e p) k s ≡ Took m q r
unfolding read_definite_length
definite_run l e p k s m q r h =
    let i = first_of_len m h.header h.spells in
    let n : length h.header ≡ length (i.first ∷ i.rest) = ap length i.is in
    let lt : i.first < 255 = i.below in
    let ne : i.first ≢ 128 = i.not_indefinite in
    let t : nat_lt i.first 255 ≡ true = grind (arith, nat_tests) in
    let t' : (i.first == 128) ≡ false = grind (arith, nat_tests) in
    let b : q ≡ k + length h.header = h.behind_is in
    let q' : q + m ≡ k + 1 + length i.rest + m = omega arith in
    let q'' : k + 1 + length i.rest ≡ q = omega arith in
    let w : Within l e (q + m) = record { nearest_end = h.in_bound; limit = h.in_limit } in
    let w' = subst (Within l e) q' w in
    ap (λ z. run (read_definite_length l e p) k z) (h.is ∙ ap (λ z. z ++ r) i.is)
    ∙ run_bind _ _ k (i.first ∷ (i.rest ++ r)) i.first (k + 1) (i.rest ++ r)
    (octet_on l e p k i.first (i.rest ++ r) (within_less l e (k + 1) (k + 1 + length i.rest + m) (omega arith) w'))
    ∙ require_on _ _ _ (k + 1) (i.rest ++ r) (both _ _ t (not_false _ t'))
    ∙ number_on l e p m (k + 1) h.header i r w'
    ∙ ap (λ z. Took m z r) q''
