-- Header octets, by what the tests of a reader say.
use Rattle.ber_pull.specs.Hears.{Continues}
use Rattle.std.proofs.Common.{◌≡◌, ℕ, ◌+◌, Bool, true, false, not, ◌==◌, ◌&&◌, cond, nat_lt, nat_le, ◌<◌, ◌≤◌, ◌-◌, ◌*◌, ◌^◌, zero, suc, ◌⊎◌, inl, inr, IfSome, List, Option, Some, None, Result, Err, refl, sym, ◌∙◌, ap, arith, subst}
use Rattle.std.proofs.lemmas.Bool.Decides.{nat_tests}
use Rattle.std.proofs.Math.Numerals.{add-one}
use Rattle.std.proofs.Math.Nat.{pow-suc}
use Rattle.tlv_core.specs.Limits.{Limits}
use Rattle.tlv_core.specs.declared.reason.Reason.TheVariants.{BadTag, PastEnd, TooLong}
use Rattle.x690.specs.Points.{at_end, fault, past_end}
use Rattle.x690.specs.ReadHeaders.{fit_contents, header_octet, read_big_endian, read_high_number}
use Rattle.x690.specs.Reading.{Ask, Done, Reading, choose, require}
use Rattle.x690.specs.Reads.{Heard, Refused, Said}
use Rattle.ber_pull.specs.Hears.{Hears, heard_error}
use Rattle.ber_pull.proofs.Hearing.{hears_done, hears_error, hears_fail, hears_first, hears_off, hears_on, hears_second, hears_then, hears_where}
use Rattle.tlv_core.specs.declared.fault.ReadError.{ReadError}
use Rattle.tlv_core.specs.declared.source.Source.{Ghosts}
use Rattle.ber_pull.specs.Lengths.{AnswersClipped, IsClipped}
use Rattle.ber_pull.specs.Standing.{Standing, enclosing, failure, has_room, no_room}
use Rattle.ber_pull.specs.View.{Answers, answered}
use Rattle.ber_pull.specs.declared.pull.Pull.{Pull}
use Rattle.ber_pull.specs.declared.state.Halted.{Halted}

-- a test and its opposite
pub opposite : (r b : Bool) → r ≡ not b → r ≡ true → b ≡ false
opposite r true e h = cc
opposite r false e h = refl

pub not_opposite : (r b : Bool) → r ≡ not b → r ≡ false → b ≡ true
not_opposite r true e h = refl
not_opposite r false e h = cc

pub octet_past_end : (l : Limits) (e : Option ℕ) (p k : ℕ) (s : Option (List ℕ)) → at_end e k ≡ true
    → Hears (header_octet l e p) k s (Refused (fault p PastEnd)) k s
unfolding header_octet
octet_past_end l e p k s h = hears_where _ _ _ _ _ _ (hears_off _ _ _ _ _ (ap not h))

pub octet_past_limit : (l : Limits) (e : Option ℕ) (p k : ℕ) (s : Option (List ℕ)) → at_end e k ≡ false
    → nat_lt k l.octets ≡ false → Hears (header_octet l e p) k s (Refused (fault p TooLong)) k s
unfolding header_octet
octet_past_limit l e p k s h h' = hears_where _ _ _ _ _ _ (hears_on _ _ _ _ _ _ _ _ (ap not h) (hears_off _ _ _ _ _ h'))

pub octet_asked : (l : Limits) (e : Option ℕ) (p k : ℕ) (s : Option (List ℕ)) (h : Heard ℕ) (i : ℕ)
    (u : Option (List ℕ))
    → at_end e k ≡ false → nat_lt k l.octets ≡ true → Hears (Ask Done) k s h i u → Hears (header_octet l e p) k s h i u
unfolding header_octet
octet_asked l e p k s h i u x y z =
    hears_where _ _ _ _ _ _ (hears_on _ _ _ _ _ _ _ _ (ap not x) (hears_on _ _ _ _ _ _ _ _ y z))

-- An octet may be taken where one has room; else it is outside.

both : (a b : Bool) → not a && b ≡ true → (a ≡ false) × (b ≡ true)
both true b h = cc
both false b h = (refl, h)

past_next : (e : Option ℕ) (k : ℕ) → past_end e (k + 1) ≡ at_end e k
past_next None k = refl
past_next (Some e) k = grind (arith, nat_tests)

within_next : (k l : ℕ) → nat_le (k + 1) l ≡ nat_lt k l
within_next k l = grind (arith, nat_tests)

pub octet_in_room : (s : Standing) (p : ℕ) (o : Option (List ℕ)) (h : Heard ℕ) (i : ℕ) (u : Option (List ℕ))
    → has_room s 1 ≡ true → Hears (Ask Done) s.taken o h i u
    → Hears (header_octet s.limits (enclosing s).nearest_end p) s.taken o h i u
octet_in_room s p o h i u r x =
    let fits = both _ _ r in
    octet_asked _ _ _ _ _ _ _ _ (sym (past_next (enclosing s).nearest_end s.taken) ∙ fits.0)
    (sym (within_next s.taken s.limits.octets) ∙ fits.1) x

octet_outside : (l : Limits) (e : Option ℕ) (p k : ℕ) (s : Option (List ℕ)) (b c : Bool) → past_end e (k + 1) ≡ b
    → nat_le (k + 1) l.octets ≡ c → not b && c ≡ false
    → Hears (header_octet l e p) k s (Refused (fault p (cond b PastEnd TooLong))) k s
octet_outside l e p k s true c x y h = octet_past_end _ _ _ _ _ (sym (past_next e k) ∙ x)
octet_outside l e p k s false c x y h =
    octet_past_limit _ _ _ _ _ (sym (past_next e k) ∙ x)
    (sym (within_next k l.octets) ∙ y ∙ h)

pub octet_no_room : (s : Standing) (p : ℕ) (o : Option (List ℕ)) → has_room s 1 ≡ false
    → Hears (header_octet s.limits (enclosing s).nearest_end p) s.taken o (Refused (fault p (no_room s 1))) s.taken o
octet_no_room s p o h = octet_outside _ _ _ _ _ _ _ refl refl h

-- numbers past every place

pub past_clipped : (e : Option ℕ) (k n m : ℕ) → IfSome e (λ end. end < 2 ^ 32) → IsClipped n m
    → past_end e (k + n) ≡ past_end e (k + m)
past_clipped None k n m b c = refl
past_clipped (Some e) k n m b (inl c) = ap (λ w. nat_lt e (k + w)) (sym c)
past_clipped (Some e) k n m b (inr c) =
    let big : e < k + n = omega (arith, c.0) in let big' : e < k + m = omega (arith, c.1) in
    let t : nat_lt e (k + n) ≡ true = grind (arith, nat_tests) in
    let t' : nat_lt e (k + m) ≡ true = grind (arith, nat_tests) in
    t ∙ sym t'

pub limit_clipped : (l k n m : ℕ) → l < 2 ^ 32 → IsClipped n m → nat_le (k + n) l ≡ nat_le (k + m) l
limit_clipped l k n m b (inl c) = ap (λ w. nat_le (k + w) l) (sym c)
limit_clipped l k n m b (inr c) =
    let big : l < k + n = omega (arith, c.0) in let big' : l < k + m = omega (arith, c.1) in
    let t : nat_le (k + n) l ≡ false = grind (arith, nat_tests) in
    let t' : nat_le (k + m) l ≡ false = grind (arith, nat_tests) in
    t ∙ sym t'

pub clipped_small : (n m : ℕ) → m < 2 ^ 32 → IsClipped n m → m ≡ n
clipped_small n m h (inl c) = c
clipped_small n m h (inr c) = absurd (omega (arith, c.1))

pub fit_past_end : (l : Limits) (e : Option ℕ) (p n m k : ℕ) (s : Option (List ℕ)) → IfSome e (λ end. end < 2 ^ 32)
    → IsClipped n m → past_end e (k + m) ≡ true → Hears (fit_contents l e p n) k s (Refused (fault p PastEnd)) k s
unfolding fit_contents
fit_past_end l e p n m k s b c h = hears_where _ _ _ _ _ _ (hears_off _ _ _ _ _ (ap not (past_clipped e k n m b c ∙ h)))

pub fit_past_limit : (l : Limits) (e : Option ℕ) (p n m k : ℕ) (s : Option (List ℕ)) → IfSome e (λ end. end < 2 ^ 32)
    → l.octets < 2 ^ 32 → IsClipped n m → past_end e (k + m) ≡ false → nat_le (k + m) l.octets ≡ false
    → Hears (fit_contents l e p n) k s (Refused (fault p TooLong)) k s
unfolding fit_contents
fit_past_limit l e p n m k s b b' c h h' =
    hears_where _ _ _ _ _ _
    (hears_on _ _ _ _ _ _ _ _ (ap not (past_clipped e k n m b c ∙ h))
    (hears_off _ _ _ _ _ (limit_clipped l.octets k n m b' c ∙ h')))

pub fit_within : (l : Limits) (e : Option ℕ) (p n m k : ℕ) (s : Option (List ℕ)) → IfSome e (λ end. end < 2 ^ 32)
    → l.octets < 2 ^ 32 → IsClipped n m → past_end e (k + m) ≡ false → k + m ≤ l.octets
    → Hears (fit_contents l e p n) k s (Said m) k s
unfolding fit_contents
fit_within l e p n m k s b b' c h h' =
    let small : m < 2 ^ 32 = omega arith in
    let same = clipped_small n m small c in
    let t : nat_le (k + m) l.octets ≡ true = grind (arith, nat_tests) in
    hears_where _ _ _ _ _ _
    (hears_on _ _ _ _ _ _ _ _ (ap not (past_clipped e k n m b c ∙ h))
    (hears_on _ _ _ _ _ _ _ _ (limit_clipped l.octets k n m b' c ∙ t)
    (subst (λ w. Hears (Done n) k s (Said w) k s) (sym same) (hears_done n k s))))

fit_outside : (l : Limits) (e : Option ℕ) (p n m k : ℕ) (s : Option (List ℕ)) (b c : Bool)
    → IfSome e (λ end. end < 2 ^ 32) → l.octets < 2 ^ 32 → IsClipped n m → past_end e (k + m) ≡ b
    → nat_le (k + m) l.octets ≡ c → not b && c ≡ false
    → Hears (fit_contents l e p n) k s (Refused (fault p (cond b PastEnd TooLong))) k s
fit_outside l e p n m k s true c small small' clipped x y h = fit_past_end _ _ _ n m _ _ small clipped x
fit_outside l e p n m k s false c small small' clipped x y h =
    fit_past_limit _ _ _ n m _ _ small small' clipped x (y ∙ h)

pub fit_no_room : (s : Standing) (p n m : ℕ) (o : Option (List ℕ)) → IfSome (enclosing s).nearest_end (λ end. end < 2 ^ 32)
    → s.limits.octets < 2 ^ 32 → IsClipped n m → has_room s m ≡ false
    → Hears (fit_contents s.limits (enclosing s).nearest_end p n) s.taken o (Refused (fault p (no_room s m))) s.taken o
fit_no_room s p n m o small small' clipped h = fit_outside _ _ _ n m _ _ _ _ small small' clipped refl refl h

pub fit_in_room : (s : Standing) (p n m : ℕ) (o : Option (List ℕ)) → IfSome (enclosing s).nearest_end (λ end. end < 2 ^ 32)
    → s.limits.octets < 2 ^ 32 → IsClipped n m → has_room s m ≡ true → s.taken + m ≤ s.limits.octets
    → Hears (fit_contents s.limits (enclosing s).nearest_end p n) s.taken o (Said m) s.taken o
fit_in_room s p n m o small small' clipped r within =
    fit_within _ _ _ n m _ _ small small' clipped (both _ _ r).0 within

-- one octet more of a number of several
pub big_endian_more : (l : Limits) (e : Option ℕ) (p left left' n x k j j' : ℕ) (q : ℕ) (s t t' : Option (List ℕ))
    → left ≡ suc left' → Continues (read_big_endian l e p q 0) k s (read_big_endian l e p left n) j t
    → Hears (header_octet l e p) j t (Said x) j' t'
    → Continues (read_big_endian l e p q 0) k s (read_big_endian l e p left' (n * 256 + x)) j' t'
unfolding read_big_endian
big_endian_more l e p left left' n x k j j' q s t t' h c o =
    record {
      rest = λ r i u y.
          c.rest r i u (subst (λ w. Hears (read_big_endian l e p w n) j t r i u) (sym h)
          (hears_then (header_octet l e p) (λ z. read_big_endian l e p left' (n * 256 + z)) x r j j' i t t' u o y));
    }

pub big_endian_error : (l : Limits) (e : Option ℕ) (p left left' n j i : ℕ) (t u : Option (List ℕ)) (error : ReadError)
    → left ≡ suc left' → Hears (header_octet l e p) j t (heard_error error) i u
    → Hears (read_big_endian l e p left n) j t (heard_error error) i u
unfolding read_big_endian
big_endian_error l e p left left' n j i t u error h o =
    subst (λ w. Hears (read_big_endian l e p w n) j t (heard_error error) i u) (sym h)
    (hears_error (header_octet l e p) (λ z. read_big_endian l e p left' (n * 256 + z)) error j i t u o)

pub big_endian_done : (l : Limits) (e : Option ℕ) (p left n j : ℕ) (t : Option (List ℕ)) → left ≡ 0
    → Hears (read_big_endian l e p left n) j t (Said n) j t
unfolding read_big_endian
big_endian_done l e p left n j t h =
    subst (λ w. Hears (read_big_endian l e p w n) j t (Said n) j t) (sym h) (hears_done n j t)

pub clipped_halted : {R : Type 0} {s : Ghosts R} (old new : Pull R s) (p : Reading ℕ) (r : Result ℕ Halted)
    (h : Halted)
    → r ≡ Err h → Answers old new p (heard_error (failure new.state)) → AnswersClipped old new p (answered new r)
clipped_halted old new p r h e x = subst (λ w. AnswersClipped old new p (answered new w)) (sym e) x

-- what a high tag number is after one of its octets, `n` standing before it
abbrev behind_octet : Limits → Option ℕ → ℕ → ℕ → ℕ → ℕ → Reading ℕ
behind_octet l e p left n x =
    require (not ((n == 0) && (x == 128)) && nat_lt x 256) (fault p BadTag)
    (choose (nat_lt x 128)
    (require (nat_le 31 (n * 128 + x)) (fault p BadTag) (Done (n * 128 + x)))
    (read_high_number l e p left (n * 128 + (x - 128))))

-- one octet more of it
pub record HighOctet (l : Limits) (e : Option ℕ) (p left n x k : ℕ) (s : Option (List ℕ)) (j : ℕ)
    (t : Option (List ℕ)) : Type 0 where
  pub behind : Continues (read_high_number l e p 4 0) k s (behind_octet l e p left n x) j t

pub high_octet : (l : Limits) (e : Option ℕ) (p left left' n x k j j' : ℕ) (s t t' : Option (List ℕ)) → left ≡ suc left'
    → Continues (read_high_number l e p 4 0) k s (read_high_number l e p left n) j t
    → Hears (header_octet l e p) j t (Said x) j' t' → HighOctet l e p left' n x k s j' t'
unfolding read_high_number
high_octet l e p left left' n x k j j' s t t' h c o =
    record {
      behind = record {
        rest = λ r i u y.
            c.rest r i u (subst (λ w. Hears (read_high_number l e p w n) j t r i u) (sym h)
            (hears_then (header_octet l e p) (λ z. behind_octet l e p left' n z) x r j j' i t t' u o y));
      };
    }

pub high_zero : (l : Limits) (e : Option ℕ) (p left n x k j : ℕ) (s t : Option (List ℕ))
    → HighOctet l e p left n x k s j t → n ≡ 0 → x ≡ 128
    → Hears (read_high_number l e p 4 0) k s (Refused (fault p BadTag)) j t
high_zero l e p left n x k j s t c z z' =
    let b : (not ((n == 0) && (x == 128)) && nat_lt x 256) ≡ false = rw (z, z') refl in
    c.behind.rest _ _ _ (hears_off _ _ _ _ _ b)

high_fine : (n x : ℕ) → x < 256 → ((n ≡ 0) × (x ≡ 128) → ⊥) → (not ((n == 0) && (x == 128)) && nat_lt x 256) ≡ true
high_fine zero x h z =
    let ne : x ≡ 128 → ⊥ = λ e. z (refl, e) in
    let t : (x == 128) ≡ false = grind (arith, nat_tests) in
    let t' : nat_lt x 256 ≡ true = grind (arith, nat_tests) in
    rw (t, t') refl
high_fine (suc n) x h z =
    let t' : (suc n == 0) ≡ false = grind (arith, nat_tests) in
    let t : nat_lt x 256 ≡ true = grind (arith, nat_tests) in
    rw (t', t) refl

pub high_small : (l : Limits) (e : Option ℕ) (p left n x k j : ℕ) (s t : Option (List ℕ))
    → HighOctet l e p left n x k s j t → x < 128 → n * 128 + x < 31
    → Hears (read_high_number l e p 4 0) k s (Refused (fault p BadTag)) j t
high_small l e p left n x k j s t c h m =
    let fine = high_fine n x (omega arith) (λ z. let y : x ≡ 128 = z.1 in omega arith) in
    let low : nat_lt x 128 ≡ true = grind (arith, nat_tests) in
    let small : nat_le 31 (n * 128 + x) ≡ false = grind (arith, nat_tests) in
    c.behind.rest _ _ _ (hears_on _ _ _ _ _ _ _ _ fine (hears_first _ _ _ _ _ _ _ _ low (hears_off _ _ _ _ _ small)))

pub high_last : (l : Limits) (e : Option ℕ) (p left n x k j : ℕ) (s t : Option (List ℕ))
    → HighOctet l e p left n x k s j t → x < 128 → 31 ≤ n * 128 + x
    → Hears (read_high_number l e p 4 0) k s (Said (n * 128 + x)) j t
high_last l e p left n x k j s t c h m =
    let fine = high_fine n x (omega arith) (λ z. let y : x ≡ 128 = z.1 in omega arith) in
    let low : nat_lt x 128 ≡ true = grind (arith, nat_tests) in
    let large : nat_le 31 (n * 128 + x) ≡ true = grind (arith, nat_tests) in
    c.behind.rest _ _ _
    (hears_on _ _ _ _ _ _ _ _ fine
    (hears_first _ _ _ _ _ _ _ _ low (hears_on _ _ _ _ _ _ _ _ large (hears_done _ _ _))))

-- the octet isn't a first digit 0
pub no_first_zero : (n x : ℕ) → ((n ≡ 0) × (x ≡ 128 → ⊥)) ⊎ (n ≡ 0 → ⊥) → (n ≡ 0) × (x ≡ 128) → ⊥
no_first_zero n x (inl h) z = h.1 z.1
no_first_zero n x (inr h) z = h z.0

pub high_more : (l : Limits) (e : Option ℕ) (p left n x y k j : ℕ) (s t : Option (List ℕ))
    → HighOctet l e p left n x k s j t → x < 256 → 128 ≤ x → ((n ≡ 0) × (x ≡ 128) → ⊥) → y ≡ x - 128
    → Continues (read_high_number l e p 4 0) k s (read_high_number l e p left (n * 128 + y)) j t
high_more l e p left n x y k j s t c b h z same =
    let high : nat_lt x 128 ≡ false = grind (arith, nat_tests) in
    record {
      rest = λ r i u w.
          c.behind.rest r i u
          (hears_on _ _ _ _ _ _ _ _ (high_fine n x b z)
          (hears_second _ _ _ _ _ _ _ _ high
          (subst (λ v. Hears (read_high_number l e p left (n * 128 + v)) j t r i u) same w)));
    }

pub high_long : (l : Limits) (e : Option ℕ) (p left n k j : ℕ) (s t : Option (List ℕ)) → left ≡ 0
    → Continues (read_high_number l e p 4 0) k s (read_high_number l e p left n) j t
    → Hears (read_high_number l e p 4 0) k s (Refused (fault p BadTag)) j t
unfolding read_high_number
high_long l e p left n k j s t z c =
    c.rest _ _ _ (subst (λ w. Hears (read_high_number l e p w n) j t (Refused (fault p BadTag)) j t) (sym z)
    (hears_fail ℕ (fault p BadTag) j t))

pub high_error : (l : Limits) (e : Option ℕ) (p left left' n j i : ℕ) (t u : Option (List ℕ)) (error : ReadError)
    → left ≡ suc left' → Hears (header_octet l e p) j t (heard_error error) i u
    → Hears (read_high_number l e p left n) j t (heard_error error) i u
unfolding read_high_number
high_error l e p left left' n j i t u error h o =
    subst (λ w. Hears (read_high_number l e p w n) j t (heard_error error) i u) (sym h)
    (hears_error (header_octet l e p) (λ z. behind_octet l e p left' n z) error j i t u o)

pub digits_more : (n c y : ℕ) → n < 128 ^ c → y < 128 → n * 128 + y < 128 ^ (c + 1)
digits_more n c y h b =
    let e : 128 ^ (c + 1) ≡ 128 ^ c * 128 = ap (λ k. 128 ^ k) (add-one c) ∙ pow-suc 128 c in
    omega (arith, e)

-- a number of so many digits
pub digits_below : (n c : ℕ) → c < 4 → n < 128 ^ c → n < 2097152
digits_below n zero h b = omega (arith, b)
digits_below n (suc zero) h b = omega (arith, b)
digits_below n (suc (suc zero)) h b = omega (arith, b)
digits_below n (suc (suc (suc zero))) h b = omega (arith, b)
digits_below n (suc (suc (suc (suc c)))) h b = absurd (omega arith)

-- first length octets

pub not_definite : (x : ℕ) → (x ≡ 128) ⊎ ((x ≡ 128 → ⊥) × (x ≡ 255)) → (nat_lt x 255 && not (x == 128)) ≡ false
not_definite x (inl e) = rw e refl
not_definite x (inr e) = rw e.1 refl

pub is_definite : (x : ℕ) → x < 256 → (x ≡ 128 → ⊥) → (x ≡ 255 → ⊥) → (nat_lt x 255 && not (x == 128)) ≡ true
is_definite x h a b =
    let t : nat_lt x 255 ≡ true = grind (arith, nat_tests) in
    let t' : (x == 128) ≡ false = grind (arith, nat_tests) in rw (t, t') refl

pub is_used : (x : ℕ) → x < 256 → (x ≡ 255 → ⊥) → nat_lt x 255 ≡ true
is_used x h b = grind (arith, nat_tests)
