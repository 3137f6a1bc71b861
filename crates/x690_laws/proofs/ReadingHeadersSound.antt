-- What the reading of headers took lays out what it answered.
use Rattle.std.proofs.Common.{◌≡◌, ℕ, zero, suc, ◌+◌, ◌-◌, ◌*◌, ◌/◌, ◌%◌, ◌^◌, ◌<◌, ◌≤◌, ◌≢◌, ◌⊎◌, inl, inr, ⊎_elim, ◌==◌, ◌&&◌, nat_lt, nat_le, not, Bool, true, false, cond, List, [], ◌∷◌, ◌++◌, length, Option, Some, None, refl, sym, ◌∙◌, ap, ap₂, subst, append_assoc, arith, pow-suc, lit≤}
use Rattle.std.proofs.Math.Nat.{mul-le-mul_left}
use Rattle.std.proofs.lemmas.Bool.Decides.{nat_tests}
use Rattle.x690.proofs.Runs.{took_bind, took_require, took_choose, took_where, took_done, took_fail}
use Rattle.tlv_core.specs.Identifier.{IsTag, Tag, base128, identifier, leading_base128}
use Rattle.tlv_core.specs.Length.{SpellsLength, big_endian}
use Rattle.tlv_core.specs.Limits.{Limits}
use Rattle.tlv_core.proofs.Base128.{base128_next, leading_next}
use Rattle.tlv_core.proofs.Digits.{leading_none}
use Rattle.tlv_core.specs.declared.reason.Reason.TheVariants.{BadTag}
use Rattle.x690.specs.Points.{Enclosing, EndsAt, EndsWithZeros, Innermost, NoContainer, at_end, ends_with_zeros, fault, past_end, stands_at_end}
use Rattle.x690.specs.ReadHeaders.{ContainerEnds, DefiniteLength, ElementStands, IndefiniteLength, LengthForm, Next, fit_contents, header_octet, next_octets, next_tag, primitive_contents, read_big_endian, read_definite_length, read_high_number, read_length, read_number, read_tag_number}
use Rattle.x690.specs.Reading.{Ask, Done, Took, require, run}

pub both_true : (a b : Bool) → a && b ≡ true → (a ≡ true) × (b ≡ true)
both_true true true h = (refl, refl)
both_true true false h = cc
both_true false true h = cc
both_true false false h = cc

pub not_true : (a : Bool) → not a ≡ true → a ≡ false
not_true true h = cc
not_true false h = refl

-- an octet lies within the bound and the limit, and so does the place after it
pub record Within (l : Limits) (e : Option ℕ) (q : ℕ) : Type 0 where
  pub nearest_end : past_end e q ≡ false
  pub limit : q ≤ l.octets

pub record OneOctet (l : Limits) (e : Option ℕ) (k : ℕ) (s : List ℕ) (x q : ℕ) (r : List ℕ) : Type 0 where
  pub is : s ≡ x ∷ r
  pub place : q ≡ k + 1
  pub within : Within l e q

next_bound : (e : Option ℕ) (k q : ℕ) → q ≡ k + 1 → at_end e k ≡ false → past_end e q ≡ false
next_bound None k q z h = refl
next_bound (Some e) k q z h = grind (arith, nat_tests)

ask_took : (k : ℕ) (s : List ℕ) (x q : ℕ) (r : List ℕ) → run (Ask Done) k s ≡ Took x q r → (s ≡ x ∷ r) × (q ≡ k + 1)
unfolding run
ask_took k [] x q r h = cc
ask_took k (y ∷ s) x q r h = let e : y ≡ x = cc in let e' : s ≡ r = cc in let e'' : k + 1 ≡ q = cc in (cc, sym e'')

pub octet_took : (l : Limits) (e : Option ℕ) (p k : ℕ) (s : List ℕ) (x q : ℕ) (r : List ℕ)
    → run (header_octet l e p) k s ≡ Took x q r → OneOctet l e k s x q r
unfolding header_octet
octet_took l e p k s x q r h =
    let a = took_require _ _ _ _ _ _ _ _ (took_where _ _ _ _ _ _ h) in
    let b = took_require _ _ _ _ _ _ _ _ a.1 in
    let o = ask_took k s x q r b.1 in
    let b0 : nat_lt k l.octets ≡ true = b.0 in
    let o1 : q ≡ k + 1 = o.1 in
    record {
      is = o.0;
      place = o.1;
      within =
          record { nearest_end = next_bound e k q o.1 (not_true (at_end e k) a.0); limit = grind (arith, nat_tests) };
    }

-- high tag numbers

-- one digit more, of those that others follow
pub one_more : (n x : ℕ) → 128 ≤ x → x < 256 → n * 128 + (x - 128) ≢ 0
    → leading_base128 (n * 128 + (x - 128)) (n * 128 + (x - 128)) ≡ leading_base128 n n ++ (x ∷ [])
one_more n x h g z =
    let digit : x % 128 ≡ x - 128 = omega arith in
    subst (λ d. leading_base128 (n * 128 + d) (n * 128 + d) ≡ leading_base128 n n ++ (x ∷ [])) digit
    (leading_next n x h g (omega arith))

-- the last digit
pub last_digit : (n x : ℕ) → x < 128 → base128 (n * 128 + x) ≡ leading_base128 n n ++ (x ∷ [])
last_digit n x h =
    let digit : x % 128 ≡ x = omega arith in
    subst (λ d. base128 (n * 128 + d) ≡ leading_base128 n n ++ (x ∷ [])) digit (base128_next n x h)

pub record HighNumber (l : Limits) (e : Option ℕ) (left n k : ℕ) (s : List ℕ) (m q : ℕ) (r : List ℕ) : Type 0 where
  pub octets : List ℕ
  pub is : s ≡ octets ++ r
  pub place : q ≡ k + length octets
  pub within : Within l e q
  pub digits_are : leading_base128 n n ++ octets ≡ base128 m
  pub large : 31 ≤ m
  pub small : m + 1 ≤ (n + 1) * 128 ^ left

one_power : (i : ℕ) → 1 ≤ 128 ^ i
one_power zero = lit≤ tt
one_power (suc i) = let ih = one_power i in omega (arith, pow-suc 128 i)

times_last : (n p m : ℕ) → 1 ≤ p → m + 1 ≤ (n + 1) * 128 → m + 1 ≤ (n + 1) * (p * 128)
times_last n p m h g = let a : 128 ≤ p * 128 = omega arith in omega (arith, mul-le-mul_left (n + 1) a)

times_more : (n n' p m : ℕ) → n' + 1 ≤ (n + 1) * 128 → m + 1 ≤ (n' + 1) * p → m + 1 ≤ (n + 1) * (p * 128)
times_more n n' p m h g = omega (arith, mul-le-mul_left p h)

small_last : (n x m left : ℕ) → n * 128 + x ≡ m → x < 128 → m + 1 ≤ (n + 1) * 128 ^ (suc left)
small_last n x m left e h = rw pow-suc (times_last n (128 ^ left) m (one_power left) (omega arith))

small_more : (n x m left : ℕ) → x < 256 → m + 1 ≤ (n * 128 + (x - 128) + 1) * 128 ^ left
    → m + 1 ≤ (n + 1) * 128 ^ (suc left)
small_more n x m left e h = rw pow-suc (times_more n (n * 128 + (x - 128)) (128 ^ left) m (omega arith) h)

not_lead : (n x : ℕ) → 128 ≤ x → not ((n == 0) && (x == 128)) ≡ true → n * 128 + (x - 128) ≢ 0
not_lead n x h t z =
    let a : n ≡ 0 = omega arith in
    let b : x ≡ 128 = omega arith in
    let t' = subst (λ w. not ((w == 0) && (x == 128)) ≡ true) a t in
    let t'' = subst (λ w. not ((0 == 0) && (w == 128)) ≡ true) b t' in
    cc

pub high_took : (l : Limits) (e : Option ℕ) (p left n k : ℕ) (s : List ℕ) (m q : ℕ) (r : List ℕ)
    → run (read_high_number l e p left n) k s ≡ Took m q r → HighNumber l e left n k s m q r
unfolding read_high_number
high_took l e p zero n k s m q r h = absurd (took_fail _ _ _ _ _ _ h)
high_took l e p (suc left) n k s m q r h =
    let a = took_bind _ _ _ _ _ _ _ h in
    let o = octet_took l e p k s a.value a.place a.rest a.first in
    let b = took_require _ _ _ _ _ _ _ _ a.next_tag in
    let t = both_true _ _ b.0 in
    go a.value a.place a.rest o t.0 t.1 (took_choose _ _ _ _ _ _ _ _ b.1)
    (λ x j v w. high_took l e p left (n * 128 + (x - 128)) j v m q r w)
  where
    go : (x j : ℕ) (v : List ℕ) → OneOctet l e k s x j v → not ((n == 0) && (x == 128)) ≡ true → nat_lt x 256 ≡ true
        → (((nat_lt x 128 ≡ true)
        × (run (require (nat_le 31 (n * 128 + x)) (fault p BadTag) (Done (n * 128 + x))) j v ≡ Took m q r))
        ⊎ ((nat_lt x 128 ≡ false) × (run (read_high_number l e p left (n * 128 + (x - 128))) j v ≡ Took m q r)))
        → ((x j : ℕ) (v : List ℕ) → run (read_high_number l e p left (n * 128 + (x - 128))) j v ≡ Took m q r
        → HighNumber l e left (n * 128 + (x - 128)) j v m q r)
        → HighNumber l e (suc left) n k s m q r
    go x j v o t u c ih = ⊎_elim
        (λ y. let g = took_require _ _ _ _ _ _ _ _ y.1 in let d = took_done _ _ _ _ _ _ g.1 in
        let d0 : n * 128 + x ≡ m = d.0 in
        let d1 : j ≡ q = d.1 in
        let y0 : nat_lt x 128 ≡ true = y.0 in
        let lt : x < 128 = grind (arith, nat_tests) in
        let g0 : nat_le 31 (n * 128 + x) ≡ true = g.0 in
        let ge : 31 ≤ n * 128 + x = grind (arith, nat_tests) in
        record {
          octets = x ∷ [];
          is = o.is ∙ ap (λ w. x ∷ w) d.2;
          place = let z = o.place in omega arith;
          within = subst (Within l e) d1 o.within;
          digits_are = sym (last_digit n x lt) ∙ ap base128 d0;
          large = omega arith;
          small = small_last n x m left d0 lt;
        })
        (λ y. let i = ih x j v y.1 in
        let y0 : nat_lt x 128 ≡ false = y.0 in
        let ge : 128 ≤ x = grind (arith, nat_tests) in
        let lt : x < 256 = grind (arith, nat_tests) in
        let nz : n * 128 + (x - 128) ≢ 0 = not_lead n x ge t in
        record {
          octets = x ∷ i.octets;
          is = o.is ∙ ap (λ w. x ∷ w) i.is;
          place = let z = o.place in let z' = i.place in omega arith;
          within = i.within;
          digits_are =
              sym (append_assoc (leading_base128 n n) (x ∷ []) i.octets)
              ∙ ap (λ w. w ++ i.octets) (sym (one_more n x ge lt nz))
              ∙ i.digits_are;
          large = i.large;
          small = small_more n x m left lt i.small;
        })
        c

-- what stands here

pub record NextElement (l : Limits) (c : Enclosing) (k : ℕ) (s : List ℕ) (p : ℕ) (t : Tag) (form : Bool) (q : ℕ)
    (r : List ℕ) : Type 0 where
  pub at : p ≡ k
  pub tag : IsTag t
  pub is : s ≡ identifier t form ++ r
  pub place : q ≡ k + length (identifier t form)
  pub deep : c.open_containers < l.depth
  pub within : Within l c.nearest_end q

-- the container's end: nothing in a definite one, `00 00` in an indefinite one
pub record NextEnds (l : Limits) (c : Enclosing) (k : ℕ) (s : List ℕ) (p q : ℕ) (r : List ℕ) : Type 0 where
  pub at : p ≡ k
  pub ends : ((c.innermost ≡ EndsAt k) × (s ≡ r) × (q ≡ k))
      ⊎ ((c.innermost ≡ EndsWithZeros) × (s ≡ 0 ∷ 0 ∷ r) × (q ≡ k + 2) × Within l c.nearest_end q)

abbrev pub NextIs : Limits → Enclosing → ℕ → List ℕ → Next → ℕ → List ℕ → Type 0
NextIs l c k s (ContainerEnds p) q r = NextEnds l c k s p q r
NextIs l c k s (ElementStands p t form) q r = NextElement l c k s p t form q r

pub record TagNumber (l : Limits) (e : Option ℕ) (x k : ℕ) (s : List ℕ) (n q : ℕ) (r : List ℕ) : Type 0 where
  pub octets : List ℕ
  pub is : s ≡ octets ++ r
  pub place : q ≡ k + length octets
  pub within : Within l e q
  pub number : ((x % 32 ≡ n) × (n < 31) × (octets ≡ []))
      ⊎ ((x % 32 ≡ 31) × (31 ≤ n) × (n < 268435456) × (octets ≡ base128 n))

pub number_took : (l : Limits) (e : Option ℕ) (p x k : ℕ) (s : List ℕ) (n q : ℕ) (r : List ℕ) → Within l e k
    → run (read_tag_number l e p x) k s ≡ Took n q r → TagNumber l e x k s n q r
unfolding read_tag_number
number_took l e p x k s n q r w h = ⊎_elim
    (λ y. let d = took_done _ _ _ _ _ _ y.1 in
    let y0 : nat_lt (x % 32) 31 ≡ true = y.0 in
    let d0 : x % 32 ≡ n = d.0 in
    let d1 : k ≡ q = d.1 in
    let lt : x % 32 < 31 = grind (arith, nat_tests) in
    record {
      octets = [];
      is = d.2;
      place = omega arith;
      within = subst (Within l e) d1 w;
      number = inl (d0, omega arith, refl);
    })
    (λ y. let i = high_took l e p 4 0 k s n q r y.1 in
    let y0 : nat_lt (x % 32) 31 ≡ false = y.0 in
    let ge : 31 ≤ x % 32 = grind (arith, nat_tests) in
    let z : leading_base128 0 0 ≡ [] = leading_none 0 0 refl in
    let small : n + 1 ≤ (0 + 1) * 128 ^ 4 = i.small in
    record {
      octets = i.octets;
      is = i.is;
      place = i.place;
      within = i.within;
      number = inr (omega arith, i.large, omega arith, sym (ap (λ v. v ++ i.octets) z) ∙ i.digits_are);
    })
    (took_choose _ _ _ _ _ _ _ _ h)

lead_is : (x : ℕ) → x < 256 → x ≡ x / 64 * 64 + cond (nat_le 32 (x % 64)) 32 0 + x % 32
lead_is x h = go (nat_le 32 (x % 64)) refl
  where
    go : (b : Bool) → nat_le 32 (x % 64) ≡ b → x ≡ x / 64 * 64 + cond b 32 0 + x % 32
    go true e = let g : 32 ≤ x % 64 = grind (arith, nat_tests) in omega arith
    go false e = let g : x % 64 < 32 = grind (arith, nat_tests) in omega arith

pub short_identifier : (t : Tag) (f : Bool) → t.number < 31
    → identifier t f ≡ (t.class * 64 + cond f 32 0 + t.number) ∷ []
unfolding identifier
short_identifier t f h =
    let e : nat_lt t.number 31 ≡ true = grind (arith, nat_tests) in
    ap
    (λ b. cond b ((t.class * 64 + cond f 32 0 + t.number) ∷ []) ((t.class * 64 + cond f 32 0 + 31) ∷ base128 t.number))
    e

pub long_identifier : (t : Tag) (f : Bool) → 31 ≤ t.number
    → identifier t f ≡ (t.class * 64 + cond f 32 0 + 31) ∷ base128 t.number
unfolding identifier
long_identifier t f h =
    let e : nat_lt t.number 31 ≡ false = grind (arith, nat_tests) in
    ap
    (λ b. cond b ((t.class * 64 + cond f 32 0 + t.number) ∷ []) ((t.class * 64 + cond f 32 0 + 31) ∷ base128 t.number))
    e

-- the identifier that an octet and the number after it are
pub identifier_is : (l : Limits) (e : Option ℕ) (x k : ℕ) (s : List ℕ) (n q : ℕ) (r : List ℕ) → x < 256
    → (i : TagNumber l e x k s n q r)
    → identifier (record { class = x / 64; number = n }) (nat_le 32 (x % 64)) ≡ x ∷ i.octets
identifier_is l e x k s n q r h i = ⊎_elim
    (λ y. short_identifier (record { class = x / 64; number = n }) (nat_le 32 (x % 64)) y.1
    ∙ ap₂ (λ a b. a ∷ b) (ap (λ m. x / 64 * 64 + cond (nat_le 32 (x % 64)) 32 0 + m) (sym y.0) ∙ sym (lead_is x h))
    (sym y.2))
    (λ y. long_identifier (record { class = x / 64; number = n }) (nat_le 32 (x % 64)) y.1
    ∙ ap₂ (λ a b. a ∷ b) (ap (λ m. x / 64 * 64 + cond (nat_le 32 (x % 64)) 32 0 + m) (sym y.0) ∙ sym (lead_is x h))
    (sym y.3))
    i.number

pub tag_is : (l : Limits) (e : Option ℕ) (x k : ℕ) (s : List ℕ) (n q : ℕ) (r : List ℕ) → x < 256 → x ≢ 0 → x ≢ 32
    → TagNumber l e x k s n q r → IsTag (record { class = x / 64; number = n })
tag_is l e x k s n q r h z z' i = ⊎_elim
    (λ y.
    let y0 : x % 32 ≡ n = y.0 in
    let y1 : n < 31 = y.1 in
    record { class_fits = omega arith; number_fits = omega arith; not_end = λ w. z (no_class x n h y0 w z') })
    (λ y.
    let y1 : 31 ≤ n = y.1 in
    record { class_fits = omega arith; number_fits = y.2; not_end = λ w. absurd (omega arith) })
    i.number
  where
    no_class : (x n : ℕ) → x < 256 → x % 32 ≡ n → x / 64 + n ≡ 0 → x ≢ 32 → x ≡ 0
    no_class x n h e w z' = omega arith

pub in_definite : (c : Innermost) (k : ℕ) → stands_at_end c k ≡ true → c ≡ EndsAt k
in_definite NoContainer k h = cc
in_definite (EndsAt e) k h = let h' : (e == k) ≡ true = h in let q : e ≡ k = grind (arith, nat_tests) in ap EndsAt q
in_definite EndsWithZeros k h = cc

in_endless : (c : Innermost) → ends_with_zeros c ≡ true → c ≡ EndsWithZeros
in_endless NoContainer h = cc
in_endless (EndsAt e) h = cc
in_endless EndsWithZeros h = refl

pub next_took : (l : Limits) (c : Enclosing) (k : ℕ) (s : List ℕ) (d : Next) (q : ℕ) (r : List ℕ)
    → run (next_tag l c) k s ≡ Took d q r → NextIs l c k s d q r
unfolding next_tag
next_took l c k s d q r h = ⊎_elim
    (λ y. let e = took_done _ _ _ _ _ _ y.1 in let e1 : k ≡ q = e.1 in
    subst (λ w. NextIs l c k s w q r) e.0
    (record { at = refl; ends = inl (in_definite c.innermost k y.0, e.2, sym e1) }))
    (λ y. let a = took_bind _ _ _ _ _ _ _ y.1 in
    let o = octet_took l c.nearest_end k k s a.value a.place a.rest a.first in
    ⊎_elim
    (λ z. let b = took_require _ _ _ _ _ _ _ _ z.1 in
    let a' = took_bind _ _ _ _ _ _ _ b.1 in
    let o' = octet_took l c.nearest_end k a.place a.rest a'.value a'.place a'.rest a'.first in
    let b' = took_require _ _ _ _ _ _ _ _ a'.next_tag in
    let e = took_done _ _ _ _ _ _ b'.1 in
    let z0 : (a.value == 0) ≡ true = z.0 in
    let x0 : a.value ≡ 0 = grind (arith, nat_tests) in
    let b0 : (a'.value == 0) ≡ true = b'.0 in
    let x1 : a'.value ≡ 0 = grind (arith, nat_tests) in
    let e1 : a'.place ≡ q = e.1 in
    let p0 : a.place ≡ k + 1 = o.place in
    let p1 : a'.place ≡ a.place + 1 = o'.place in
    subst (λ w. NextIs l c k s w q r) e.0
    (record {
      at = refl;
      ends = inr (
        in_endless c.innermost b.0,
        o.is ∙ ap₂ (λ u v. u ∷ v) x0 (o'.is ∙ ap₂ (λ u v. u ∷ v) x1 e.2),
        omega arith,
        subst (Within l c.nearest_end) e1 o'.within,
      );
    }))
    (λ z. let b = took_require _ _ _ _ _ _ _ _ z.1 in
    let b0 = both_true _ _ b.0 in
    let a' = took_bind _ _ _ _ _ _ _ b.1 in
    let i = number_took l c.nearest_end k a.value a.place a.rest a'.value a'.place a'.rest o.within a'.first in
    let g = took_require _ _ _ _ _ _ _ _ a'.next_tag in
    let e = took_done _ _ _ _ _ _ g.1 in
    let z0 : (a.value == 0) ≡ false = z.0 in
    let n0 : a.value ≢ 0 = grind (arith, nat_tests) in
    let z1 : (a.value == 32) ≡ false = not_true _ b0.0 in
    let n1 : a.value ≢ 32 = grind (arith, nat_tests) in
    let z2 : nat_lt a.value 256 ≡ true = b0.1 in
    let lt : a.value < 256 = grind (arith, nat_tests) in
    let g0 : nat_lt c.open_containers l.depth ≡ true = g.0 in
    let deep : c.open_containers < l.depth = grind (arith, nat_tests) in
    let id = identifier_is l c.nearest_end a.value a.place a.rest a'.value a'.place a'.rest lt i in
    let e1 : a'.place ≡ q = e.1 in
    let p0 : a.place ≡ k + 1 = o.place in
    let p1 : a'.place ≡ a.place + length i.octets = i.place in
    let n : length (identifier (record { class = a.value / 64; number = a'.value }) (nat_le 32 (a.value % 64)))
    ≡ length (a.value ∷ i.octets) = ap length id in
    subst (λ w. NextIs l c k s w q r) e.0
    (record {
      at = refl;
      tag = tag_is l c.nearest_end a.value a.place a.rest a'.value a'.place a'.rest lt n0 n1 i;
      is = o.is ∙ ap (λ v. a.value ∷ v) (i.is ∙ ap (λ v. i.octets ++ v) e.2) ∙ sym (ap (λ v. v ++ r) id);
      place = omega arith;
      deep = deep;
      within = subst (Within l c.nearest_end) e1 i.within;
    }))
    (took_choose _ _ _ _ _ _ _ _ a.next_tag))
    (took_choose _ _ _ _ _ _ _ _ (took_where _ _ _ _ _ _ h))

-- lengths

pub record BigNumber (l : Limits) (e : Option ℕ) (left n k : ℕ) (s : List ℕ) (m q : ℕ) (r : List ℕ) : Type 0 where
  pub octets : List ℕ
  pub is : s ≡ octets ++ r
  pub place : q ≡ k + length octets
  pub count : length octets ≡ left
  pub number : big_endian n octets ≡ m

pub big_took : (l : Limits) (e : Option ℕ) (p left n k : ℕ) (s : List ℕ) (m q : ℕ) (r : List ℕ)
    → run (read_big_endian l e p left n) k s ≡ Took m q r → BigNumber l e left n k s m q r
unfolding read_big_endian
big_took l e p zero n k s m q r h =
    let d = took_done _ _ _ _ _ _ h in
    let d1 : k ≡ q = d.1 in
    record { octets = []; is = d.2; place = omega arith; count = refl; number = d.0 }
big_took l e p (suc left) n k s m q r h =
    let a = took_bind _ _ _ _ _ _ _ h in
    let o = octet_took l e p k s a.value a.place a.rest a.first in
    let i = big_took l e p left (n * 256 + a.value) a.place a.rest m q r a.next_tag in
    let z : a.place ≡ k + 1 = o.place in
    let z' : q ≡ a.place + length i.octets = i.place in
    let z'' : length i.octets ≡ left = i.count in
    record {
      octets = a.value ∷ i.octets;
      is = o.is ∙ ap (λ w. a.value ∷ w) i.is;
      place = omega arith;
      count = omega arith;
      number = i.number;
    }

-- a length, its octets and that its contents end within
pub record Length (l : Limits) (e : Option ℕ) (k : ℕ) (s : List ℕ) (m q : ℕ) (r : List ℕ) : Type 0 where
  pub octets : List ℕ
  pub is : s ≡ octets ++ r
  pub place : q ≡ k + length octets
  pub spells : SpellsLength m octets
  pub within : Within l e (q + m)

pub fitting_took : (l : Limits) (e : Option ℕ) (p n k : ℕ) (s : List ℕ) (m q : ℕ) (r : List ℕ)
    → run (fit_contents l e p n) k s ≡ Took m q r → (n ≡ m) × (k ≡ q) × (s ≡ r) × Within l e (q + m)
unfolding fit_contents
fitting_took l e p n k s m q r h =
    let a = took_require _ _ _ _ _ _ _ _ (took_where _ _ _ _ _ _ h) in
    let b = took_require _ _ _ _ _ _ _ _ a.1 in
    let d = took_done _ _ _ _ _ _ b.1 in
    let d0 : n ≡ m = d.0 in
    let d1 : k ≡ q = d.1 in
    let b0 : nat_le (k + n) l.octets ≡ true = b.0 in
    let w : Within l e (k + n) = record { nearest_end = not_true _ a.0; limit = grind (arith, nat_tests) } in
    (d.0, d.1, d.2, subst (λ x. Within l e (q + x)) d0 (subst (λ x. Within l e (x + n)) d1 w))

-- the number after the first octet `x` of a length
pub number_of_took : (l : Limits) (e : Option ℕ) (p x k : ℕ) (s : List ℕ) (m q : ℕ) (r : List ℕ) → x < 255 → x ≢ 128
    → run (read_number l e p x) k s ≡ Took m q r
    → (o : List ℕ) × (s ≡ o ++ r) × (q ≡ k + length o) × SpellsLength m (x ∷ o) × Within l e (q + m)
unfolding read_number SpellsLength
number_of_took l e p x k s m q r lt ne h =
    let a = took_bind _ _ _ _ _ _ _ h in
    let f = fitting_took l e p a.value a.place a.rest m q r a.next_tag in
    let f0 : a.value ≡ m = f.0 in
    let f1 : a.place ≡ q = f.1 in
    ⊎_elim
    (λ y. let d = took_done _ _ _ _ _ _ y.1 in
    let d0 : x ≡ a.value = d.0 in
    let d1 : k ≡ a.place = d.1 in
    let y0 : nat_lt x 128 ≡ true = y.0 in
    let sm : x < 128 = grind (arith, nat_tests) in
    ([], d.2 ∙ f.2, omega arith, inl (sm, omega arith, refl), f.3))
    (λ y. let b = big_took l e p (x - 128) 0 k s a.value a.place a.rest y.1 in
    let y0 : nat_lt x 128 ≡ false = y.0 in
    let ge : 128 ≤ x = grind (arith, nat_tests) in
    let b0 : length b.octets ≡ x - 128 = b.count in
    let b1 : a.place ≡ k + length b.octets = b.place in
    (b.octets, b.is ∙ ap (λ w. b.octets ++ w) f.2, omega arith, inr (omega arith, lt, omega arith, b.number ∙ f0), f.3))
    (took_choose _ _ _ _ _ _ _ _ a.first)

abbrev pub ExtentIs : Limits → Option ℕ → ℕ → List ℕ → LengthForm → ℕ → List ℕ → Type 0
ExtentIs l e k s (DefiniteLength m) q r = Length l e k s m q r
ExtentIs l e k s IndefiniteLength q r = (s ≡ 128 ∷ r) × (q ≡ k + 1) × Within l e q

pub length_took : (l : Limits) (e : Option ℕ) (p k : ℕ) (s : List ℕ) (x : LengthForm) (q : ℕ) (r : List ℕ)
    → run (read_length l e p) k s ≡ Took x q r → ExtentIs l e k s x q r
unfolding read_length
length_took l e p k s x q r h =
    let a = took_bind _ _ _ _ _ _ _ h in
    let o = octet_took l e p k s a.value a.place a.rest a.first in
    let o1 : a.place ≡ k + 1 = o.place in
    let b = took_require _ _ _ _ _ _ _ _ a.next_tag in
    let b0 : nat_lt a.value 255 ≡ true = b.0 in
    let lt : a.value < 255 = grind (arith, nat_tests) in
    ⊎_elim
    (λ y. let d = took_done _ _ _ _ _ _ y.1 in
    let d1 : a.place ≡ q = d.1 in
    let y0 : (a.value == 128) ≡ true = y.0 in
    let v : a.value ≡ 128 = grind (arith, nat_tests) in
    subst (λ w. ExtentIs l e k s w q r) d.0
    (o.is ∙ ap₂ (λ u w. u ∷ w) v d.2, omega arith, subst (Within l e) d1 o.within))
    (λ y. let c = took_bind _ _ _ _ _ _ _ y.1 in
    let d = took_done _ _ _ _ _ _ c.next_tag in
    let y0 : (a.value == 128) ≡ false = y.0 in
    let v : a.value ≢ 128 = grind (arith, nat_tests) in
    let n = number_of_took l e p a.value a.place a.rest c.value c.place c.rest lt v c.first in
    let n2 : c.place ≡ a.place + length n.0 = n.2 in
    let d1 : c.place ≡ q = d.1 in
    subst (λ w. ExtentIs l e k s w q r) d.0
    (record {
      octets = a.value ∷ n.0;
      is = o.is ∙ ap (λ w. a.value ∷ w) (n.1 ∙ ap (λ w. n.0 ++ w) d.2);
      place = omega arith;
      spells = n.3;
      within = subst (λ w. Within l e (w + c.value)) d1 n.4;
    }))
    (took_choose _ _ _ _ _ _ _ _ b.1)

pub octets_took : (n k : ℕ) (s o : List ℕ) (q : ℕ) (r : List ℕ) → run (next_octets n) k s ≡ Took o q r
    → (s ≡ o ++ r) × (length o ≡ n) × (q ≡ k + n)
unfolding next_octets run
octets_took zero k s o q r h =
    let e : [] ≡ o = cc in
    let e' : k ≡ q = cc in
    let e'' : s ≡ r = cc in
    (e'' ∙ ap (λ v. v ++ r) e, ap length (sym e), omega arith)
octets_took (suc n) k [] o q r h = cc
octets_took (suc n) k (x ∷ s) o q r h =
    let a = took_bind _ _ _ _ _ _ _ h in
    let d = took_done _ _ _ _ _ _ a.next_tag in
    let i = octets_took n (k + 1) s a.value a.place a.rest a.first in
    let d0 : x ∷ a.value ≡ o = d.0 in
    let d1 : a.place ≡ q = d.1 in
    let i1 : length a.value ≡ n = i.1 in
    let i2 : a.place ≡ k + 1 + n = i.2 in
    let z : length o ≡ length (x ∷ a.value) = ap length (sym d0) in
    (ap (λ v. x ∷ v) (i.0 ∙ ap (λ v. a.value ++ v) d.2) ∙ ap (λ v. v ++ r) d0, omega arith, omega arith)

-- the contents of a primitive element
pub record PrimitiveTaken (l : Limits) (c : Enclosing) (k : ℕ) (s o : List ℕ) (q : ℕ) (r : List ℕ) : Type 0 where
  pub length_octets : List ℕ
  pub is : s ≡ length_octets ++ (o ++ r)
  pub place : q ≡ k + length length_octets + length o
  pub spells : SpellsLength (length o) length_octets
  pub within : Within l c.nearest_end q

pub primitive_took : (l : Limits) (c : Enclosing) (p k : ℕ) (s o : List ℕ) (q : ℕ) (r : List ℕ)
    → run (primitive_contents l c p) k s ≡ Took o q r → PrimitiveTaken l c k s o q r
unfolding primitive_contents read_definite_length
primitive_took l c p k s o q r h =
    let y = took_bind _ _ _ _ _ _ _ h in
    let a = took_bind _ _ _ _ _ _ _ y.first in
    let x = octet_took l c.nearest_end p k s a.value a.place a.rest a.first in
    let b = took_require _ _ _ _ _ _ _ _ a.next_tag in
    let b' = both_true _ _ b.0 in
    let b0 : nat_lt a.value 255 ≡ true = b'.0 in
    let lt : a.value < 255 = grind (arith, nat_tests) in
    let b1 : (a.value == 128) ≡ false = not_true _ b'.1 in
    let v : a.value ≢ 128 = grind (arith, nat_tests) in
    let n = number_of_took l c.nearest_end p a.value a.place a.rest y.value y.place y.rest lt v b.1 in
    let i = octets_took y.value y.place y.rest o q r y.next_tag in
    let i1 : length o ≡ y.value = i.1 in
    let i2 : q ≡ y.place + y.value = i.2 in
    let n2 : y.place ≡ a.place + length n.0 = n.2 in
    let x1 : a.place ≡ k + 1 = x.place in
    record {
      length_octets = a.value ∷ n.0;
      is = x.is ∙ ap (λ w. a.value ∷ w) (n.1 ∙ ap (λ w. n.0 ++ w) i.0);
      place = omega arith;
      spells = subst (λ w. SpellsLength w (a.value ∷ n.0)) (sym i1) n.3;
      within = subst (Within l c.nearest_end) (sym i2) n.4;
    }
