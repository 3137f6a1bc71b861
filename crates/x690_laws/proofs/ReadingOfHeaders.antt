-- The reading of headers takes what lays out a tag, a length, contents.
use Rattle.std.proofs.Common.{append-nil, ◌≡◌, ℕ, zero, suc, ◌+◌, ◌-◌, ◌*◌, ◌/◌, ◌%◌, ◌<◌, ◌≤◌, ◌≢◌, ◌⊎◌, inl, inr, ⊎_elim, ◌==◌, ◌&&◌, nat_lt, nat_le, not, Bool, true, false, cond, List, [], ◌∷◌, ◌++◌, length, Option, Some, None, refl, sym, ◌∙◌, ap, ap₂, subst, arith, lit<}
use Rattle.std.proofs.lemmas.Bool.Decides.{nat_tests}
use Rattle.std.proofs.lemmas.List.{length-append}
use Rattle.tlv_core.proofs.Base128.{IsRun, run_value, base128_run, base128_value, base128_first}
use Rattle.x690_laws.proofs.LayoutsOfHeaders.{identifier_cases}
use Rattle.x690.proofs.Runs.{run_bind}
use Rattle.tlv_core.proofs.Digits.{leading_length}
use Rattle.x690_laws.proofs.ReadingHeadersSound.{Within}
use Rattle.tlv_core.specs.Identifier.{IsTag, Tag, base128, identifier, leading_base128}
use Rattle.tlv_core.specs.Length.{SpellsLength, big_endian}
use Rattle.tlv_core.specs.Limits.{Limits}
use Rattle.tlv_core.specs.declared.fault.Fault.{Fault}
use Rattle.tlv_core.specs.declared.reason.Reason.TheVariants.{TooDeep}
use Rattle.x690.specs.Points.{Enclosing, EndsWithZeros, at_end, ends_with_zeros, fault, past_end, stands_at_end}
use Rattle.x690.specs.ReadHeaders.{ContainerEnds, DefiniteLength, ElementStands, IndefiniteLength, fit_contents, header_octet, next_octets, next_tag, primitive_contents, read_big_endian, read_definite_length, read_high_number, read_length, read_number, read_tag_number}
use Rattle.x690.specs.Reading.{Ask, Done, Halted, Reading, Took, Where, choose, require, run}

pub require_on : {A : Type 0} (b : Bool) (f : Fault) (p : Reading A) (k : ℕ) (s : List ℕ) → b ≡ true
    → run (require b f p) k s ≡ run p k s
unfolding require
require_on true f p k s e = refl
require_on false f p k s e = cc

pub choose_first : {A : Type 0} (b : Bool) (p p' : Reading A) (k : ℕ) (s : List ℕ) → b ≡ true
    → run (choose b p p') k s ≡ run p k s
unfolding choose
choose_first true p p' k s e = refl
choose_first false p p' k s e = cc

pub choose_second : {A : Type 0} (b : Bool) (p p' : Reading A) (k : ℕ) (s : List ℕ) → b ≡ false
    → run (choose b p p') k s ≡ run p' k s
unfolding choose
choose_second true p p' k s e = cc
choose_second false p p' k s e = refl

pub where_on : {A : Type 0} (f : ℕ → Reading A) (k : ℕ) (s : List ℕ) → run (Where f) k s ≡ run (f k) k s
unfolding run
where_on f k s = refl

pub done_on : {A : Type 0} (a : A) (k : ℕ) (s : List ℕ) → run (Done a) k s ≡ Took a k s
unfolding run
done_on a k s = refl

-- the same, at a place that is equal
pub at_place : {A : Type 0} (a : A) (k j : ℕ) (s : List ℕ) → k ≡ j → Took a k s ≡ Took a j s
at_place a k j s e = ap (λ w. Took a w s) e

pub both : (a b : Bool) → a ≡ true → b ≡ true → a && b ≡ true
both true true x y = refl
both true false x y = cc
both false b x y = cc

pub not_false : (b : Bool) → b ≡ false → not b ≡ true
not_false true e = cc
not_false false e = refl

bound_less : (e : Option ℕ) (k q : ℕ) → k ≤ q → past_end e q ≡ false → past_end e k ≡ false
bound_less None k q h g = refl
bound_less (Some e) k q h g = grind (arith, nat_tests)

pub within_less : (l : Limits) (e : Option ℕ) (k q : ℕ) → k ≤ q → Within l e q → Within l e k
within_less l e k q h w =
    let z = w.limit in record { nearest_end = bound_less e k q h w.nearest_end; limit = omega arith }

pub not_at_bound : (e : Option ℕ) (k : ℕ) → past_end e (k + 1) ≡ false → at_end e k ≡ false
not_at_bound None k h = refl
not_at_bound (Some e) k h = grind (arith, nat_tests)

ask_on : (k x : ℕ) (s : List ℕ) → run (Ask Done) k (x ∷ s) ≡ Took x (k + 1) s
unfolding run
ask_on k x s = refl

pub octet_on : (l : Limits) (e : Option ℕ) (p k x : ℕ) (s : List ℕ) → Within l e (k + 1)
    → run (header_octet l e p) k (x ∷ s) ≡ Took x (k + 1) s
unfolding header_octet
octet_on l e p k x s w =
    let z : k + 1 ≤ l.octets = w.limit in
    let t : nat_lt k l.octets ≡ true = grind (arith, nat_tests) in
    where_on _ k (x ∷ s)
    ∙ require_on _ _ _ k (x ∷ s) (not_false _ (not_at_bound e k w.nearest_end))
    ∙ require_on _ _ _ k (x ∷ s) t
    ∙ ask_on k x s

-- tags

abbrev pub head : List ℕ → ℕ
head [] = 0
head (x ∷ s) = x

abbrev pub LeadFits : ℕ → List ℕ → Type 0
LeadFits n d = not ((n == 0) && (head d == 128)) ≡ true

pub lead_from : (n : ℕ) (d : List ℕ) → n ≢ 0 → LeadFits n d
lead_from n d h = go (n == 0) (grind (arith, nat_tests))
  where
    go : (b : Bool) → b ≡ false → not (b && (head d == 128)) ≡ true
    go true e = cc
    go false e = refl

pub not_lead : (n x : ℕ) → 128 ≤ x → not ((n == 0) && (x == 128)) ≡ true → n * 128 + (x - 128) ≢ 0
not_lead n x h t z =
    let a : n ≡ 0 = omega arith in
    let b : x ≡ 128 = omega arith in
    let t' = subst (λ w. not ((w == 0) && (x == 128)) ≡ true) a t in
    let t'' = subst (λ w. not ((0 == 0) && (w == 128)) ≡ true) b t' in
    cc

pub high_on : (l : Limits) (e : Option ℕ) (p left n k : ℕ) (d r : List ℕ) (m : ℕ) → IsRun d → length d ≤ left
    → LeadFits n d → run_value n d ≡ m → 31 ≤ m → Within l e (k + length d)
    → run (read_high_number l e p left n) k (d ++ r) ≡ Took m (k + length d) r
unfolding read_high_number
high_on l e p left n k [] r m h g f v z w = absurd (omega arith)
high_on l e p zero n k (x ∷ d) r m h g f v z w = absurd (omega arith)
high_on l e p (suc left) n k (x ∷ []) r m h g f v z w =
    let v' : n * 128 + x % 128 ≡ m = v in
    let e1 : n * 128 + x ≡ m = omega arith in
    let t0 : nat_lt x 256 ≡ true = grind (arith, nat_tests) in
    let t1 : nat_lt x 128 ≡ true = grind (arith, nat_tests) in
    let t2 : nat_le 31 (n * 128 + x) ≡ true = grind (arith, nat_tests) in
    run_bind _ _ k (x ∷ r) x (k + 1) r
    (octet_on l e p k x r (within_less l e (k + 1) (k + length (x ∷ [])) (omega arith) w))
    ∙ require_on _ _ _ (k + 1) r (both _ _ f t0)
    ∙ choose_first _ _ _ (k + 1) r t1
    ∙ require_on _ _ _ (k + 1) r t2
    ∙ done_on (n * 128 + x) (k + 1) r
    ∙ ap₂ (λ a b. Took a b r) e1 (let q : k + 1 ≡ k + length (x ∷ []) = omega arith in q)
high_on l e p (suc left) n k (x ∷ y ∷ d) r m h g f v z w =
    let h0 : 128 ≤ x = h.0 in
    let h1 : x < 256 = h.1 in
    let t0 : nat_lt x 256 ≡ true = grind (arith, nat_tests) in
    let t1 : nat_lt x 128 ≡ false = grind (arith, nat_tests) in
    let nv : n * 128 + x % 128 ≡ n * 128 + (x - 128) = omega arith in
    let nz : n * 128 + (x - 128) ≢ 0 = not_lead n x h0 f in
    let q : k + 1 + length (y ∷ d) ≡ k + length (x ∷ y ∷ d) = omega arith in
    run_bind _ _ k (x ∷ ((y ∷ d) ++ r)) x (k + 1) ((y ∷ d) ++ r)
    (octet_on l e p k x ((y ∷ d) ++ r) (within_less l e (k + 1) (k + length (x ∷ y ∷ d)) (omega arith) w))
    ∙ require_on _ _ _ (k + 1) ((y ∷ d) ++ r) (both _ _ f t0) ∙ choose_second _ _ _ (k + 1) ((y ∷ d) ++ r) t1
    ∙ high_on l e p left (n * 128 + (x - 128)) (k + 1) (y ∷ d) r m h.2 (omega arith)
    (lead_from (n * 128 + (x - 128)) (y ∷ d) nz) (ap (λ a. run_value a (y ∷ d)) (sym nv) ∙ v) z
    (subst (Within l e) (sym q) w)
    ∙ at_place m _ _ r q

digits_lead : (m : ℕ) → head (base128 m) ≢ 128
digits_lead m = go (base128 m) refl
  where
    go : (s : List ℕ) → base128 m ≡ s → head s ≢ 128
    go [] e z = cc
    go (x ∷ s) e z = base128_first m [] s (append-nil (base128 m) ∙ e ∙ ap (λ w. w ∷ s) z)

digits_length : (m : ℕ) → m < 268435456 → length (base128 m) ≤ 4
unfolding base128
digits_length m h =
    let a : length (leading_base128 m (m / 128)) ≤ 3 = leading_length 3 m (m / 128) (omega arith) in
    omega (arith, length-append (leading_base128 m (m / 128)) ((m % 128) ∷ []))

pub digits_fit : (m : ℕ) → LeadFits 0 (base128 m)
digits_fit m = go (head (base128 m) == 128) refl
  where
    go : (b : Bool) → (head (base128 m) == 128) ≡ b → not ((0 == 0) && b) ≡ true
    go true e = absurd (digits_lead m (grind (arith, nat_tests)))
    go false e = refl

-- the octet that an identifier begins with
abbrev pub lead_of : Tag → Bool → ℕ → ℕ
lead_of t f n = t.class * 64 + cond f 32 0 + n

pub record Lead (t : Tag) (f : Bool) (n : ℕ) : Type 0 where
  pub class_is : lead_of t f n / 64 ≡ t.class
  pub number_is : lead_of t f n % 32 ≡ n
  pub form_is : nat_le 32 (lead_of t f n % 64) ≡ f
  pub header_octet : lead_of t f n < 256

lead_parts : (t : Tag) (f : Bool) (n : ℕ) → t.class < 4 → n < 32 → Lead t f n
lead_parts t true n h g =
    let a : 32 ≤ (t.class * 64 + 32 + n) % 64 = omega arith in
    record {
      class_is = omega arith;
      number_is = omega arith;
      form_is = grind (arith, nat_tests);
      header_octet = omega arith;
    }
lead_parts t false n h g =
    let a : (t.class * 64 + 0 + n) % 64 < 32 = omega arith in
    record {
      class_is = omega arith;
      number_is = omega arith;
      form_is = grind (arith, nat_tests);
      header_octet = omega arith;
    }

add1 : (s : List ℕ) → length (0 ∷ s) ≡ 1 + length s
add1 s = omega arith

not_zero : (t : Tag) (f : Bool) (n : ℕ) → IsTag t → t.number < 31 → lead_of t f t.number ≢ 0
not_zero t true n g h z = absurd (omega arith)
not_zero t false n g h z = g.not_end (omega arith)

not_thirty : (t : Tag) (f : Bool) (n : ℕ) → IsTag t → t.number < 31 → lead_of t f t.number ≢ 32
not_thirty t true n g h z = g.not_end (omega arith)
not_thirty t false n g h z = absurd (omega arith)

thirty_one : (t : Tag) (f : Bool) → lead_of t f 31 ≢ 32
thirty_one t true z = absurd (omega arith)
thirty_one t false z = absurd (omega arith)

-- after the first octet of an identifier
pub lead_on : (l : Limits) (c : Enclosing) (k j n m : ℕ) (t : Tag) (f : Bool) (s r : List ℕ)
    → stands_at_end c.innermost k ≡ false → IsTag t → c.open_containers < l.depth → Lead t f n → lead_of t f n ≢ 0
    → lead_of t f n ≢ 32 → Within l c.nearest_end (k + 1)
    → run (read_tag_number l c.nearest_end k (lead_of t f n)) (k + 1) s ≡ Took t.number j r
    → run (next_tag l c) k (lead_of t f n ∷ s) ≡ Took (ElementStands k t f) j r
unfolding next_tag
lead_on l c k j n m t f s r a g d p z z' w h =
    let x = lead_of t f n in
    let t0 : (x == 0) ≡ false = grind (arith, nat_tests) in
    let t1 : (x == 32) ≡ false = grind (arith, nat_tests) in
    let t2 : nat_lt x 256 ≡ true = let y = p.header_octet in grind (arith, nat_tests) in
    let t3 : nat_lt c.open_containers l.depth ≡ true = grind (arith, nat_tests) in
    where_on _ k (x ∷ s) ∙ choose_second _ _ _ k (x ∷ s) a
    ∙ run_bind _ _ k (x ∷ s) x (k + 1) s (octet_on l c.nearest_end k k x s w)
    ∙ choose_second _ _ _ (k + 1) s t0 ∙ require_on _ _ _ (k + 1) s (both _ _ (not_false _ t1) t2)
    ∙ run_bind _ _ (k + 1) s t.number j r h ∙ require_on _ _ _ j r t3 ∙ done_on _ j r
    ∙ ap₂
    (λ (u : ℕ) (v : Bool). Took (ElementStands k (record { class = u; number = t.number }) v) j r) p.class_is p.form_is

pub next_on : (l : Limits) (c : Enclosing) (k : ℕ) (t : Tag) (f : Bool) (r : List ℕ)
    → stands_at_end c.innermost k ≡ false → IsTag t → c.open_containers < l.depth
    → Within l c.nearest_end (k + length (identifier t f))
    → run (next_tag l c) k (identifier t f ++ r) ≡ Took (ElementStands k t f) (k + length (identifier t f)) r
unfolding read_tag_number
next_on l c k t f r a g d w = ⊎_elim
    (λ i. let n : length (identifier t f) ≡ 1 = ap length i.is in
    let sm : t.number < 31 = i.small in
    let cf : t.class < 4 = g.class_fits in
    let p = lead_parts t f t.number cf (omega arith) in
    let b : nat_lt (lead_of t f t.number % 32) 31 ≡ true = let y = p.number_is in grind (arith, nat_tests) in
    let q : k + 1 ≡ k + length (identifier t f) = omega arith in
    ap (λ v. run (next_tag l c) k (v ++ r)) i.is
    ∙ lead_on l c k (k + 1) t.number t.number t f r r a g d p (not_zero t f t.number g sm)
    (not_thirty t f t.number g sm) (within_less l c.nearest_end (k + 1) (k + length (identifier t f)) (omega arith) w)
    (choose_first _ _ _ (k + 1) r b ∙ done_on _ (k + 1) r ∙ ap (λ v. Took v (k + 1) r) p.number_is)
    ∙ at_place (ElementStands k t f) _ _ r q)
    (λ i. let n : length (identifier t f) ≡ 1 + length (base128 t.number) = ap length i.is ∙ add1 (base128 t.number) in
    let p = lead_parts t f 31 g.class_fits (lit< tt) in
    let b : nat_lt (lead_of t f 31 % 32) 31 ≡ false = let y = p.number_is in grind (arith, nat_tests) in
    let q : k + 1 + length (base128 t.number) ≡ k + length (identifier t f) = omega arith in
    ap (λ v. run (next_tag l c) k (v ++ r)) i.is
    ∙ lead_on l c k (k + 1 + length (base128 t.number)) 31 t.number t f (base128 t.number ++ r) r a g d p
    (λ z. absurd (omega arith)) (thirty_one t f)
    (within_less l c.nearest_end (k + 1) (k + length (identifier t f)) (omega arith) w)
    (choose_second _ _ _ (k + 1) (base128 t.number ++ r) b
    ∙ high_on l c.nearest_end k 4 0 (k + 1) (base128 t.number) r t.number (base128_run t.number)
    (digits_length t.number g.number_fits) (digits_fit t.number) (base128_value t.number) i.large
    (subst (Within l c.nearest_end) (sym q) w))
    ∙ at_place (ElementStands k t f) _ _ r q)
    (identifier_cases t f)

halts_by : {A : Type 0} (b : Bool) (f : Fault) (p : Reading A) (k : ℕ) (s : List ℕ) → b ≡ false
    → run (require b f p) k s ≡ Halted f
unfolding require run
halts_by true f p k s e = cc
halts_by false f p k s e = refl

-- the same, where the element is nested too deep
lead_deep : (l : Limits) (c : Enclosing) (k j n m : ℕ) (t : Tag) (f : Bool) (s r : List ℕ)
    → stands_at_end c.innermost k ≡ false → IsTag t → l.depth ≤ c.open_containers → Lead t f n → lead_of t f n ≢ 0
    → lead_of t f n ≢ 32 → Within l c.nearest_end (k + 1)
    → run (read_tag_number l c.nearest_end k (lead_of t f n)) (k + 1) s ≡ Took t.number j r
    → run (next_tag l c) k (lead_of t f n ∷ s) ≡ Halted (fault k TooDeep)
unfolding next_tag
lead_deep l c k j n m t f s r a g d p z z' w h =
    let x = lead_of t f n in
    let t0 : (x == 0) ≡ false = grind (arith, nat_tests) in
    let t1 : (x == 32) ≡ false = grind (arith, nat_tests) in
    let t2 : nat_lt x 256 ≡ true = let y = p.header_octet in grind (arith, nat_tests) in
    let t3 : nat_lt c.open_containers l.depth ≡ false = grind (arith, nat_tests) in
    where_on _ k (x ∷ s) ∙ choose_second _ _ _ k (x ∷ s) a
    ∙ run_bind _ _ k (x ∷ s) x (k + 1) s (octet_on l c.nearest_end k k x s w)
    ∙ choose_second _ _ _ (k + 1) s t0 ∙ require_on _ _ _ (k + 1) s (both _ _ (not_false _ t1) t2)
    ∙ run_bind _ _ (k + 1) s t.number j r h ∙ halts_by _ _ _ j r t3

pub next_deep : (l : Limits) (c : Enclosing) (k : ℕ) (t : Tag) (f : Bool) (r : List ℕ)
    → stands_at_end c.innermost k ≡ false → IsTag t → l.depth ≤ c.open_containers
    → Within l c.nearest_end (k + length (identifier t f))
    → run (next_tag l c) k (identifier t f ++ r) ≡ Halted (fault k TooDeep)
unfolding read_tag_number
next_deep l c k t f r a g d w = ⊎_elim
    (λ i. let n : length (identifier t f) ≡ 1 = ap length i.is in
    let sm : t.number < 31 = i.small in
    let cf : t.class < 4 = g.class_fits in
    let p = lead_parts t f t.number cf (omega arith) in
    let b : nat_lt (lead_of t f t.number % 32) 31 ≡ true = let y = p.number_is in grind (arith, nat_tests) in
    let q : k + 1 ≡ k + length (identifier t f) = omega arith in
    ap (λ v. run (next_tag l c) k (v ++ r)) i.is
    ∙ lead_deep l c k (k + 1) t.number t.number t f r r a g d p (not_zero t f t.number g sm)
    (not_thirty t f t.number g sm) (within_less l c.nearest_end (k + 1) (k + length (identifier t f)) (omega arith) w)
    (choose_first _ _ _ (k + 1) r b ∙ done_on _ (k + 1) r ∙ ap (λ v. Took v (k + 1) r) p.number_is))
    (λ i. let n : length (identifier t f) ≡ 1 + length (base128 t.number) = ap length i.is ∙ add1 (base128 t.number) in
    let p = lead_parts t f 31 g.class_fits (lit< tt) in
    let b : nat_lt (lead_of t f 31 % 32) 31 ≡ false = let y = p.number_is in grind (arith, nat_tests) in
    let q : k + 1 + length (base128 t.number) ≡ k + length (identifier t f) = omega arith in
    ap (λ v. run (next_tag l c) k (v ++ r)) i.is
    ∙ lead_deep l c k (k + 1 + length (base128 t.number)) 31 t.number t f (base128 t.number ++ r) r a g d p
    (λ z. absurd (omega arith)) (thirty_one t f)
    (within_less l c.nearest_end (k + 1) (k + length (identifier t f)) (omega arith) w)
    (choose_second _ _ _ (k + 1) (base128 t.number ++ r) b
    ∙ high_on l c.nearest_end k 4 0 (k + 1) (base128 t.number) r t.number (base128_run t.number)
    (digits_length t.number g.number_fits) (digits_fit t.number) (base128_value t.number) i.large
    (subst (Within l c.nearest_end) (sym q) w)))
    (identifier_cases t f)

pub ends_on : (l : Limits) (c : Enclosing) (k : ℕ) (r : List ℕ) → stands_at_end c.innermost k ≡ true
    → run (next_tag l c) k r ≡ Took (ContainerEnds k) k r
unfolding next_tag
ends_on l c k r h = where_on _ k r ∙ choose_first _ _ _ k r h ∙ done_on _ k r

pub endless_on : (l : Limits) (c : Enclosing) (k : ℕ) (r : List ℕ) → c.innermost ≡ EndsWithZeros
    → Within l c.nearest_end (k + 2) → run (next_tag l c) k (0 ∷ 0 ∷ r) ≡ Took (ContainerEnds k) (k + 2) r
unfolding next_tag
endless_on l c k r h w =
    let q : k + 1 + 1 ≡ k + 2 = omega arith in
    where_on _ k (0 ∷ 0 ∷ r) ∙ choose_second _ _ _ k (0 ∷ 0 ∷ r) (ap (λ v. stands_at_end v k) h)
    ∙ run_bind _ _ k (0 ∷ 0 ∷ r) 0 (k + 1) (0 ∷ r)
    (octet_on l c.nearest_end k k 0 (0 ∷ r) (within_less l c.nearest_end (k + 1) (k + 2) (omega arith) w))
    ∙ choose_first _ _ _ (k + 1) (0 ∷ r) refl ∙ require_on _ _ _ (k + 1) (0 ∷ r) (ap ends_with_zeros h)
    ∙ run_bind _ _ (k + 1) (0 ∷ r) 0 (k + 1 + 1) r
    (octet_on l c.nearest_end k (k + 1) 0 r (subst (Within l c.nearest_end) (sym q) w))
    ∙ require_on _ _ _ (k + 1 + 1) r refl ∙ done_on _ (k + 1 + 1) r ∙ at_place (ContainerEnds k) _ _ r q

-- lengths

pub big_on : (l : Limits) (e : Option ℕ) (p n k : ℕ) (d r : List ℕ) → Within l e (k + length d)
    → run (read_big_endian l e p (length d) n) k (d ++ r) ≡ Took (big_endian n d) (k + length d) r
unfolding read_big_endian
big_on l e p n k [] r w = let q : k ≡ k + 0 = omega arith in done_on n k r ∙ at_place n _ _ r q
big_on l e p n k (x ∷ d) r w =
    let q : k + 1 + length d ≡ k + length (x ∷ d) = omega arith in
    run_bind _ _ k (x ∷ (d ++ r)) x (k + 1) (d ++ r)
    (octet_on l e p k x (d ++ r) (within_less l e (k + 1) (k + length (x ∷ d)) (omega arith) w))
    ∙ big_on l e p (n * 256 + x) (k + 1) d r (subst (Within l e) (sym q) w) ∙ at_place _ _ _ r q

pub fitting_on : (l : Limits) (e : Option ℕ) (p n k : ℕ) (s : List ℕ) → Within l e (k + n)
    → run (fit_contents l e p n) k s ≡ Took n k s
unfolding fit_contents
fitting_on l e p n k s w =
    let z : k + n ≤ l.octets = w.limit in
    let t : nat_le (k + n) l.octets ≡ true = grind (arith, nat_tests) in
    where_on _ k s ∙ require_on _ _ _ k s (not_false _ w.nearest_end) ∙ require_on _ _ _ k s t ∙ done_on n k s

-- a length's first octet, and the number of the others
pub record FirstOf (m : ℕ) (length_octets : List ℕ) : Type 0 where
  pub first : ℕ
  pub rest : List ℕ
  pub is : length_octets ≡ first ∷ rest
  pub below : first < 255
  pub not_indefinite : first ≢ 128
  pub form : ((first < 128) × (first ≡ m) × (rest ≡ []))
      ⊎ ((129 ≤ first) × (length rest ≡ first - 128) × (big_endian 0 rest ≡ m))

pub first_of_len : (m : ℕ) (length_octets : List ℕ) → SpellsLength m length_octets → FirstOf m length_octets
unfolding SpellsLength
first_of_len m [] h = absurd (omega arith)
first_of_len m (x ∷ s) h = ⊎_elim
    (λ a.
    let a0 : x < 128 = a.0 in record {
      first = x;
      rest = s;
      is = refl;
      below = omega arith;
      not_indefinite = λ z. absurd (omega arith);
      form = inl a;
    })
    (λ a. let a0 : 129 ≤ x = a.0 in let a2 : length s + 128 ≡ x = a.2 in
    record {
      first = x;
      rest = s;
      is = refl;
      below = a.1;
      not_indefinite = λ z. absurd (omega arith);
      form = inr (a0, omega arith, a.3);
    })
    h

pub number_on : (l : Limits) (e : Option ℕ) (p m k : ℕ) (length_octets : List ℕ) (f : FirstOf m length_octets)
    (r : List ℕ)
    → Within l e (k + length f.rest + m)
    → run (read_number l e p f.first) k (f.rest ++ r) ≡ Took m (k + length f.rest) r
unfolding read_number
number_on l e p m k length_octets f r w = ⊎_elim
    (λ a. let a0 : f.first < 128 = a.0 in
    let t : nat_lt f.first 128 ≡ true = grind (arith, nat_tests) in
    let n : length f.rest ≡ 0 = ap length a.2 in
    let q : k ≡ k + length f.rest = omega arith in
    let q' : k + length f.rest + m ≡ k + m = omega arith in
    run_bind _ _ k (f.rest ++ r) m k r
    (choose_first _ _ _ k (f.rest ++ r) t ∙ done_on f.first k (f.rest ++ r) ∙ ap₂ (λ u v. Took u k (v ++ r)) a.1 a.2)
    ∙ fitting_on l e p m k r (subst (Within l e) q' w) ∙ at_place m _ _ r q)
    (λ a. let a0 : 129 ≤ f.first = a.0 in
    let t : nat_lt f.first 128 ≡ false = grind (arith, nat_tests) in
    run_bind _ _ k (f.rest ++ r) m (k + length f.rest) r
    (choose_second _ _ _ k (f.rest ++ r) t ∙ ap (λ u. run (read_big_endian l e p u 0) k (f.rest ++ r)) (sym a.1)
    ∙ big_on l e p 0 k f.rest r (within_less l e (k + length f.rest) (k + length f.rest + m) (omega arith) w)
    ∙ ap (λ u. Took u (k + length f.rest) r) a.2)
    ∙ fitting_on l e p m (k + length f.rest) r w)
    f.form

pub length_on : (l : Limits) (e : Option ℕ) (p m k : ℕ) (length_octets r : List ℕ) → SpellsLength m length_octets
    → Within l e (k + length length_octets + m)
    → run (read_length l e p) k (length_octets ++ r) ≡ Took (DefiniteLength m) (k + length length_octets) r
unfolding read_length
length_on l e p m k length_octets r h w =
    let f = first_of_len m length_octets h in
    let n : length length_octets ≡ length (f.first ∷ f.rest) = ap length f.is in
    let lt : f.first < 255 = f.below in
    let ne : f.first ≢ 128 = f.not_indefinite in
    let t : nat_lt f.first 255 ≡ true = grind (arith, nat_tests) in
    let t' : (f.first == 128) ≡ false = grind (arith, nat_tests) in
    let q : k + 1 + length f.rest ≡ k + length length_octets = omega arith in
    let w' : Within l e (k + 1 + length f.rest + m) = subst (λ u. Within l e (u + m)) (sym q) w in
    ap (λ v. run (read_length l e p) k (v ++ r)) f.is
    ∙ run_bind _ _ k (f.first ∷ (f.rest ++ r)) f.first (k + 1) (f.rest ++ r)
    (octet_on l e p k f.first (f.rest ++ r) (within_less l e (k + 1) (k + 1 + length f.rest + m) (omega arith) w'))
    ∙ require_on _ _ _ (k + 1) (f.rest ++ r) t ∙ choose_second _ _ _ (k + 1) (f.rest ++ r) t'
    ∙ run_bind _ _ (k + 1) (f.rest ++ r) m (k + 1 + length f.rest) r (number_on l e p m (k + 1) length_octets f r w')
    ∙ done_on (DefiniteLength m) (k + 1 + length f.rest) r ∙ at_place (DefiniteLength m) _ _ r q

pub indefinite_on : (l : Limits) (e : Option ℕ) (p k : ℕ) (r : List ℕ) → Within l e (k + 1)
    → run (read_length l e p) k (128 ∷ r) ≡ Took IndefiniteLength (k + 1) r
unfolding read_length
indefinite_on l e p k r w =
    run_bind _ _ k (128 ∷ r) 128 (k + 1) r (octet_on l e p k 128 r w)
    ∙ require_on _ _ _ (k + 1) r refl
    ∙ choose_first _ _ _ (k + 1) r refl
    ∙ done_on IndefiniteLength (k + 1) r

pub octets_on : (o r : List ℕ) (k : ℕ) → run (next_octets (length o)) k (o ++ r) ≡ Took o (k + length o) r
unfolding next_octets run
octets_on [] r k = let q : k ≡ k + 0 = omega arith in at_place [] _ _ r q
octets_on (x ∷ o) r k =
    let q : k + 1 + length o ≡ k + length (x ∷ o) = omega arith in
    run_bind _ _ (k + 1) (o ++ r) o (k + 1 + length o) r (octets_on o r (k + 1)) ∙ at_place (x ∷ o) _ _ r q

pub primitive_on : (l : Limits) (c : Enclosing) (p k : ℕ) (length_octets o r : List ℕ)
    → SpellsLength (length o) length_octets → Within l c.nearest_end (k + length length_octets + length o)
    → run (primitive_contents l c p) k (length_octets ++ (o ++ r)) ≡ Took o (k + length length_octets + length o) r
unfolding primitive_contents read_definite_length
primitive_on l c p k length_octets o r h w =
    let f = first_of_len (length o) length_octets h in
    let n : length length_octets ≡ length (f.first ∷ f.rest) = ap length f.is in
    let lt : f.first < 255 = f.below in
    let ne : f.first ≢ 128 = f.not_indefinite in
    let t : nat_lt f.first 255 ≡ true = grind (arith, nat_tests) in
    let t' : (f.first == 128) ≡ false = grind (arith, nat_tests) in
    let q : k + 1 + length f.rest ≡ k + length length_octets = omega arith in
    let w' : Within l c.nearest_end (k + 1 + length f.rest + length o) =
    subst (λ u. Within l c.nearest_end (u + length o)) (sym q) w in
    ap (λ v. run (primitive_contents l c p) k (v ++ (o ++ r))) f.is
    ∙ run_bind _ _ k (f.first ∷ (f.rest ++ (o ++ r))) (length o) (k + 1 + length f.rest) (o ++ r)
    (run_bind _ _ k (f.first ∷ (f.rest ++ (o ++ r))) f.first (k + 1) (f.rest ++ (o ++ r))
    (octet_on l c.nearest_end p k f.first (f.rest ++ (o ++ r))
    (within_less l c.nearest_end (k + 1) (k + 1 + length f.rest + length o) (omega arith) w'))
    ∙ require_on _ _ _ (k + 1) (f.rest ++ (o ++ r)) (both _ _ t (not_false _ t'))
    ∙ number_on l c.nearest_end p (length o) (k + 1) length_octets f (o ++ r) w')
    ∙ octets_on o r (k + 1 + length f.rest) ∙ ap (λ u. Took o (u + length o) r) q
