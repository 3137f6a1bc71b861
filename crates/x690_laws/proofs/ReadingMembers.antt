-- The members of a container, read one after another, and how they stand by the fault grammar: once for members of
-- types, for segments and for open values.
use Rattle.std.proofs.Common.{◌≡◌, ℕ, zero, suc, ◌+◌, ◌<◌, ◌≤◌, ◌⊎◌, inl, inr, ⊎_elim, Bool, List, refl, sym, ◌∙◌, ap, subst, arith}
use Rattle.tlv_core.specs.Identifier.{Tag}
use Rattle.tlv_core.specs.Limits.{Limits}
use Rattle.tlv_core.specs.declared.fault.Fault.{Fault}
use Rattle.x690.specs.ContentsFaults.{After, StopsHere}
use Rattle.x690.specs.HeaderFaults.{EndsHere, Opens, Stands, StopsInForm}
use Rattle.x690.specs.Points.{Enclosing}
use Rattle.x690.specs.ReadHeaders.{ContainerEnds, ElementStands, Ended, Next, each_member, entered, in_container, next_tag, read_length}
use Rattle.x690.specs.Reading.{Done, Halted, Outcome, Reading, Took, Where, run, ◌>>=◌}
use Rattle.x690_laws.proofs.FaultsOfHeaders.{ends_of, ends_run, require_off, stands_of, stands_run, tag_halts, tag_stops}
use Rattle.x690_laws.proofs.FaultsOfLengths.{form_run, form_stands, length_halts, length_stops}
use Rattle.x690_laws.proofs.ReadingOfHeaders.{done_on, require_on, where_on}
use Rattle.x690.proofs.Runs.{halt_bind, halted_bind, halted_done, halted_require, no_less, run_bind, took_bind, took_done, took_fail, took_require, took_where}

-- One member was taken: it stands, and what is so of `number` members before it is so of one more.
pub record TookOne {S A : Type 0} (l : Limits) (view : S → A) (Stand : A → ℕ → List ℕ → A → ℕ → List ℕ → Type 0)
    (Ok : ℕ → S → Type 0) (number : ℕ) (s0 s1 : S) (k : ℕ) (s : List ℕ) (q : ℕ) (r : List ℕ) : Type 0 where
  pub count : ℕ
  pub place : q ≡ k + count
  pub stand : Stand (view s0) k s (view s1) count r
  pub ok : Ok (suc number) s1
  pub longer : k < q
  pub limit : q ≤ l.octets

abbrev pub TakesOne : {S A : Type 0} → Limits → Enclosing → (S → ℕ → Tag → Bool → Reading S) → (S → A)
    → (A → ℕ → List ℕ → A → ℕ → List ℕ → Type 0) → (ℕ → S → Type 0) → Type 0
TakesOne {S} l i one view Stand Ok =
    (number : ℕ) (s0 s1 : S) (k : ℕ) (s : List ℕ) (t : Tag) (form : Bool) (j : ℕ) (u : List ℕ) (q : ℕ) (r : List ℕ)
    → Ok number s0 → Stands l i k s t form j u → run (one s0 k t form) j u ≡ Took s1 q r
    → TookOne l view Stand Ok number s0 s1 k s q r

abbrev pub StopsOne : {S A : Type 0} → Limits → Enclosing → (S → ℕ → Tag → Bool → Reading S) → (S → A)
    → (A → ℕ → Tag → Bool → ℕ → List ℕ → Fault → Type 0) → (ℕ → S → Type 0) → Fault → Type 0
StopsOne {S} l i one view Behind Ok f =
    (number : ℕ) (s0 : S) (k : ℕ) (s : List ℕ) (t : Tag) (form : Bool) (j : ℕ) (u : List ℕ) → Ok number s0
    → Stands l i k s t form j u → run (one s0 k t form) j u ≡ Halted f → Behind (view s0) k t form j u f

pub members_stop : {S A : Type 0} (one : S → ℕ → Tag → Bool → Reading S) (view : S → A)
    (Stand : A → ℕ → List ℕ → A → ℕ → List ℕ → Type 0) (Behind : A → ℕ → Tag → Bool → ℕ → List ℕ → Fault → Type 0)
    (Ok : ℕ → S → Type 0) (l : Limits) (i : Enclosing) (f : Fault)
    → TakesOne l i one view Stand Ok → StopsOne l i one view Behind Ok f
    → (fuel number : ℕ) (s0 : S) (k : ℕ) (s : List ℕ) → k ≤ l.octets → l.octets < fuel + k → Ok number s0
    → run (each_member one fuel l i s0) k s ≡ Halted f
    → (m : ℕ) × After Stand (λ a k' s'. StopsHere l i (Behind a) k' s' f) m (view s0) k s
unfolding each_member After
members_stop {S} {A} one view Stand Behind Ok l i f tk st zero number s0 k s lo hi ok h = absurd (omega arith)
members_stop {S} {A} one view Stand Behind Ok l i f tk st (suc fuel) number s0 k s lo hi ok h = ⊎_elim
    (λ x. (0, inl (tag_stops l i k s f x)))
    (λ x.
    go x.0 x.1 x.2 x.3 x.4
    (λ s1 k' s' lo' hi' o w. members_stop one view Stand Behind Ok l i f tk st fuel (suc number) s1 k' s' lo' hi' o w))
    (halted_bind _ _ k s f h)
  where
    go : (d : Next) (j : ℕ) (u : List ℕ) → run (next_tag l i) k s ≡ Took d j u
        → run {A = Ended S}
        (elim d [
          | ContainerEnds p ↦ Done (record { all = s0; at = p })
          | ElementStands p t form ↦ one s0 p t form >>= λ s'. each_member one fuel l i s'
        ]) j u
        ≡ Halted f
        → ((s1 : S) (k' : ℕ) (s' : List ℕ) → k' ≤ l.octets → l.octets < fuel + k' → Ok (suc number) s1
        → run (each_member one fuel l i s1) k' s' ≡ Halted f
        → (m : ℕ) × After Stand (λ a k'' s''. StopsHere l i (Behind a) k'' s'' f) m (view s1) k' s')
        → (m : ℕ) × After Stand (λ a k'' s''. StopsHere l i (Behind a) k'' s'' f) m (view s0) k s
    go (ContainerEnds p) j u n h ih = absurd (halted_done _ j u f h)
    go (ElementStands p t form) j u n h ih =
        let sd = stands_of l i k s p t form j u n in
        let h' =
        subst (λ w. run {A = Ended S} (one s0 w t form >>= λ s'. each_member one fuel l i s') j u ≡ Halted f) sd.0 h in
        ⊎_elim
        (λ x. (0, inr (t, form, j, u, sd.1, st number s0 k s t form j u ok sd.1 x)))
        (λ x. let w = tk number s0 x.0 k s t form j u x.1 x.2 ok sd.1 x.3 in
        let lim : x.1 ≤ l.octets = w.limit in
        let lon : k < x.1 = w.longer in
        let z = ih x.0 x.1 x.2 (omega arith) (omega arith) w.ok x.4 in (
          suc z.0,
          (
            view x.0,
            w.count,
            x.2,
            w.stand,
            subst (λ v. After Stand (λ a k'' s''. StopsHere l i (Behind a) k'' s'' f) z.0 (view x.0) v x.2) w.place z.1,
          ),
        ))
        (halted_bind _ _ j u f h')

pub members_end : {S A : Type 0} (one : S → ℕ → Tag → Bool → Reading S) (view : S → A)
    (Stand : A → ℕ → List ℕ → A → ℕ → List ℕ → Type 0) (Ok : ℕ → S → Type 0) (Then : A → ℕ → List ℕ → Type 0)
    (l : Limits) (i : Enclosing) (e : Ended S)
    → TakesOne l i one view Stand Ok → ((k : ℕ) (s : List ℕ) → e.at ≡ k → EndsHere l i k s → Then (view e.all) k s)
    → (fuel number : ℕ) (s0 : S) (k : ℕ) (s : List ℕ) (q : ℕ) (r : List ℕ) → Ok number s0
    → run (each_member one fuel l i s0) k s ≡ Took e q r
    → (m : ℕ) × Ok (m + number) e.all × After Stand Then m (view s0) k s
unfolding each_member After
members_end {S} {A} one view Stand Ok Then l i e tk th zero number s0 k s q r ok h = absurd (took_fail _ _ _ _ _ _ h)
members_end {S} {A} one view Stand Ok Then l i e tk th (suc fuel) number s0 k s q r ok h =
    let x = took_bind _ _ _ _ _ _ _ h in
    go x.value x.place x.rest x.first x.next_tag
    (λ s1 k' s' o w. members_end one view Stand Ok Then l i e tk th fuel (suc number) s1 k' s' q r o w)
  where
    go : (d : Next) (j : ℕ) (u : List ℕ) → run (next_tag l i) k s ≡ Took d j u
        → run {A = Ended S}
        (elim d [
          | ContainerEnds p ↦ Done (record { all = s0; at = p })
          | ElementStands p t form ↦ one s0 p t form >>= λ s'. each_member one fuel l i s'
        ]) j u
        ≡ Took e q r
        → ((s1 : S) (k' : ℕ) (s' : List ℕ) → Ok (suc number) s1 → run (each_member one fuel l i s1) k' s' ≡ Took e q r
        → (m : ℕ) × Ok (m + suc number) e.all × After Stand Then m (view s1) k' s')
        → (m : ℕ) × Ok (m + number) e.all × After Stand Then m (view s0) k s
    go (ContainerEnds p) j u n h ih =
        let d = took_done _ _ _ _ _ _ h in
        let en = ends_of l i k s p j u n in
        let a : e.all ≡ s0 = sym (ap (λ w. w.all) d.0) in
        let b : e.at ≡ k = sym (ap (λ w. w.at) d.0) ∙ en.0 in
        let z : number ≡ 0 + number = omega arith in
        (0, subst (λ v. Ok v e.all) z (subst (Ok number) (sym a) ok), subst (λ w. Then (view w) k s) a (th k s b en.1))
    go (ElementStands p t form) j u n h ih =
        let sd = stands_of l i k s p t form j u n in
        let h' =
        subst
        (λ w. run {A = Ended S} (one s0 w t form >>= λ s'. each_member one fuel l i s') j u ≡ Took e q r) sd.0 h in
        let x = took_bind _ _ _ _ _ _ _ h' in
        let w = tk number s0 x.value k s t form j u x.place x.rest ok sd.1 x.first in
        let z = ih x.value x.place x.rest w.ok x.next_tag in
        let m' : z.0 + suc number ≡ suc z.0 + number = omega arith in (
          suc z.0,
          subst (λ v. Ok v e.all) m' z.1,
          (
            view x.value,
            w.count,
            x.rest,
            w.stand,
            subst (λ v. After Stand Then z.0 (view x.value) v x.rest) w.place z.2,
          ),
        )

-- and back

-- A member stands: the plain reading takes it.
pub record RunsOne {S A : Type 0} (l : Limits) (i : Enclosing) (one : S → ℕ → Tag → Bool → Reading S) (view : S → A)
    (Ok : ℕ → S → Type 0) (number : ℕ) (s0 : S) (k : ℕ) (s : List ℕ) (a : A) (n : ℕ) (r : List ℕ) : Type 0 where
  pub tag : Tag
  pub form : Bool
  pub behind : ℕ
  pub rest : List ℕ
  pub value : S
  pub stands : Stands l i k s tag form behind rest
  pub takes : run (one s0 k tag form) behind rest ≡ Took value (k + n) r
  pub viewed : view value ≡ a
  pub ok : Ok (suc number) value
  pub longer : 0 < n
  pub limit : k + n ≤ l.octets

abbrev pub GivesOne : {S A : Type 0} → Limits → Enclosing → (S → ℕ → Tag → Bool → Reading S) → (S → A)
    → (A → ℕ → List ℕ → A → ℕ → List ℕ → Type 0) → (ℕ → S → Type 0) → Type 0
GivesOne {S} {A} l i one view Stand Ok =
    (number : ℕ) (s0 : S) (k : ℕ) (s : List ℕ) (a : A) (n : ℕ) (r : List ℕ) → Ok number s0 → Stand (view s0) k s a n r
    → RunsOne l i one view Ok number s0 k s a n r

abbrev pub HaltsOne : {S A : Type 0} → Limits → Enclosing → (S → ℕ → Tag → Bool → Reading S) → (S → A)
    → (A → ℕ → Tag → Bool → ℕ → List ℕ → Fault → Type 0) → (ℕ → S → Type 0) → Fault → Type 0
HaltsOne {S} l i one view Behind Ok f =
    (number : ℕ) (s0 : S) (k : ℕ) (s : List ℕ) (t : Tag) (form : Bool) (j : ℕ) (u : List ℕ) → Ok number s0
    → Stands l i k s t form j u → Behind (view s0) k t form j u f → run (one s0 k t form) j u ≡ Halted f

pub members_halt : {S A : Type 0} (one : S → ℕ → Tag → Bool → Reading S) (view : S → A)
    (Stand : A → ℕ → List ℕ → A → ℕ → List ℕ → Type 0) (Behind : A → ℕ → Tag → Bool → ℕ → List ℕ → Fault → Type 0)
    (Ok : ℕ → S → Type 0) (l : Limits) (i : Enclosing) (f : Fault)
    → GivesOne l i one view Stand Ok → HaltsOne l i one view Behind Ok f
    → (m fuel number : ℕ) (s0 : S) (k : ℕ) (s : List ℕ) → k ≤ l.octets → l.octets < fuel + k → Ok number s0
    → After Stand (λ a k' s'. StopsHere l i (Behind a) k' s' f) m (view s0) k s
    → run (each_member one fuel l i s0) k s ≡ Halted f
unfolding each_member After
members_halt one view Stand Behind Ok l i f gv hl m zero number s0 k s lo hi ok h = absurd (omega arith)
members_halt one view Stand Behind Ok l i f gv hl zero (suc fuel) number s0 k s lo hi ok h = ⊎_elim
    (λ a. halt_bind (next_tag l i) _ k s f (tag_halts l i k s f a))
    (λ a.
    run_bind (next_tag l i) _ k s (ElementStands k a.0 a.1) a.2 a.3 (stands_run l i k s a.0 a.1 a.2 a.3 a.4)
    ∙ halt_bind _ _ a.2 a.3 f (hl number s0 k s a.0 a.1 a.2 a.3 ok a.4 a.5))
    h
members_halt one view Stand Behind Ok l i f gv hl (suc m) (suc fuel) number s0 k s lo hi ok h =
    let w = gv number s0 k s h.0 h.1 h.2 ok h.3 in
    let lim : k + h.1 ≤ l.octets = w.limit in
    let lon : 0 < h.1 = w.longer in
    run_bind (next_tag l i) _ k s (ElementStands k w.tag w.form) w.behind w.rest
    (stands_run l i k s w.tag w.form w.behind w.rest w.stands)
    ∙ run_bind _ _ w.behind w.rest w.value (k + h.1) h.2 w.takes
    ∙ members_halt one view Stand Behind Ok l i f gv hl m fuel (suc number) w.value (k + h.1) h.2 (omega arith)
    (omega arith) w.ok
    (subst (λ a. After Stand (λ a' k' s'. StopsHere l i (Behind a') k' s' f) m a (k + h.1) h.2) (sym w.viewed) h.4)

-- the members are taken, and this holds at their end
pub record EndedSo {S A : Type 0} (o : Outcome (Ended S)) (view : S → A) (Ok : ℕ → S → Type 0) (number : ℕ)
    (At : A → ℕ → Type 0) : Type 0 where
  pub all : S
  pub at : ℕ
  pub place : ℕ
  pub rest : List ℕ
  pub is : o ≡ Took (record { all = all; at = at }) place rest
  pub ok : Ok number all
  pub holds : At (view all) at

pub members_ended : {S A : Type 0} (one : S → ℕ → Tag → Bool → Reading S) (view : S → A)
    (Stand : A → ℕ → List ℕ → A → ℕ → List ℕ → Type 0) (Ok : ℕ → S → Type 0) (Then : A → ℕ → List ℕ → Type 0)
    (At : A → ℕ → Type 0) (l : Limits) (i : Enclosing)
    → GivesOne l i one view Stand Ok → ((a : A) (k : ℕ) (s : List ℕ) → Then a k s → EndsHere l i k s × At a k)
    → (m fuel number : ℕ) (s0 : S) (k : ℕ) (s : List ℕ) → k ≤ l.octets → l.octets < fuel + k → Ok number s0
    → After Stand Then m (view s0) k s
    → EndedSo (run (each_member one fuel l i s0) k s) view Ok (m + number) At
unfolding each_member After
members_ended one view Stand Ok Then At l i gv th m zero number s0 k s lo hi ok h = absurd (omega arith)
members_ended one view Stand Ok Then At l i gv th zero (suc fuel) number s0 k s lo hi ok h =
    let t = th (view s0) k s h in
    let e = ends_run l i k s t.0 in
    let z : number ≡ 0 + number = omega arith in
    record {
      all = s0;
      at = k;
      place = e.0;
      rest = e.1;
      is = run_bind (next_tag l i) _ k s (ContainerEnds k) e.0 e.1 e.2 ∙ done_on _ e.0 e.1;
      ok = subst (λ v. Ok v s0) z ok;
      holds = t.1;
    }
members_ended one view Stand Ok Then At l i gv th (suc m) (suc fuel) number s0 k s lo hi ok h =
    let w = gv number s0 k s h.0 h.1 h.2 ok h.3 in
    let lim : k + h.1 ≤ l.octets = w.limit in
    let lon : 0 < h.1 = w.longer in
    let z = members_ended one view Stand Ok Then At l i gv th m fuel (suc number) w.value (k + h.1) h.2 (omega arith)
    (omega arith) w.ok (subst (λ a. After Stand Then m a (k + h.1) h.2) (sym w.viewed) h.4) in
    let m' : m + suc number ≡ suc m + number = omega arith in
    record {
      all = z.all;
      at = z.at;
      place = z.place;
      rest = z.rest;
      is =
          run_bind (next_tag l i) _ k s (ElementStands k w.tag w.form) w.behind w.rest
          (stands_run l i k s w.tag w.form w.behind w.rest w.stands)
          ∙ run_bind _ _ w.behind w.rest w.value (k + h.1) h.2 w.takes ∙ z.is;
      ok = subst (λ v. Ok v z.all) m' z.ok;
      holds = z.holds;
    }

-- containers

pub container_halts : {A : Type 0} (l : Limits) (c : Enclosing) (p : ℕ) (form : Bool) (body : Enclosing → Reading A)
    (k : ℕ) (s : List ℕ) (f : Fault)
    → run (in_container l c p form body) k s ≡ Halted f
    → StopsInForm l c p form k s f
    ⊎ ((i : Enclosing) × (j : ℕ) × (u : List ℕ) × Opens l c form k s i j u × (k ≤ j) × (run (body i) j u ≡ Halted f))
unfolding in_container run
container_halts l c p form body k s f h = ⊎_elim
    (λ a. inl (inl a))
    (λ a. ⊎_elim
    (λ b. inl (inr (a.0, length_stops l c.nearest_end p k s f b)))
    (λ b. inr (
      entered c b.1 b.0,
      b.1,
      b.2,
      (a.0, b.0, form_stands l c.nearest_end p k s b.0 b.1 b.2 b.3, refl),
      no_less (read_length l c.nearest_end p) k s b.0 b.1 b.2 b.3,
      b.4,
    ))
    (halted_bind (read_length l c.nearest_end p) (λ x. Where (λ k'. body (entered c k' x))) k s f a.1))
    (halted_require _ _ _ k s f h)

pub container_takes : {A : Type 0} (l : Limits) (c : Enclosing) (p : ℕ) (form : Bool) (body : Enclosing → Reading A)
    (k : ℕ) (s : List ℕ) (a : A) (q : ℕ) (r : List ℕ)
    → run (in_container l c p form body) k s ≡ Took a q r
    → (i : Enclosing) × (j : ℕ) × (u : List ℕ) × Opens l c form k s i j u × (k ≤ j) × (run (body i) j u ≡ Took a q r)
unfolding in_container
container_takes l c p form body k s a q r h =
    let x = took_require _ _ _ _ _ _ _ _ h in
    let y = took_bind _ _ _ _ _ _ _ x.1 in (
      entered c y.place y.value,
      y.place,
      y.rest,
      (x.0, y.value, form_stands l c.nearest_end p k s y.value y.place y.rest y.first, refl),
      no_less (read_length l c.nearest_end p) k s y.value y.place y.rest y.first,
      took_where _ _ _ _ _ _ y.next_tag,
    )

pub form_halts : {A : Type 0} (l : Limits) (c : Enclosing) (p : ℕ) (form : Bool) (body : Enclosing → Reading A) (k : ℕ)
    (s : List ℕ) (f : Fault)
    → StopsInForm l c p form k s f → run (in_container l c p form body) k s ≡ Halted f
unfolding in_container
form_halts l c p form body k s f (inl a) = require_off _ _ _ k s f a.0 a.1
form_halts l c p form body k s f (inr a) =
    require_on _ _ _ k s a.0
    ∙ halt_bind (read_length l c.nearest_end p) _ k s f (length_halts l c.nearest_end p k s f a.1)

pub opened_on : {A : Type 0} (l : Limits) (c : Enclosing) (p : ℕ) (form : Bool) (body : Enclosing → Reading A) (k : ℕ)
    (s : List ℕ) (i : Enclosing) (j : ℕ) (u : List ℕ)
    → Opens l c form k s i j u → run (in_container l c p form body) k s ≡ run (body i) j u
unfolding in_container
opened_on l c p form body k s i j u h =
    require_on _ _ _ k s h.0
    ∙ run_bind (read_length l c.nearest_end p) _ k s h.1 j u (form_run l c.nearest_end p k s h.1 j u h.2)
    ∙ where_on _ j u
    ∙ ap (λ w. run (body w) j u) (sym h.3)
