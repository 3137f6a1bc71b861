-- Running readings: one after another, tests, and what more octets change.
use Rattle.std.proofs.Common.{◌≡◌, ℕ, ◌+◌, ◌≤◌, ◌⊎◌, inl, inr, ⊎_elim, Bool, true, false, List, [], ◌∷◌, ◌++◌, length, refl, sym, ◌∙◌, ap, ap₂, arith}
use Rattle.tlv_core.specs.declared.fault.Fault.{Fault}
use Rattle.tlv_core.specs.declared.reason.Reason.TheVariants.{Truncated}
use Rattle.x690.specs.Points.{fault}
use Rattle.x690.specs.Reading.{Ask, Done, Fail, Halted, Reading, Took, Where, choose, require, run, ◌>>=◌}

pub record Bound {A B : Type 0} (p : Reading A) (f : A → Reading B) (k : ℕ) (s : List ℕ) (b : B) (q : ℕ)
    (r : List ℕ) : Type 0 where
  pub value : A
  pub place : ℕ
  pub rest : List ℕ
  pub first : run p k s ≡ Took value place rest
  pub next_tag : run (f value) place rest ≡ Took b q r

pub took_bind : {A B : Type 0} (p : Reading A) (f : A → Reading B) (k : ℕ) (s : List ℕ) (b : B) (q : ℕ) (r : List ℕ)
    → run (p >>= f) k s ≡ Took b q r → Bound p f k s b q r
unfolding run ◌>>=◌
took_bind (Done a) f k s b q r h = record { value = a; place = k; rest = s; first = refl; next_tag = h }
took_bind (Fail g) f k s b q r h = cc
took_bind (Where g) f k s b q r h =
    let x = took_bind (g k) f k s b q r h in
    record { value = x.value; place = x.place; rest = x.rest; first = x.first; next_tag = x.next_tag }
took_bind (Ask g) f k [] b q r h = cc
took_bind (Ask g) f k (x ∷ s) b q r h =
    let y = took_bind (g x) f (k + 1) s b q r h in
    record { value = y.value; place = y.place; rest = y.rest; first = y.first; next_tag = y.next_tag }

pub run_bind : {A B : Type 0} (p : Reading A) (f : A → Reading B) (k : ℕ) (s : List ℕ) (a : A) (q : ℕ) (r : List ℕ)
    → run p k s ≡ Took a q r → run (p >>= f) k s ≡ run (f a) q r
unfolding run ◌>>=◌
run_bind (Done b) f k s a q r h = cc
run_bind (Fail g) f k s a q r h = cc
run_bind (Where g) f k s a q r h = run_bind (g k) f k s a q r h
run_bind (Ask g) f k [] a q r h = cc
run_bind (Ask g) f k (x ∷ s) a q r h = run_bind (g x) f (k + 1) s a q r h

pub halt_bind : {A B : Type 0} (p : Reading A) (f : A → Reading B) (k : ℕ) (s : List ℕ) (g : Fault)
    → run p k s ≡ Halted g → run (p >>= f) k s ≡ Halted g
unfolding run ◌>>=◌
halt_bind (Done b) f k s g h = cc
halt_bind (Fail e) f k s g h = cc
halt_bind (Where e) f k s g h = halt_bind (e k) f k s g h
halt_bind (Ask e) f k [] g h = cc
halt_bind (Ask e) f k (x ∷ s) g h = halt_bind (e x) f (k + 1) s g h

pub took_require : {A : Type 0} (b : Bool) (f : Fault) (p : Reading A) (k : ℕ) (s : List ℕ) (a : A) (q : ℕ) (r : List ℕ)
    → run (require b f p) k s ≡ Took a q r → (b ≡ true) × (run p k s ≡ Took a q r)
unfolding run require
took_require true f p k s a q r h = (refl, h)
took_require false f p k s a q r h = cc

pub took_choose : {A : Type 0} (b : Bool) (p p' : Reading A) (k : ℕ) (s : List ℕ) (a : A) (q : ℕ) (r : List ℕ)
    → run (choose b p p') k s ≡ Took a q r
    → ((b ≡ true) × (run p k s ≡ Took a q r)) ⊎ ((b ≡ false) × (run p' k s ≡ Took a q r))
unfolding run choose
took_choose true p p' k s a q r h = inl (refl, h)
took_choose false p p' k s a q r h = inr (refl, h)

pub took_where : {A : Type 0} (f : ℕ → Reading A) (k : ℕ) (s : List ℕ) (a : A) (q : ℕ) (r : List ℕ)
    → run (Where f) k s ≡ Took a q r → run (f k) k s ≡ Took a q r
unfolding run
took_where f k s a q r h = h

pub took_done : {A : Type 0} (x : A) (k : ℕ) (s : List ℕ) (a : A) (q : ℕ) (r : List ℕ) → run (Done x) k s ≡ Took a q r
    → (x ≡ a) × (k ≡ q) × (s ≡ r)
unfolding run
took_done x k s a q r h = (cc, cc, cc)

pub took_fail : {A : Type 0} (f : Fault) (k : ℕ) (s : List ℕ) (a : A) (q : ℕ) (r : List ℕ)
    → run (Fail f) k s ≡ Took a q r → ⊥
unfolding run
took_fail f k s a q r h = cc

-- More octets change nothing of a value that was taken,
pub took_more : {A : Type 0} (p : Reading A) (k : ℕ) (s x : List ℕ) (a : A) (q : ℕ) (r : List ℕ)
    → run p k s ≡ Took a q r → run p k (s ++ x) ≡ Took a q (r ++ x)
unfolding run
took_more (Done b) k s x a q r h = let e : b ≡ a = cc in let e' : k ≡ q = cc in let e'' : s ≡ r = cc in cc
took_more (Fail g) k s x a q r h = cc
took_more (Where g) k s x a q r h = took_more (g k) k s x a q r h
took_more (Ask g) k [] x a q r h = cc
took_more (Ask g) k (y ∷ s) x a q r h = took_more (g y) (k + 1) s x a q r h

-- nor of a fault, unless it is that the octets end, and then it stands at their end.
pub halt_more : {A : Type 0} (p : Reading A) (k : ℕ) (s : List ℕ) (f : Fault) → run p k s ≡ Halted f
    → (f ≡ fault (k + length s) Truncated) ⊎ ((x : List ℕ) → run p k (s ++ x) ≡ Halted f)
unfolding run
halt_more (Done b) k s f h = cc
halt_more (Fail g) k s f h = inr (λ x. h)
halt_more (Where g) k s f h = halt_more (g k) k s f h
halt_more (Ask g) k [] f h =
    let e : k + 0 ≡ k = omega arith in
    inl (let e' : fault k Truncated ≡ f = cc in sym e' ∙ ap (λ n. fault n Truncated) (sym e))
halt_more (Ask g) k (y ∷ s) f h = ⊎_elim
    (λ e. let e' : k + 1 + length s ≡ k + length (y ∷ s) = omega arith in inl (e ∙ ap (λ n. fault n Truncated) e'))
    inr
    (halt_more (g y) (k + 1) s f h)

-- What was taken, and that what stands after it doesn't matter.
pub record Taken {A : Type 0} (p : Reading A) (k : ℕ) (s : List ℕ) (a : A) (q : ℕ) (r : List ℕ) : Type 0 where
  pub octets : List ℕ
  pub is : s ≡ octets ++ r
  pub place : q ≡ k + length octets
  pub any_rest : (y : List ℕ) → run p k (octets ++ y) ≡ Took a q y

pub taken : {A : Type 0} (p : Reading A) (k : ℕ) (s : List ℕ) (a : A) (q : ℕ) (r : List ℕ) → run p k s ≡ Took a q r
    → Taken p k s a q r
unfolding run
taken (Done b) k s a q r h =
    let e : k ≡ q = cc in let e' : b ≡ a = cc in
    record { octets = []; is = cc; place = omega arith; any_rest = λ y. ap₂ (λ v w. Took v w y) e' e }
taken (Fail g) k s a q r h = cc
taken (Where g) k s a q r h =
    let x = taken (g k) k s a q r h in record { octets = x.octets; is = x.is; place = x.place; any_rest = x.any_rest }
taken (Ask g) k [] a q r h = cc
taken (Ask g) k (y ∷ s) a q r h =
    let x = taken (g y) (k + 1) s a q r h in
    record {
      octets = y ∷ x.octets;
      is = ap (λ v. y ∷ v) x.is;
      place = let e = x.place in omega arith;
      any_rest = x.any_rest;
    }

-- readings that stop

abbrev pub HaltedBy : {A B : Type 0} → Reading A → (A → Reading B) → ℕ → List ℕ → Fault → Type 0
HaltedBy {A} p f k s g =
    (run p k s ≡ Halted g) ⊎ ((a : A) × (q : ℕ) × (r : List ℕ) × (run p k s ≡ Took a q r) × (run (f a) q r ≡ Halted g))

pub halted_bind : {A B : Type 0} (p : Reading A) (f : A → Reading B) (k : ℕ) (s : List ℕ) (g : Fault)
    → run (p >>= f) k s ≡ Halted g → HaltedBy p f k s g
unfolding run ◌>>=◌
halted_bind (Done a) f k s g h = inr (a, k, s, refl, h)
halted_bind (Fail e) f k s g h = inl (let x : e ≡ g = cc in ap Halted x)
halted_bind (Where e) f k s g h = halted_bind (e k) f k s g h
halted_bind (Ask e) f k [] g h = inl (let x : fault k Truncated ≡ g = cc in ap Halted x)
halted_bind (Ask e) f k (x ∷ s) g h = halted_bind (e x) f (k + 1) s g h

pub halted_require : {A : Type 0} (b : Bool) (g : Fault) (p : Reading A) (k : ℕ) (s : List ℕ) (f : Fault)
    → run (require b g p) k s ≡ Halted f → ((b ≡ false) × (f ≡ g)) ⊎ ((b ≡ true) × (run p k s ≡ Halted f))
unfolding run require
halted_require true g p k s f h = inr (refl, h)
halted_require false g p k s f h = inl (refl, cc)

pub halted_choose : {A : Type 0} (b : Bool) (p p' : Reading A) (k : ℕ) (s : List ℕ) (f : Fault)
    → run (choose b p p') k s ≡ Halted f
    → ((b ≡ true) × (run p k s ≡ Halted f)) ⊎ ((b ≡ false) × (run p' k s ≡ Halted f))
unfolding run choose
halted_choose true p p' k s f h = inl (refl, h)
halted_choose false p p' k s f h = inr (refl, h)

pub halted_done : {A : Type 0} (a : A) (k : ℕ) (s : List ℕ) (f : Fault) → run (Done a) k s ≡ Halted f → ⊥
unfolding run
halted_done a k s f h = cc

pub halted_fail : (A : Type 0) (g : Fault) (k : ℕ) (s : List ℕ) (f : Fault) → run {A = A} (Fail g) k s ≡ Halted f
    → f ≡ g
unfolding run
halted_fail A g k s f h = cc

pub no_less : {A : Type 0} (p : Reading A) (k : ℕ) (s : List ℕ) (a : A) (q : ℕ) (r : List ℕ) → run p k s ≡ Took a q r
    → k ≤ q
no_less p k s a q r h = let t = taken p k s a q r h in let e = t.place in omega arith

-- readings nest as they like
pub bind_assoc : {A B C : Type 0} (p : Reading A) (f : A → Reading B) (g : B → Reading C) (k : ℕ) (s : List ℕ)
    → run ((p >>= f) >>= g) k s ≡ run (p >>= λ a. f a >>= g) k s
unfolding run ◌>>=◌
bind_assoc (Done a) f g k s = refl
bind_assoc (Fail e) f g k s = refl
bind_assoc (Where h) f g k s = bind_assoc (h k) f g k s
bind_assoc (Ask h) f g k [] = refl
bind_assoc (Ask h) f g k (x ∷ s) = bind_assoc (h x) f g (k + 1) s

-- readings that go on alike
pub bind_same : {A B : Type 0} (p : Reading A) (f g : A → Reading B)
    → ((a : A) (k : ℕ) (s : List ℕ) → run (f a) k s ≡ run (g a) k s) → (k : ℕ) (s : List ℕ)
    → run (p >>= f) k s ≡ run (p >>= g) k s
unfolding run ◌>>=◌
bind_same (Done a) f g e k s = e a k s
bind_same (Fail x) f g e k s = refl
bind_same (Where h) f g e k s = bind_same (h k) f g e k s
bind_same (Ask h) f g e k [] = refl
bind_same (Ask h) f g e k (x ∷ s) = bind_same (h x) f g e (k + 1) s

pub bind_done : {A : Type 0} (p : Reading A) (k : ℕ) (s : List ℕ) → run (p >>= λ a. Done a) k s ≡ run p k s
unfolding run ◌>>=◌
bind_done (Done a) k s = refl
bind_done (Fail e) k s = refl
bind_done (Where h) k s = bind_done (h k) k s
bind_done (Ask h) k [] = refl
bind_done (Ask h) k (x ∷ s) = bind_done (h x) (k + 1) s
