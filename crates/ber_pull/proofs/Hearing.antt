-- How the answers of calls are put together: one after another, tests, single octets.
use Rattle.std.proofs.Common.{◌≡◌, ℕ, zero, suc, ◌+◌, ◌≤◌, Bool, true, false, not, List, [], ◌∷◌, ◌++◌, length, take, get_or, Option, Some, None, Result, Err, refl, sym, ◌∙◌, ap, subst, arith, append_assoc, append-nil}
use Rattle.std.proofs.lemmas.List.{length-append}
use Rattle.std.specs.Io.KnownBytes.{Consumes, IsAtEnd, Keeps}
use Rattle.tlv_core.specs.declared.fault.Fault.{Fault}
use Rattle.tlv_core.specs.declared.fault.ReadError.{ReadError}
use Rattle.tlv_core.specs.declared.fault.ReadError.TheVariants as errors
use Rattle.tlv_core.specs.declared.reason.Reason.TheVariants.{Truncated}
use Rattle.x690.specs.Points.{fault}
use Rattle.x690.specs.Reading.{Reading, Done, Fail, Where, Ask, ◌>>=◌, require, choose, run}
use Rattle.x690.specs.Reads.{Heard, Said, Refused, ReadFailed, NoMemory, Reads}
use Rattle.tlv_core.specs.declared.source.Source.{Ghosts}
use Rattle.ber_pull.specs.Hears.{Gives, Hears, TakesFrom, heard, heard_error}
use Rattle.ber_pull.specs.Standing.{failure}
use Rattle.ber_pull.specs.View.{answered}
use Rattle.ber_pull.specs.declared.pull.Pull.{Pull}
use Rattle.ber_pull.specs.declared.state.Halted.{Halted}
use Rattle.x690.proofs.Needs.{needs_first, needs_taken, needs_then, none_there}
use Rattle.x690.proofs.Runs.{run_bind, halt_bind, taken}

-- what two calls take, one after the other

pub takes_both : (k j i : ℕ) (s t u : List ℕ) → TakesFrom k s j t → TakesFrom j t i u → TakesFrom k s i u
takes_both k j i s t u x y =
    let n = length-append x.0 y.0 in let e : j ≡ k + length x.0 = x.2 in let e' : i ≡ j + length y.0 = y.2 in
    (x.0 ++ y.0, x.1 ∙ ap (λ w. x.0 ++ w) y.1 ∙ sym (append_assoc x.0 y.0 u), omega arith)

takes_none : (k : ℕ) (s : List ℕ) → TakesFrom k s k s
takes_none k s = ([], refl, omega arith)

-- answers where the octets are told

reads_then : {A B : Type 0} (p : Reading A) (f : A → Reading B) (a : A) (h : Heard B) (k j i : ℕ) (s u v : List ℕ)
    → Reads p k s (Said a) j u → Reads (f a) j u h i v → Reads (p >>= f) k s h i v
unfolding Reads
reads_then p f a (Said b) k j i s u v x y = run_bind p f k s a j u x ∙ y
reads_then p f a (Refused g) k j i s u v x y = run_bind p f k s a j u x ∙ y
reads_then p f a (ReadFailed at) k j i s u v x y =
    let t = taken p k s a j u x in
    let z = length-append t.octets y.0 in
    let e : at ≡ j + length y.0 = y.2 in
    let e' : j ≡ k + length t.octets = t.place in (
      t.octets ++ y.0,
      t.is ∙ ap (λ w. t.octets ++ w) y.1 ∙ sym (append_assoc t.octets y.0 v),
      omega arith,
      run_bind p f k (t.octets ++ y.0) a j y.0 (t.any_rest y.0) ∙ y.3,
    )
reads_then p f a NoMemory k j i s u v x y =
    let t = taken p k s a j u x in (
      t.octets ++ y.0,
      t.is ∙ ap (λ w. t.octets ++ w) y.1 ∙ sym (append_assoc t.octets y.0 v),
      needs_then p f a k j t.octets y.0 t.any_rest t.place y.2,
    )

reads_error : {A B : Type 0} (p : Reading A) (f : A → Reading B) (e : ReadError) (k i : ℕ) (s v : List ℕ)
    → Reads p k s (heard_error e) i v → Reads (p >>= f) k s (heard_error e) i v
unfolding Reads
reads_error p f (errors.Fault g) k i s v x = halt_bind p f k s g x
reads_error p f (errors.Read at) k i s v x = (x.0, x.1, x.2, halt_bind p f k x.0 (fault at Truncated) x.3)
reads_error p f errors.Memory k i s v x = (x.0, x.1, needs_first p f k x.0 x.2)

reads_where : {A : Type 0} (f : ℕ → Reading A) (h : Heard A) (k i : ℕ) (s v : List ℕ) → Reads (f k) k s h i v
    → Reads (Where f) k s h i v
unfolding Reads run
reads_where f (Said a) k i s v x = x
reads_where f (Refused g) k i s v x = x
reads_where f (ReadFailed at) k i s v x = x
reads_where f NoMemory k i s v x = x

-- an error gives no value
pub gives_error : {A : Type 0} (p : Reading A) (e : ReadError) (k i : ℕ) → Gives p k (heard_error e) i
gives_error p (errors.Fault f) k i = tt
gives_error p (errors.Read at) k i = tt
gives_error p errors.Memory k i = tt

-- a value was given for some octets, told or not
pub hears_given : {A : Type 0} (p : Reading A) (a : A) (k i : ℕ) (s u : Option (List ℕ)) → Hears p k s (Said a) i u
    → Gives p k (Said a) i
unfolding Hears Reads
hears_given p a k i None u x = x
hears_given p a k i (Some s) None x = absurd x
hears_given p a k i (Some s) (Some u) x =
    let t = taken p k s a i u x.1 in
    (t.octets, t.place, ap (λ w. run p k w) (sym (append-nil t.octets)) ∙ t.any_rest [])

gives_then : {A B : Type 0} (p : Reading A) (f : A → Reading B) (a : A) (h : Heard B) (k j i : ℕ) → Gives p k (Said a) j
    → Gives (f a) j h i → Gives (p >>= f) k h i
gives_then p f a (Said b) k j i x y =
    let t = taken p k x.0 a j [] x.2 in
    let n = length-append x.0 y.0 in
    let e : j ≡ k + length x.0 = x.1 in
    let e' : i ≡ j + length y.0 = y.1 in
    let w : t.octets ≡ x.0 = sym (append-nil t.octets) ∙ sym t.is in (
      x.0 ++ y.0,
      omega arith,
      run_bind p f k (x.0 ++ y.0) a j y.0 (ap (λ z. run p k (z ++ y.0)) (sym w) ∙ t.any_rest y.0) ∙ y.2,
    )
gives_then p f a (Refused g) k j i x y = tt
gives_then p f a (ReadFailed at) k j i x y = tt
gives_then p f a NoMemory k j i x y = tt

-- what the next call answered, from octets told or not
hears_gives : {A : Type 0} (p : Reading A) (h : Heard A) (k i : ℕ) (s u : Option (List ℕ)) → Hears p k s h i u
    → Gives p k h i
hears_gives p (Said a) k i s u x = hears_given p a k i s u x
hears_gives p (Refused g) k i s u x = tt
hears_gives p (ReadFailed at) k i s u x = tt
hears_gives p NoMemory k i s u x = tt

-- One call gave a value, and the next one goes on from there.
pub hears_then : {A B : Type 0} (p : Reading A) (f : A → Reading B) (a : A) (h : Heard B) (k j i : ℕ)
    (s t u : Option (List ℕ))
    → Hears p k s (Said a) j t → Hears (f a) j t h i u → Hears (p >>= f) k s h i u
unfolding Hears
hears_then p f a h k j i None t u x y = gives_then p f a h k j i x (hears_gives (f a) h j i t u y)
hears_then p f a h k j i (Some s) None u x y = absurd x
hears_then p f a h k j i (Some s) (Some t) None x y = absurd y
hears_then p f a h k j i (Some s) (Some t) (Some u) x y =
    (takes_both k j i s t u x.0 y.0, reads_then p f a h k j i s t u x.1 y.1)

-- An error of the first call is the answer of the two.
pub hears_error : {A B : Type 0} (p : Reading A) (f : A → Reading B) (e : ReadError) (k i : ℕ) (s u : Option (List ℕ))
    → Hears p k s (heard_error e) i u → Hears (p >>= f) k s (heard_error e) i u
unfolding Hears
hears_error p f e k i None u x = gives_error (p >>= f) e k i
hears_error p f e k i (Some s) None x = absurd x
hears_error p f e k i (Some s) (Some u) x = (x.0, reads_error p f e k i s u x.1)

-- an error is heard as itself, whatever the value would be
pub hears_err : {T A : Type 0} (p : Reading A) (g : T → A) (r : Result T ReadError) (e : ReadError) (k i : ℕ)
    (s u : Option (List ℕ))
    → r ≡ Err e → Hears p k s (heard_error e) i u → Hears p k s (heard g r) i u
hears_err p g r e k i s u h x = subst (λ w. Hears p k s (heard g w) i u) (sym h) x

gives_where : {A : Type 0} (f : ℕ → Reading A) (h : Heard A) (k i : ℕ) → Gives (f k) k h i → Gives (Where f) k h i
unfolding run
gives_where f (Said a) k i x = x
gives_where f (Refused g) k i x = tt
gives_where f (ReadFailed at) k i x = tt
gives_where f NoMemory k i x = tt

pub hears_where : {A : Type 0} (f : ℕ → Reading A) (h : Heard A) (k i : ℕ) (s u : Option (List ℕ))
    → Hears (f k) k s h i u → Hears (Where f) k s h i u
unfolding Hears
hears_where f h k i None u x = gives_where f h k i x
hears_where f h k i (Some s) None x = absurd x
hears_where f h k i (Some s) (Some u) x = (x.0, reads_where f h k i s u x.1)

-- a test that holds goes on, one that doesn't is the fault
pub hears_on : {A : Type 0} (b : Bool) (f : Fault) (p : Reading A) (h : Heard A) (k i : ℕ) (s u : Option (List ℕ))
    → b ≡ true → Hears p k s h i u → Hears (require b f p) k s h i u
unfolding require
hears_on true f p h k i s u e x = x
hears_on false f p h k i s u e x = cc

pub hears_fail : (A : Type 0) (f : Fault) (k : ℕ) (s : Option (List ℕ)) → Hears {A = A} (Fail f) k s (Refused f) k s
unfolding Hears Reads run
hears_fail A f k None = tt
hears_fail A f k (Some s) = (takes_none k s, refl)

pub hears_off : {A : Type 0} (b : Bool) (f : Fault) (p : Reading A) (k : ℕ) (s : Option (List ℕ)) → b ≡ false
    → Hears (require b f p) k s (Refused f) k s
unfolding require
hears_off true f p k s e = cc
hears_off {A} false f p k s e = hears_fail A f k s

pub hears_first : {A : Type 0} (b : Bool) (p q : Reading A) (h : Heard A) (k i : ℕ) (s u : Option (List ℕ)) → b ≡ true
    → Hears p k s h i u → Hears (choose b p q) k s h i u
unfolding choose
hears_first true p q h k i s u e x = x
hears_first false p q h k i s u e x = cc

pub hears_second : {A : Type 0} (b : Bool) (p q : Reading A) (h : Heard A) (k i : ℕ) (s u : Option (List ℕ)) → b ≡ false
    → Hears q k s h i u → Hears (choose b p q) k s h i u
unfolding choose
hears_second true p q h k i s u e x = cc
hears_second false p q h k i s u e x = x

pub hears_done : {A : Type 0} (a : A) (k : ℕ) (s : Option (List ℕ)) → Hears (Done a) k s (Said a) k s
unfolding Hears Reads run
hears_done a k None = ([], (let e : k ≡ k + 0 = omega arith in e), refl)
hears_done a k (Some s) = (takes_none k s, refl)

pub hears_done_as : {A : Type 0} (a b : A) (k : ℕ) (s : Option (List ℕ)) → b ≡ a → Hears (Done a) k s (Said b) k s
hears_done_as a b k s e = subst (λ w. Hears (Done a) k s (Said w) k s) (sym e) (hears_done a k s)

pub hears_said : {A : Type 0} (p : Reading A) (a b : A) (k i : ℕ) (s u : Option (List ℕ)) → a ≡ b
    → Hears p k s (Said a) i u → Hears p k s (Said b) i u
hears_said p a b k i s u e x = subst (λ w. Hears p k s (Said w) i u) e x

pub no_true : (b : Bool) → not b ≡ true → b ≡ false
no_true true h = cc
no_true false h = refl

pub no_false : (b : Bool) → not b ≡ false → b ≡ true
no_false true h = refl
no_false false h = cc

-- readings that give the same on all octets
reads_same : {A : Type 0} (p q : Reading A) (h : Heard A) (k i : ℕ) (s v : List ℕ)
    → ((k : ℕ) (s : List ℕ) → run p k s ≡ run q k s) → Reads p k s h i v → Reads q k s h i v
unfolding Reads
reads_same p q (Said a) k i s v e x = sym (e k s) ∙ x
reads_same p q (Refused g) k i s v e x = sym (e k s) ∙ x
reads_same p q (ReadFailed at) k i s v e x = (x.0, x.1, x.2, sym (e k x.0) ∙ x.3)
reads_same p q NoMemory k i s v e x = (x.0, x.1, λ some y more h. sym (e k some) ∙ x.2 some y more h)

gives_same : {A : Type 0} (p q : Reading A) (h : Heard A) (k i : ℕ) → ((k : ℕ) (s : List ℕ) → run p k s ≡ run q k s)
    → Gives p k h i → Gives q k h i
gives_same p q (Said a) k i e x = (x.0, x.1, sym (e k x.0) ∙ x.2)
gives_same p q (Refused g) k i e x = tt
gives_same p q (ReadFailed at) k i e x = tt
gives_same p q NoMemory k i e x = tt

pub hears_same : {A : Type 0} (p q : Reading A) (h : Heard A) (k i : ℕ) (s u : Option (List ℕ))
    → ((k : ℕ) (s : List ℕ) → run p k s ≡ run q k s) → Hears p k s h i u → Hears q k s h i u
unfolding Hears
hears_same p q h k i None u e x = gives_same p q h k i e x
hears_same p q h k i (Some s) None e x = absurd x
hears_same p q h k i (Some s) (Some u) e x = (x.0, reads_same p q h k i s u e x.1)

-- a fault that the call itself found, nothing more being taken
pub hears_stop : {A : Type 0} (p : Reading A) (f : Fault) (e : ReadError) (k i i' : ℕ) (s u u' : Option (List ℕ))
    → e ≡ errors.Fault f → i' ≡ i → u' ≡ u → Hears p k s (Refused f) i u → Hears p k s (heard_error e) i' u'
hears_stop p f e k i i' s u u' x y z h =
    subst (λ w. Hears p k s (heard_error w) i' u') (sym x)
    (subst (λ w. Hears p k s (Refused f) w u') (sym y) (subst (λ w. Hears p k s (Refused f) i w) (sym z) h))

-- the same place, said in another way
pub hears_at : {A : Type 0} (p : Reading A) (h : Heard A) (k i i' : ℕ) (s u u' : Option (List ℕ)) → i' ≡ i → u' ≡ u
    → Hears p k s h i u → Hears p k s h i' u'
hears_at p h k i i' s u u' y z x = subst (λ w. Hears p k s h w u') (sym y) (subst (λ w. Hears p k s h i w) (sym z) x)

-- the same reading, said in another way
pub hears_as : {A : Type 0} (p q : Reading A) (h : Heard A) (k i : ℕ) (s u : Option (List ℕ)) → p ≡ q
    → Hears p k s h i u → Hears q k s h i u
hears_as p q h k i s u e x = subst (λ w. Hears w k s h i u) e x

-- Single octets: it came, the input has ended, or the source failed.

pub hears_octet : (x k : ℕ) (s t : Option (List ℕ)) → Consumes s t (x ∷ []) → Hears (Ask Done) k s (Said x) (k + 1) t
unfolding Hears Reads run
hears_octet x k None t h = (x ∷ [], refl, refl)
hears_octet x k (Some s) None h = absurd h
hears_octet x k (Some s) (Some t) h = ((x ∷ [], h, refl), ap (λ w. run (Ask Done) k w) h)

pub hears_ended : {A : Type 0} (f : ℕ → Reading A) (k : ℕ) (s t : Option (List ℕ)) → Consumes s t [] → IsAtEnd t
    → Hears (Ask f) k s (Refused (fault k Truncated)) k t
unfolding Hears Reads run
hears_ended f k None t h e = tt
hears_ended f k (Some s) None h e = absurd h
hears_ended f k (Some s) (Some t) h e = (([], h, omega arith), ap (λ w. run (Ask f) k w) (h ∙ e))

hears_failed : {A : Type 0} (f : ℕ → Reading A) (k : ℕ) (s t : Option (List ℕ)) → Keeps s t
    → Hears (Ask f) k s (ReadFailed k) k t
unfolding Hears Reads run
hears_failed f k None t h = tt
hears_failed f k (Some s) None h = absurd h
hears_failed f k (Some s) (Some t) h = (([], sym h, omega arith), ([], sym h, omega arith, refl))

pub hears_failed_at : {A : Type 0} (f : ℕ → Reading A) (at k i : ℕ) (s t : Option (List ℕ)) → at ≡ k → i ≡ k → Keeps s t
    → Hears (Ask f) k s (ReadFailed at) i t
hears_failed_at f at k i s t x y h =
    subst (λ w. Hears (Ask f) k s (ReadFailed w) i t) (sym x)
    (subst (λ w. Hears (Ask f) k s (ReadFailed k) w t) (sym y) (hears_failed f k s t h))

hears_nothing : {A : Type 0} (p : Reading A) (k : ℕ) (s : Option (List ℕ)) → Hears p k s NoMemory k s
unfolding Hears Reads
hears_nothing p k None = tt
hears_nothing p k (Some s) = (takes_none k s, ([], refl, λ some x more e. absurd (none_there some x more e)))

-- memory ran out before an octet was taken
pub hears_memory : {A : Type 0} (p : Reading A) (e : ReadError) (k k' : ℕ) (s s' : Option (List ℕ)) → e ≡ errors.Memory
    → k' ≡ k → s' ≡ s → Hears p k s (heard_error e) k' s'
hears_memory p e k k' s s' x y z =
    subst (λ w. Hears p k s (heard_error w) k' s') (sym x) (hears_at p NoMemory k k k' s s s' y z (hears_nothing p k s))

only_taken : {A : Type 0} (p : Reading A) (a : A) (k j : ℕ) (s u : Option (List ℕ)) → Hears p k s (Said a) j u
    → Hears p k s NoMemory j u
unfolding Hears Reads
only_taken p a k j None u x = tt
only_taken p a k j (Some s) None x = absurd x
only_taken p a k j (Some s) (Some u) x =
    let t = taken p k s a j u x.1 in
    (x.0, (t.octets, t.is, needs_taken p k t.octets a j (ap (run p k) (sym (append-nil t.octets)) ∙ t.any_rest [])))

-- a value was given, and then memory ran out
pub hears_then_memory : {A : Type 0} (p : Reading A) (a : A) (e : ReadError) (k j j' : ℕ) (s u u' : Option (List ℕ))
    → e ≡ errors.Memory → j' ≡ j → u' ≡ u → Hears p k s (Said a) j u → Hears p k s (heard_error e) j' u'
hears_then_memory p a e k j j' s u u' x y z w =
    subst (λ v. Hears p k s (heard_error v) j' u') (sym x)
    (hears_at p NoMemory k j j' s u u' y z (only_taken p a k j s u w))

-- the room for one octet, when it came
pub one_octet : (n : ℕ) (room : List ℕ) → n ≤ length room → length room ≡ 1 → (n ≡ 0 → ⊥)
    → take n room ≡ get_or room 0 0 ∷ []
one_octet zero room h l z = absurd (z refl)
one_octet (suc n) [] h l z = absurd (omega arith)
one_octet (suc zero) (x ∷ []) h l z = refl
one_octet (suc (suc n)) (x ∷ []) h l z = absurd (omega arith)
one_octet (suc n) (x ∷ y ∷ room) h l z = absurd (omega arith)

pub no_octet : (n : ℕ) (s t : Option (List ℕ)) (room : List ℕ) → n ≡ 0 → Consumes s t (take n room) → Consumes s t []
no_octet n s t room e h = subst (λ k. Consumes s t (take k room)) e h

-- an error that is kept in the state is heard as itself, whatever the value would be
pub hears_halted : {R : Type 0} {s : Ghosts R} {T A : Type 0} (new : Pull R s) (p : Reading A) (g : T → A)
    (r : Result T Halted) (h : Halted) (k i : ℕ) (o u : Option (List ℕ))
    → r ≡ Err h → Hears p k o (heard_error (failure new.state)) i u → Hears p k o (heard g (answered new r)) i u
hears_halted new p g r h k i o u e x = subst (λ w. Hears p k o (heard g (answered new w)) i u) (sym e) x

-- the same error, said in another way
pub hears_error_as : {A : Type 0} (p : Reading A) (e e' : ReadError) (k i : ℕ) (s u : Option (List ℕ)) → e ≡ e'
    → Hears p k s (heard_error e') i u → Hears p k s (heard_error e) i u
hears_error_as p e e' k i s u h x = subst (λ w. Hears p k s (heard_error w) i u) (sym h) x
