-- Contents that come in pieces.
use Rattle.std.proofs.Common.{◌≡◌, ◌≤◌, ℕ, zero, suc, ◌+◌, ◌<◌, ⊎_elim, if◌then◌else◌, Bool, true, false, List, [], ◌∷◌, ◌++◌, length, take, take_all, take-take, Option, Some, None, refl, sym, ◌∙◌, ap, ap₂, subst, arith, append_assoc, append-nil}
use Rattle.std.proofs.Math.Seq.{take-append-add, take-append_seam}
use Rattle.std.proofs.lemmas.List.{length-append, take-append-le}
use Rattle.tlv_core.specs.declared.fault.Fault.{Fault}
use Rattle.std.specs.Io.KnownBytes.{Consumes, IsAtEnd, Keeps}
use Rattle.tlv_core.specs.declared.fault.ReadError.{ReadError}
use Rattle.tlv_core.specs.declared.fault.ReadError.TheVariants as errors
use Rattle.tlv_core.specs.declared.reason.Reason.TheVariants.{Truncated}
use Rattle.x690.specs.Points.{fault}
use Rattle.x690.specs.ReadHeaders.{next_octets}
use Rattle.x690.specs.Reading.{Ask, Done, Halted, Took, run, ◌>>=◌}
use Rattle.x690.specs.Reads.{Needs, NoMemory, ReadFailed, Reads, Refused, Said}
use Rattle.ber_pull.specs.Hears.{Hears, heard_error}
use Rattle.ber_pull.proofs.Hearing.{gives_error, hears_as, hears_done, hears_ended, hears_error, hears_failed_at, hears_then, takes_both}
use Rattle.x690.proofs.Needs.{cut_in_two}
use Rattle.x690.proofs.Runs.{halt_bind, run_bind}

pub octets_ended : (n k : ℕ) (s t : Option (List ℕ)) → 0 < n → Consumes s t [] → IsAtEnd t
    → Hears (next_octets n) k s (Refused (fault k Truncated)) k t
unfolding next_octets
octets_ended zero k s t h c e = absurd (omega arith)
octets_ended (suc n) k s t h c e = hears_ended _ k s t c e

pub octets_failed : (n at k i : ℕ) (s t : Option (List ℕ)) → 0 < n → at ≡ k → i ≡ k → Keeps s t
    → Hears (next_octets n) k s (ReadFailed at) i t
unfolding next_octets
octets_failed zero at k i s t h x y c = absurd (omega arith)
octets_failed (suc n) at k i s t h x y c = hears_failed_at _ at k i s t x y c

-- the octets that stand there are the next ones
octets_all : (n k : ℕ) (o r : List ℕ) → length o ≡ n → run (next_octets n) k (o ++ r) ≡ Took o (k + n) r
unfolding next_octets run ◌>>=◌
octets_all zero k [] r h = let e : k ≡ k + 0 = omega arith in ap (λ w. Took [] w r) e
octets_all zero k (x ∷ o) r h = absurd (omega arith)
octets_all (suc n) k [] r h = absurd (omega arith)
octets_all (suc n) k (x ∷ o) r h =
    let e : k + 1 + n ≡ k + suc n = omega arith in
    run_bind (next_octets n) (λ w. Done (x ∷ w)) (k + 1) (o ++ r) o (k + 1 + n) r
    (octets_all n (k + 1) o r (omega arith))
    ∙ ap (λ w. Took (x ∷ o) w r) e

-- a fault after some of them is a fault of all
halts_behind : (m n k j : ℕ) (o s : List ℕ) (f : Fault) → j ≡ k + length o → length o + m ≡ n
    → run (next_octets m) j s ≡ Halted f → run (next_octets n) k (o ++ s) ≡ Halted f
unfolding next_octets run ◌>>=◌
halts_behind m n k j [] s f p h x =
    let e : n ≡ m = omega arith in let e' : k ≡ j = omega arith in ap₂ (λ a b. run (next_octets a) b s) e e' ∙ x
halts_behind m zero k j (y ∷ o) s f p h x = absurd (omega arith)
halts_behind m (suc n) k j (y ∷ o) s f p h x =
    halt_bind (next_octets n) (λ w. Done (y ∷ w)) (k + 1) (o ++ s) f
    (halts_behind m n (k + 1) j o s f (omega arith) (omega arith) x)

-- some of them are too few
few_octets : (n k : ℕ) (some : List ℕ) → length some < n
    → run (next_octets n) k some ≡ Halted (fault (k + length some) Truncated)
unfolding next_octets run ◌>>=◌
few_octets zero k some few = absurd (omega arith)
few_octets (suc n) k [] few = let e : k ≡ k + 0 = omega arith in ap (λ w. Halted (fault w Truncated)) e
few_octets (suc n) k (x ∷ some) few =
    let e : k + 1 + length some ≡ k + length (x ∷ some) = omega arith in
    halt_bind (next_octets n) (λ w. Done (x ∷ w)) (k + 1) some (fault (k + 1 + length some) Truncated)
    (few_octets n (k + 1) some (omega arith))
    ∙ ap (λ w. Halted (fault w Truncated)) e

fewer : (octets some : List ℕ) (x : ℕ) (more : List ℕ) → octets ≡ some ++ (x ∷ more) → length some < length octets
fewer octets some x more e =
    let long : length octets ≡ length some + length (x ∷ more) = ap length e ∙ length-append some (x ∷ more) in
    omega (arith, long)

needs_octets : (n k : ℕ) (octets : List ℕ) → length octets ≤ n → Needs (next_octets n) k octets
needs_octets n k octets fit = λ some x more e. let few = fewer octets some x more e in few_octets n k some (omega arith)

-- what is asked for after some of them is asked for of all
needs_behind : (m n k j : ℕ) (o more : List ℕ) → j ≡ k + length o → length o + m ≡ n → Needs (next_octets m) j more
    → Needs (next_octets n) k (o ++ more)
needs_behind m n k j o more place all needs = λ some x rest e. ⊎_elim
    (λ h. let few = fewer o some x h.0 h.1 in few_octets n k some (omega (arith, few, all)))
    (λ h.
    let long : length some ≡ length o + length h.0 = ap length h.1 ∙ length-append o h.0 in
    let here : j + length h.0 ≡ k + length some = omega (arith, place, long) in
    ap (run (next_octets n) k) h.1
    ∙ halts_behind m n k j o h.0 (fault (j + length h.0) Truncated) place all (needs h.0 x rest h.2)
    ∙ ap (λ w. Halted (fault w Truncated)) here)
    (cut_in_two o more some x rest e)

-- an error after some of them is an error of all
octets_error : (m n k j i : ℕ) (e : ReadError) (o s v : List ℕ) → j ≡ k + length o → length o + m ≡ n
    → Reads (next_octets m) j s (heard_error e) i v → Reads (next_octets n) k (o ++ s) (heard_error e) i v
unfolding Reads
octets_error m n k j i (errors.Fault f) o s v p h x = halts_behind m n k j o s f p h x
octets_error m n k j i (errors.Read at) o s v p h x =
    let l = length-append o x.0 in let e : at ≡ j + length x.0 = x.2 in (
      o ++ x.0,
      ap (λ w. o ++ w) x.1 ∙ sym (append_assoc o x.0 v),
      omega arith,
      halts_behind m n k j o x.0 (fault at Truncated) p h x.3,
    )
octets_error m n k j i errors.Memory o s v p h x =
    (o ++ x.0, ap (λ w. o ++ w) x.1 ∙ sym (append_assoc o x.0 v), needs_behind m n k j o x.0 p h x.2)

pub contents_done : (n k j : ℕ) (o : List ℕ) (s t : Option (List ℕ)) → Consumes s t o → j ≡ k + length o → length o ≡ n
    → Hears (next_octets n) k s (Said o) j t
unfolding Hears Reads
contents_done n k j o None t c e h = (
  o,
  e,
  ap (λ w. run (next_octets n) k w) (sym (append-nil o))
      ∙ octets_all n k o [] h
      ∙ ap (λ w. Took o w []) (ap (λ w. k + w) (sym h) ∙ sym e),
)
contents_done n k j o (Some s) None c e h = absurd c
contents_done n k j o (Some s) (Some t) c e h = (
  (o, c, e),
  ap (λ w. run (next_octets n) k w) c
      ∙ octets_all n k o t h
      ∙ ap (λ w. Took o w t) (ap (λ w. k + w) (sym h) ∙ sym e),
)

pub contents_error : (m n k j i : ℕ) (e : ReadError) (o : List ℕ) (s t u : Option (List ℕ)) → Consumes s t o
    → j ≡ k + length o → length o + m ≡ n → Hears (next_octets m) j t (heard_error e) i u
    → Hears (next_octets n) k s (heard_error e) i u
unfolding Hears
contents_error m n k j i e o None t u c p h x = gives_error (next_octets n) e k i
contents_error m n k j i e o (Some s) None u c p h x = absurd c
contents_error m n k j i e o (Some s) (Some t) None c p h x = absurd x
contents_error m n k j i e o (Some s) (Some t) (Some u) c p h x = (
  takes_both k j i s t u (o, c, p) x.0,
  subst (λ w. Reads (next_octets n) k w (heard_error e) i u) (sym c) (octets_error m n k j i e o t u p h x.1),
)

octets_came : (n k i : ℕ) (s u : Option (List ℕ)) (octets : List ℕ) → Consumes s u octets → i ≡ k + length octets
    → length octets ≤ n → Hears (next_octets n) k s NoMemory i u
unfolding Hears Reads
octets_came n k i None u octets c p fit = tt
octets_came n k i (Some s) None octets c p fit = absurd c
octets_came n k i (Some s) (Some u) octets c p fit = ((octets, c, p), (octets, c, needs_octets n k octets fit))

-- some of them came, and then memory ran out
pub octets_memory : (n : ℕ) (e : ReadError) (k i : ℕ) (s u u' : Option (List ℕ)) (octets : List ℕ) → e ≡ errors.Memory
    → u' ≡ u → Consumes s u octets → i ≡ k + length octets → length octets ≤ n
    → Hears (next_octets n) k s (heard_error e) i u'
octets_memory n e k i s u u' octets x y c p fit =
    subst (λ w. Hears (next_octets n) k s (heard_error w) i u') (sym x)
    (subst (λ w. Hears (next_octets n) k s NoMemory i w) (sym y) (octets_came n k i s u octets c p fit))

-- A room after what came before, and what came into it.

pub came_behind : (before front room post rest : List ℕ) (m n l : ℕ) → front ≡ before → n ≤ length room
    → m ≡ length before + n → m ≤ l
    → take m (take l ((front ++ (room ++ post)) ++ rest)) ≡ before ++ take n room
came_behind before front room post rest m n l same fits e within =
    take-take m l _ within
    ∙ ap (take m) (append_assoc front (room ++ post) rest
    ∙ ap₂ (λ a b. a ++ b) same (append_assoc room post rest))
    ∙ ap (λ w. take w (before ++ (room ++ (post ++ rest)))) e
    ∙ take-append-add before (room ++ (post ++ rest)) n
    ∙ ap (λ w. before ++ w) (take-append-le n room (post ++ rest) fits)

-- what a vector held stands there still where it has grown
pub still_there : (a n : ℕ) (old new more : List ℕ) → a ≡ length old → a ≤ n → new ≡ take n old ++ more
    → take a new ≡ old
still_there a n old new more e h is =
    ap (take a) (is ∙ ap (λ w. w ++ more) (take_all n old (omega arith)))
    ∙ ap (λ w. take w (old ++ more)) e ∙ take-append_seam old more

-- what an `if` gives whose test holds
pub chosen : {A : Type 0} (b : Bool) (x y z : A) → b ≡ true → z ≡ (if b then x else y) → z ≡ x
chosen true x y z e h = h
chosen false x y z e h = cc

-- One octet alone.

alone : (n : ℕ) → n ≡ 1 → Ask Done >>= (λ octet. Done (octet ∷ [])) ≡ next_octets n
unfolding next_octets ◌>>=◌
alone zero h = absurd (omega arith)
alone (suc zero) h = refl
alone (suc (suc n)) h = absurd (omega arith)

pub alone_came : (n x k i : ℕ) (s u : Option (List ℕ)) → n ≡ 1 → Hears (Ask Done) k s (Said x) i u
    → Hears (next_octets n) k s (Said (x ∷ [])) i u
alone_came n x k i s u e h =
    hears_as _ _ _ _ _ _ _ (alone n e)
    (hears_then (Ask Done) (λ octet. Done (octet ∷ [])) x (Said (x ∷ [])) k i i s u u h (hears_done _ _ _))

pub alone_stopped : (n k i : ℕ) (e : ReadError) (s u : Option (List ℕ)) → n ≡ 1
    → Hears {A = ℕ} (Ask Done) k s (heard_error e) i u
    → Hears (next_octets n) k s (heard_error e) i u
alone_stopped n k i e s u one h =
    hears_as _ _ _ _ _ _ _ (alone n one) (hears_error (Ask Done) (λ octet. Done (octet ∷ [])) e k i s u h)
