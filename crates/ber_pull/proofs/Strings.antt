-- Whole strings: in one piece, or the walk from its first step to its last.
use Rattle.std.proofs.Common.{◌≡◌, ℕ, ◌+◌, ◌++◌, ◌<◌, ◌≤◌, true, false, List, [], ◌∷◌, length, Option, Result, Ok, Err, refl, sym, ◌∙◌, ap, append-nil, arith}
use Rattle.tlv_core.specs.Limits.{Limits}
use Rattle.tlv_core.specs.declared.fault.ReadError.{ReadError}
use Rattle.tlv_core.specs.declared.source.Source.{Ghosts}
use Rattle.x690.specs.Points.{Enclosing}
use Rattle.x690.specs.ReadHeaders.{LengthForm, in_container, primitive_contents}
use Rattle.x690.specs.Reading.{Done, Reading, ◌>>=◌, run}
use Rattle.x690.specs.Reads.{Said}
use Rattle.ber_pull.specs.Calls.{read_entering, read_octets, read_segments}
use Rattle.ber_pull.specs.Hears.{Continues, Hears, heard_error}
use Rattle.ber_pull.specs.Segments.{GoesOn, Joins, Level, Stacked, Steps, read_one_segment, read_rest}
use Rattle.ber_pull.specs.Standing.{Standing, container_of, enclosing, enclosing_of}
use Rattle.ber_pull.specs.declared.pull.Pull.{Pull}
use Rattle.ber_pull.specs.declared.state.Container.{Container}
use Rattle.ber_pull.specs.declared.state.Given.{Given}
use Rattle.ber_pull.specs.declared.string.Joined.{Joined}
use Rattle.ber_pull.proofs.Hearing.{hears_as, hears_done, hears_done_as, hears_error, hears_on, hears_same, hears_then}
use Rattle.x690.proofs.Runs.{bind_done}
use Rattle.ber_pull.proofs.Walk.{fresh, inside, into_is, level}

-- in one piece it is a segment by itself
pub segments_one : (n : ℕ) (s : Standing) (g : Given) → g.constructed ≡ false
    → read_one_segment n s.limits (enclosing s) [] g.at ≡ read_segments n s g
unfolding read_segments read_one_segment
segments_one n s g h = rw h refl

one_segment : (l : Limits) (c : Enclosing) (p : ℕ) (o : List ℕ) (k j : ℕ) (t u : Option (List ℕ))
    → Hears (primitive_contents l c p) k t (Said o) j u → Hears (read_one_segment 4 l c [] p) k t (Said (o ∷ [])) j u
unfolding read_one_segment
one_segment l c p o k j t u x = hears_then _ _ o _ _ _ _ _ _ _ x (hears_on _ _ _ _ _ _ _ _ refl (hears_done _ _ _))

-- the octets of a primitive string are its contents
pub octets_one : (s : Standing) (g : Given) (o : List ℕ) (k j : ℕ) (t u : Option (List ℕ)) → g.constructed ≡ false
    → Hears (primitive_contents s.limits (enclosing s) g.at) k t (Said o) j u → Hears (read_octets s g) k t (Said o) j u
unfolding read_octets
octets_one s g o k j t u h x =
    hears_then _ _ (o ∷ []) _ _ _ _ _ _ _
    (hears_as _ _ _ _ _ _ _ (segments_one 4 s g h) (one_segment s.limits (enclosing s) g.at o k j t u x))
    (hears_done_as (o ++ []) o _ _ (sym (append-nil o)))

pub octets_stop : (s : Standing) (g : Given) (e : ReadError) (k j : ℕ) (t u : Option (List ℕ)) → g.constructed ≡ false
    → Hears (primitive_contents s.limits (enclosing s) g.at) k t (heard_error e) j u
    → Hears (read_octets s g) k t (heard_error e) j u
unfolding read_octets read_one_segment
octets_stop s g e k j t u h x =
    hears_error _ _ e _ _ _ _ (hears_as _ _ _ _ _ _ _ (segments_one 4 s g h) (hears_error _ _ e _ _ _ _ x))

segments_is : (n : ℕ) (s : Standing) (g : Given) (k : ℕ) (o : List ℕ) → g.constructed ≡ true
    → run (read_entering s g >>= λ c. read_rest n s.limits (level s.limits.depth s.limits.octets c ∷ []) []) k o
    ≡ run (read_segments n s g) k o
unfolding read_segments read_entering read_rest
segments_is n s g k o h =
    rw h (into_is n s.limits s.limits.depth (enclosing s) [] [] g.at k o
    ∙ bind_done
    (in_container s.limits (enclosing s) g.at true (inside s.limits n s.limits.depth []) >>= λ e. Done e.all) k o)

pub segments_into : (n : ℕ) (s : Standing) (g : Given) (c : Enclosing) (k j : ℕ) (t u : Option (List ℕ))
    → g.constructed ≡ true → Hears (read_entering s g) k t (Said c) j u
    → Continues (read_segments n s g) k t (read_rest n s.limits (level s.limits.depth s.limits.octets c ∷ []) []) j u
segments_into n s g c k j t u h x =
    record {
      rest = λ r i w y.
          hears_same _ _ r k i t w (λ k' o'. segments_is n s g k' o' h)
          (hears_then (read_entering s g)
          (λ c'. read_rest n s.limits (level s.limits.depth s.limits.octets c' ∷ []) []) c r k j i t u w x y);
    }

pub segments_error : (n : ℕ) (s : Standing) (g : Given) (e : ReadError) (k j : ℕ) (t u : Option (List ℕ))
    → g.constructed ≡ true → Hears (read_entering s g) k t (heard_error e) j u
    → Hears (read_segments n s g) k t (heard_error e) j u
segments_error n s g e k j t u h x =
    hears_same _ _ (heard_error e) k j t u (λ k' o'. segments_is n s g k' o' h)
    (hears_error (read_entering s g)
    (λ c'. read_rest n s.limits (level s.limits.depth s.limits.octets c' ∷ []) []) e k j t u x)

-- the first step
pub stack_start : (t m : Standing) (form : LengthForm) (l : Limits) (cs : List Container) → t.limits ≡ l → 0 < t.taken
    → Stacked t cs (level l.depth l.octets (enclosing_of (container_of form m ∷ cs)) ∷ []) (container_of form m ∷ cs)
stack_start t m form l cs e h =
    let lo : t.limits.octets ≡ l.octets = ap (λ w. w.octets) e in
    let ld : t.limits.depth ≡ l.depth = ap (λ w. w.depth) e in
    (refl, fresh form m, omega arith, omega arith, refl)

-- as many segments are open as containers, those around the string apart
open_segments : (s : Standing) (around : List Container) (vs : List Level) (cs : List Container)
    → Stacked s around vs cs → length cs ≡ length vs + length around
open_segments s around [] cs x = let e : length cs ≡ length around = ap (λ w. length w) x in omega arith
open_segments s around (v ∷ vs) [] x = absurd x
open_segments s around (v ∷ vs) (c ∷ cs) x = let e = open_segments s around vs cs x.4 in omega (arith, e)

-- a step of the walk, and what came before it
walk_from : {R : Type 0} {s : Ghosts R} (start mid new : Pull R s) (around : List Container) (n : ℕ)
    (p : Reading (List (List ℕ))) (joined joined' : Joined) (result : Result (Unit {0}) ReadError) (vs : List Level)
    (segments : List (List ℕ))
    → Stacked mid.state around vs mid.state.containers → Joins joined segments
    → Continues p start.state.taken (s.remaining start.src.now)
    (read_rest n mid.state.limits vs segments) mid.state.taken (s.remaining mid.src.now)
    → length around < length mid.state.containers
    → ((v : Level) (vs : List Level) (segments : List (List ℕ)) → Stacked mid.state around (v ∷ vs) mid.state.containers
    → Joins joined segments → Steps mid new around n (read_rest n mid.state.limits (v ∷ vs) segments) joined' result)
    → Steps start new around n p joined' result
walk_from start mid new around n p joined joined' result [] segments st j c h f =
    absurd (omega (arith, open_segments mid.state around [] mid.state.containers st))
walk_from start mid new around n p joined joined' (Ok u) (v ∷ vs) segments st j c h f =
    let x = f v vs segments st j in
    record {
      levels = x.levels;
      segments = x.segments;
      stacked = x.stacked;
      joins = x.joins;
      reads = record { rest = λ r i w y. c.rest r i w (x.reads.rest r i w y) };
    }
walk_from start mid new around n p joined joined' (Err e) (v ∷ vs) segments st j c h f =
    c.rest _ _ _ (f v vs segments st j)

pub walk_on : {R : Type 0} {s : Ghosts R} (start mid new : Pull R s) (around : List Container) (n : ℕ)
    (p : Reading (List (List ℕ))) (joined joined' : Joined) (result : Result (Unit {0}) ReadError)
    → GoesOn start mid around n p joined → length around < length mid.state.containers
    → ((v : Level) (vs : List Level) (segments : List (List ℕ)) → Stacked mid.state around (v ∷ vs) mid.state.containers
    → Joins joined segments → Steps mid new around n (read_rest n mid.state.limits (v ∷ vs) segments) joined' result)
    → Steps start new around n p joined' result
walk_on start mid new around n p joined joined' result g h f =
    walk_from start mid new around n p joined joined' result g.levels g.segments g.stacked g.joins g.reads h f

-- the walk is over
pub walk_done : (s : Standing) (around : List Container) (n : ℕ) (vs : List Level) (segments : List (List ℕ))
    (cs : List Container) (j : ℕ) (t : Option (List ℕ))
    → Stacked s around vs cs → length cs ≤ length around
    → Hears (read_rest n s.limits vs segments) j t (Said segments) j t
unfolding read_rest
walk_done s around n [] segments cs j t x h = hears_done segments j t
walk_done s around n (v ∷ vs) segments cs j t x h =
    absurd (let e = open_segments s around (v ∷ vs) cs x in omega (arith, e))

pub around_left : (s : Standing) (around : List Container) (vs : List Level) (cs : List Container)
    → Stacked s around vs cs → length cs ≤ length around → cs ≡ around
around_left s around [] cs x h = x
around_left s around (v ∷ vs) cs x h = absurd (let e = open_segments s around (v ∷ vs) cs x in omega (arith, e))
