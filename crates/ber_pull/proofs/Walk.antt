-- The walk through the segments of a string: each step of it, and the stack of open segments.
use Rattle.std.proofs.Common.{◌≡◌, ℕ, suc, ◌-◌, ◌<◌, ◌≤◌, Bool, true, false, List, [], ◌∷◌, length, Option, Some, None, refl, sym, ◌∙◌, ap, subst, arith}
use Rattle.tlv_core.specs.Identifier.{Tag}
use Rattle.tlv_core.specs.Limits.{Limits}
use Rattle.tlv_core.specs.declared.fault.Fault.{Fault}
use Rattle.tlv_core.specs.declared.fault.ReadError.{ReadError}
use Rattle.tlv_core.specs.declared.fault.ReadError.TheVariants as errors
use Rattle.tlv_core.specs.declared.reason.Reason.TheVariants.{WrongTag}
use Rattle.x690.specs.Layouts.{same_tag, universal}
use Rattle.x690.specs.Points.{Enclosing, fault}
use Rattle.x690.specs.ReadContents.{read_segment}
use Rattle.x690.specs.ReadHeaders.{ContainerEnds, DefiniteLength, ElementStands, Ended, IndefiniteLength, LengthForm, Next, each_member, entered, in_container, next_tag, read_length}
use Rattle.x690.specs.Reading.{Done, Reading, Where, choose, require, run, ◌>>=◌}
use Rattle.x690.specs.Reads.{Heard, Refused, Said}
use Rattle.ber_pull.specs.Calls.{read_entering, read_next}
use Rattle.ber_pull.specs.Hears.{Continues, Hears, heard_error, next_at}
use Rattle.ber_pull.specs.Segments.{Level, Stacked, read_one_segment, read_rest}
use Rattle.ber_pull.specs.Standing.{Standing, container_of, enclosing, enclosing_of, first_of, giving, is_ended, is_over_in, moved, place, with_ended, without_first}
use Rattle.ber_pull.specs.declared.state.Container.{Container}
use Rattle.ber_pull.specs.declared.state.Container.TheVariants as open'
use Rattle.ber_pull.proofs.Hearing.{hears_as, hears_error, hears_off, hears_on, hears_said, hears_same, hears_then}
use Rattle.ber_pull.proofs.Nexts.{place_taken}
use Rattle.x690.proofs.Runs.{bind_assoc, bind_same}

abbrev pub level : ℕ → ℕ → Enclosing → Level
level deep fuel around = record { deep = deep; fuel = fuel; around = around }

-- what a member of the innermost open segment is, and what is still to be read after it
abbrev member : ℕ → Limits → ℕ → ℕ → Enclosing → List Level → List (List ℕ) → Next → Reading (List (List ℕ))
member n l d f c vs s (ContainerEnds p) = read_rest n l vs s
member n l d f c vs s (ElementStands p t form) =
    read_segment d l n c s p t form >>= λ s'. read_rest n l (level d f c ∷ vs) s'

-- the reading of an open segment, member by member
abbrev after_member : ℕ → Limits → List Level → Ended (List (List ℕ)) → Reading (List (List ℕ))
after_member n l vs e = read_rest n l vs e.all

abbrev one_member : ℕ → Limits → ℕ → ℕ → Enclosing → List (List ℕ) → Next → Reading (Ended (List (List ℕ)))
one_member n l d f c s (ContainerEnds p) = Done (record { all = s; at = p })
one_member n l d f c s (ElementStands p t form) =
    read_segment d l n c s p t form >>= λ s'. each_member (read_segment d l n c) f l c s'

member_is : (n : ℕ) (l : Limits) (d f : ℕ) (c : Enclosing) (vs : List Level) (s : List (List ℕ)) (m : Next) (k : ℕ)
    (o : List ℕ)
    → run (one_member n l d f c s m >>= after_member n l vs) k o ≡ run (member n l d f c vs s m) k o
unfolding read_rest ◌>>=◌
member_is n l d f c vs s (ContainerEnds p) k o = refl
member_is n l d f c vs s (ElementStands p t form) k o =
    bind_assoc (read_segment d l n c s p t form) (λ s'. each_member (read_segment d l n c) f l c s')
    (after_member n l vs) k o

rest_next : (n : ℕ) (l : Limits) (d f : ℕ) (c : Enclosing) (vs : List Level) (s : List (List ℕ)) (k : ℕ) (o : List ℕ)
    → run (next_tag l c >>= member n l d f c vs s) k o ≡ run (read_rest n l (level d (suc f) c ∷ vs) s) k o
unfolding read_rest each_member
rest_next n l d f c vs s k o =
    sym (bind_assoc (next_tag l c) (one_member n l d f c s) (after_member n l vs) k o
    ∙ bind_same (next_tag l c) (λ m. one_member n l d f c s m >>= after_member n l vs) (member n l d f c vs s)
    (member_is n l d f c vs s) k o)

-- The steps of the walk, at an open segment with one more level and one more member to go.

pub walk_ended : (n : ℕ) (l : Limits) (d f : ℕ) (c : Enclosing) (vs : List Level) (s : List (List ℕ)) (p k j : ℕ)
    (t u : Option (List ℕ))
    → Hears (next_tag l c) k t (Said (ContainerEnds p)) j u
    → Continues (read_rest n l (level d (suc f) c ∷ vs) s) k t (read_rest n l vs s) j u
walk_ended n l d f c vs s p k j t u x =
    record {
      rest = λ h i w y.
          hears_same _ _ h k i t w (rest_next n l d f c vs s)
          (hears_then (next_tag l c) (member n l d f c vs s) (ContainerEnds p) h k j i t u w x y);
    }

pub walk_error : (n : ℕ) (l : Limits) (d f : ℕ) (c : Enclosing) (vs : List Level) (s : List (List ℕ)) (e : ReadError)
    (k j : ℕ) (t u : Option (List ℕ))
    → Hears (next_tag l c) k t (heard_error e) j u
    → Hears (read_rest n l (level d (suc f) c ∷ vs) s) k t (heard_error e) j u
walk_error n l d f c vs s e k j t u x =
    hears_same _ _ (heard_error e) k j t u (rest_next n l d f c vs s)
    (hears_error (next_tag l c) (member n l d f c vs s) e k j t u x)

-- an element stands there
element : (n : ℕ) (l : Limits) (d f : ℕ) (c : Enclosing) (vs : List Level) (s : List (List ℕ)) (p : ℕ) (tag : Tag)
    (form : Bool) (k j i : ℕ) (t u w : Option (List ℕ)) (h : Heard (List (List ℕ)))
    → Hears (next_tag l c) k t (Said (ElementStands p tag form)) j u
    → Hears (read_segment d l n c s p tag form >>= λ s'. read_rest n l (level d f c ∷ vs) s') j u h i w
    → Hears (read_rest n l (level d (suc f) c ∷ vs) s) k t h i w
element n l d f c vs s p tag form k j i t u w h x y =
    hears_same _ _ h k i t w (rest_next n l d f c vs s)
    (hears_then (next_tag l c) (member n l d f c vs s) (ElementStands p tag form) h k j i t u w x y)

pub walk_wrong : (n : ℕ) (l : Limits) (d f : ℕ) (c : Enclosing) (vs : List Level) (s : List (List ℕ)) (p : ℕ)
    (tag : Tag) (form : Bool) (k j : ℕ) (t u : Option (List ℕ))
    → Hears (next_tag l c) k t (Said (ElementStands p tag form)) j u → same_tag tag (universal n) ≡ false
    → Hears (read_rest n l (level (suc d) (suc f) c ∷ vs) s) k t (Refused (fault p WrongTag)) j u
unfolding read_segment
walk_wrong n l d f c vs s p tag form k j t u x b =
    element n l (suc d) f c vs s p tag form k j j t u u _ x
    (hears_error (read_segment (suc d) l n c s p tag form) _ (errors.Fault (fault p WrongTag)) _ _ _ _
    (hears_off _ _ _ _ _ b))

-- a primitive one, with the right tag
one : (n : ℕ) (l : Limits) (d : ℕ) (c : Enclosing) (s : List (List ℕ)) (p : ℕ) (tag : Tag) (h : Heard (List (List ℕ)))
    (j i : ℕ) (u w : Option (List ℕ))
    → same_tag tag (universal n) ≡ true → Hears (read_one_segment n l c s p) j u h i w
    → Hears (read_segment (suc d) l n c s p tag false) j u h i w
unfolding read_segment read_one_segment
one n l d c s p tag h j i u w b x = hears_on _ _ _ _ _ _ _ _ b x

pub walk_one : (n : ℕ) (l : Limits) (d f : ℕ) (c : Enclosing) (vs : List Level) (s s' : List (List ℕ)) (p : ℕ)
    (tag : Tag) (k j i : ℕ) (t u w : Option (List ℕ))
    → Hears (next_tag l c) k t (Said (ElementStands p tag false)) j u → same_tag tag (universal n) ≡ true
    → Hears (read_one_segment n l c s p) j u (Said s') i w
    → Continues (read_rest n l (level (suc d) (suc f) c ∷ vs) s) k t (read_rest n l (level (suc d) f c ∷ vs) s') i w
walk_one n l d f c vs s s' p tag k j i t u w x b y =
    record {
      rest = λ h i' w' z.
          element n l (suc d) f c vs s p tag false k j i' t u w' h x
          (hears_then (read_segment (suc d) l n c s p tag false) _ s' _ _ _ _ _ _ _
          (one n l d c s p tag _ j i u w b y) z);
    }

pub walk_one_error : (n : ℕ) (l : Limits) (d f : ℕ) (c : Enclosing) (vs : List Level) (s : List (List ℕ))
    (e : ReadError) (p : ℕ) (tag : Tag) (k j i : ℕ) (t u w : Option (List ℕ))
    → Hears (next_tag l c) k t (Said (ElementStands p tag false)) j u → same_tag tag (universal n) ≡ true
    → Hears (read_one_segment n l c s p) j u (heard_error e) i w
    → Hears (read_rest n l (level (suc d) (suc f) c ∷ vs) s) k t (heard_error e) i w
walk_one_error n l d f c vs s e p tag k j i t u w x b y =
    element n l (suc d) f c vs s p tag false k j i t u w (heard_error e) x
    (hears_error (read_segment (suc d) l n c s p tag false) _ e _ _ _ _ (one n l d c s p tag _ j i u w b y))

-- a constructed one: what stands in it is read first
abbrev pub inside : Limits → ℕ → ℕ → List (List ℕ) → Enclosing → Reading (Ended (List (List ℕ)))
inside l n d s c = each_member (read_segment d l n c) l.octets l c s

into_each : (n : ℕ) (l : Limits) (d : ℕ) (c : Enclosing) (vs : List Level) (s : List (List ℕ)) (x : LengthForm) (k : ℕ)
    (o : List ℕ)
    → run (Where (λ p. Done (entered c p x)) >>= λ c'. read_rest n l (level d l.octets c' ∷ vs) s) k o
    ≡ run (Where (λ p. inside l n d s (entered c p x)) >>= λ e. Done e.all >>= λ s'. read_rest n l vs s') k o
unfolding read_rest run ◌>>=◌
into_each n l d c vs s x k o = refl

pub into_is : (n : ℕ) (l : Limits) (d : ℕ) (c : Enclosing) (vs : List Level) (s : List (List ℕ)) (p k : ℕ) (o : List ℕ)
    → run (in_container l c p true Done >>= λ c'. read_rest n l (level d l.octets c' ∷ vs) s) k o
    ≡ run ((in_container l c p true (inside l n d s) >>= λ e. Done e.all) >>= λ s'. read_rest n l vs s') k o
unfolding in_container require
into_is n l d c vs s p k o =
    bind_assoc (read_length l c.nearest_end p) (λ x. Where (λ q. Done (entered c q x)))
    (λ c'. read_rest n l (level d l.octets c' ∷ vs) s) k o
    ∙ bind_same (read_length l c.nearest_end p) _ _ (into_each n l d c vs s) k o
    ∙ sym (bind_assoc (read_length l c.nearest_end p) (λ x. Where (λ q. inside l n d s (entered c q x)))
    (λ e. Done e.all >>= λ s'. read_rest n l vs s') k o)
    ∙ sym (bind_assoc (read_length l c.nearest_end p >>= λ x. Where (λ q. inside l n d s (entered c q x)))
    (λ e. Done e.all) (λ s'. read_rest n l vs s') k o)

pub required : {A : Type 0} (b : Bool) (f : Fault) (p : Reading A) → b ≡ true → p ≡ require b f p
unfolding require
required true f p h = refl
required false f p h = cc

into : (n : ℕ) (l : Limits) (d : ℕ) (c : Enclosing) (vs : List Level) (s : List (List ℕ)) (p : ℕ) (tag : Tag)
    (h : Heard (List (List ℕ))) (j i : ℕ) (u w : Option (List ℕ))
    → same_tag tag (universal n) ≡ true
    → Hears (in_container l c p true Done >>= λ c'. read_rest n l (level d l.octets c' ∷ vs) s) j u h i w
    → Hears (read_segment (suc d) l n c s p tag true >>= λ s'. read_rest n l vs s') j u h i w
unfolding read_segment
into n l d c vs s p tag h j i u w b x =
    hears_as _ _ _ _ _ _ _
    (ap (λ r. r >>= λ s'. read_rest n l vs s')
    (required (same_tag tag (universal n)) (fault p WrongTag)
    (in_container l c p true (inside l n d s) >>= λ e. Done e.all) b))
    (hears_same _ _ h j i u w (into_is n l d c vs s p) x)

pub walk_into : (n : ℕ) (l : Limits) (d f : ℕ) (c c' : Enclosing) (vs : List Level) (s : List (List ℕ)) (p : ℕ)
    (tag : Tag) (k j i : ℕ) (t u w : Option (List ℕ))
    → Hears (next_tag l c) k t (Said (ElementStands p tag true)) j u → same_tag tag (universal n) ≡ true
    → Hears (in_container l c p true Done) j u (Said c') i w
    → Continues (read_rest n l (level (suc d) (suc f) c ∷ vs) s) k t
    (read_rest n l (level d l.octets c' ∷ level (suc d) f c ∷ vs) s) i w
walk_into n l d f c c' vs s p tag k j i t u w x b y =
    record {
      rest = λ h i' w' z.
          element n l (suc d) f c vs s p tag true k j i' t u w' h x
          (into n l d c (level (suc d) f c ∷ vs) s p tag h j i' u w' b
          (hears_then (in_container l c p true Done)
          (λ c''. read_rest n l (level d l.octets c'' ∷ level (suc d) f c ∷ vs) s) c' _ _ _ _ _ _ _ y z));
    }

pub walk_into_error : (n : ℕ) (l : Limits) (d f : ℕ) (c : Enclosing) (vs : List Level) (s : List (List ℕ))
    (e : ReadError) (p : ℕ) (tag : Tag) (k j i : ℕ) (t u w : Option (List ℕ))
    → Hears (next_tag l c) k t (Said (ElementStands p tag true)) j u → same_tag tag (universal n) ≡ true
    → Hears (in_container l c p true Done) j u (heard_error e) i w
    → Hears (read_rest n l (level (suc d) (suc f) c ∷ vs) s) k t (heard_error e) i w
walk_into_error n l d f c vs s e p tag k j i t u w x b y =
    element n l (suc d) f c vs s p tag true k j i t u w (heard_error e) x
    (into n l d c (level (suc d) f c ∷ vs) s p tag (heard_error e) j i u w b
    (hears_error (in_container l c p true Done)
    (λ c''. read_rest n l (level d l.octets c'' ∷ level (suc d) f c ∷ vs) s) e _ _ _ _ y))

-- the stack of open segments

open_is : (k : ℕ) (cs around : List Container) (v : Level) (vs : List Level) (s : Standing)
    → Stacked s around (v ∷ vs) cs → (is_over_in k (first_of cs) ≡ false) × (enclosing_of cs ≡ v.around)
open_is k [] around v vs s x = absurd x
open_is k (c ∷ cs) around v vs s x = (x.1, sym x.0)

pub next_is : (s : Standing) (around : List Container) (v : Level) (vs : List Level) → s.given ≡ None
    → Stacked s around (v ∷ vs) s.containers → read_next s ≡ next_tag s.limits v.around
unfolding read_next choose
next_is s around v vs g x =
    let o = open_is s.taken s.containers around v vs s x in rw (g, o.0) (ap (next_tag s.limits) o.1)

-- it stays as it is while octets are taken
pub stacked_on : (s t : Standing) (around : List Container) (vs : List Level) (cs : List Container)
    → t.limits ≡ s.limits → s.taken ≤ t.taken → Stacked s around vs cs → Stacked t around vs cs
stacked_on s t around [] cs l m x = x
stacked_on s t around (v ∷ vs) [] l m x = absurd x
stacked_on s t around (v ∷ vs) (c ∷ cs) l m x =
    let lo : t.limits.octets ≡ s.limits.octets = ap (λ w. w.octets) l in
    let ld : t.limits.depth ≡ s.limits.depth = ap (λ w. w.depth) l in
    (x.0, x.1, omega (arith, x.2), omega (arith, x.3), stacked_on s t around vs cs l m x.4)

popped : (c : Container) (cs : List Container) → without_first (with_ended (Some c) (c ∷ cs)) ≡ cs
popped (open'.Definite e) cs = refl
popped (open'.Indefinite a) cs = refl
popped (open'.Ended a) cs = refl

pub stack_ended : (s t : Standing) (around : List Container) (v : Level) (vs : List Level) (cs : List Container)
    → t.limits ≡ s.limits → s.taken ≤ t.taken → Stacked s around (v ∷ vs) cs
    → Stacked t around vs (without_first (with_ended (first_of cs) cs))
stack_ended s t around v vs [] l m x = absurd x
stack_ended s t around v vs (c ∷ cs) l m x =
    subst (λ w. Stacked t around vs w) (sym (popped c cs)) (stacked_on s t around vs cs l m x.4)

pub stack_one : (s t : Standing) (around : List Container) (d f : ℕ) (c : Enclosing) (vs : List Level)
    (cs : List Container)
    → t.limits ≡ s.limits → s.taken < t.taken → Stacked s around (level d (suc f) c ∷ vs) cs
    → Stacked t around (level d f c ∷ vs) cs
stack_one s t around d f c vs [] l m x = absurd x
stack_one s t around d f c vs (o ∷ cs) l m x =
    let lo : t.limits.octets ≡ s.limits.octets = ap (λ w. w.octets) l in
    let ld : t.limits.depth ≡ s.limits.depth = ap (λ w. w.depth) l in
    (x.0, x.1, omega (arith, x.2), omega (arith, x.3), stacked_on s t around vs cs l (omega arith) x.4)

pub fresh : (form : LengthForm) (s : Standing) → is_ended (container_of form s) ≡ false
fresh (DefiniteLength n) s = refl
fresh IndefiniteLength s = refl

pub stack_into : (s m t : Standing) (form : LengthForm) (around : List Container) (d f : ℕ) (c : Enclosing)
    (vs : List Level) (cs : List Container)
    → t.limits ≡ s.limits → s.taken < t.taken → Stacked s around (level (suc d) (suc f) c ∷ vs) cs
    → Stacked t around (level d s.limits.octets (enclosing_of (container_of form m ∷ cs)) ∷ level (suc d) f c ∷ vs)
    (container_of form m ∷ cs)
stack_into s m t form around d f c vs [] l h x = absurd x
stack_into s m t form around d f c vs (o ∷ cs) l h x =
    let lo : t.limits.octets ≡ s.limits.octets = ap (λ w. w.octets) l in
    let ld : t.limits.depth ≡ s.limits.depth = ap (λ w. w.depth) l in
    (refl, fresh form m, omega arith, omega (arith, x.3), stack_one s t around (suc d) f c vs (o ∷ cs) l h x)

-- the innermost open segment has one more level and one more member to go
spelled_out : (v : Level) (d f : ℕ) → v.deep ≡ d → v.fuel ≡ f → v ≡ level d f v.around
spelled_out v d f p q = λ i. record { deep = p i; fuel = q i; around = v.around }

pub record ToGo (v : Level) : Type 0 where
  pub deep : ℕ
  pub fuel : ℕ
  pub is : v ≡ level (suc deep) (suc fuel) v.around

pub to_go : (s : Standing) (around : List Container) (v : Level) (vs : List Level) (cs : List Container)
    → s.taken ≤ s.limits.octets → length cs ≤ s.limits.depth → Stacked s around (v ∷ vs) cs → ToGo v
to_go s around v vs [] h h' x = absurd x
to_go s around v vs (c ∷ cs) h h' x =
    let e : v.deep ≡ suc (v.deep - 1) = omega (arith, x.3) in let e' : v.fuel ≡ suc (v.fuel - 1) = omega (arith, x.2) in
    record { deep = v.deep - 1; fuel = v.fuel - 1; is = spelled_out v _ _ e e' }

-- What `next_tag` gives inside an open segment.

pub enclosing_is : (s : Standing) (around : List Container) (v : Level) (vs : List Level)
    → Stacked s around (v ∷ vs) s.containers → enclosing s ≡ v.around
enclosing_is s around v vs x = (open_is 0 s.containers around v vs s x).1

pub next_here : (s : Standing) (around : List Container) (v : Level) (vs : List Level) (o x : Option (Tag × Bool))
    (j : ℕ) (t u : Option (List ℕ))
    → s.given ≡ None → Stacked s around (v ∷ vs) s.containers → o ≡ x
    → Hears (read_next s) s.taken t (Said (next_at (place s) o)) j u
    → Hears (next_tag s.limits v.around) s.taken t (Said (next_at s.taken x)) j u
next_here s around v vs o x j t u g st e h =
    hears_as _ _ _ _ _ _ _ (next_is s around v vs g st)
    (hears_said _ _ _ _ _ _ _ (ap (next_at (place s)) e ∙ ap (λ p. next_at p x) (place_taken s g)) h)

pub next_fails : (s : Standing) (around : List Container) (v : Level) (vs : List Level) (e : ReadError) (j : ℕ)
    (t u : Option (List ℕ))
    → s.given ≡ None → Stacked s around (v ∷ vs) s.containers → Hears (read_next s) s.taken t (heard_error e) j u
    → Hears (next_tag s.limits v.around) s.taken t (heard_error e) j u
next_fails s around v vs e j t u g st h = hears_as _ _ _ _ _ _ _ (next_is s around v vs g st) h

-- the reading after the identifier, at the point of the open segment

pub one_here : (s m : Standing) (around : List Container) (v : Level) (vs : List Level) (n p j : ℕ) (tag : Tag)
    (form : Bool) (segments : List (List ℕ))
    → Stacked s around (v ∷ vs) s.containers → m ≡ giving s.taken tag form (moved j s) → p ≡ s.taken
    → read_one_segment n m.limits (enclosing m) segments p ≡ read_one_segment n s.limits v.around segments s.taken
one_here s m around v vs n p j tag form segments st e q =
    ap (λ w. read_one_segment n w.limits (enclosing w) segments p) e
    ∙ ap (λ w. read_one_segment n s.limits w segments p) (enclosing_is s around v vs st)
    ∙ ap (read_one_segment n s.limits v.around segments) q

pub into_here : (s m : Standing) (around : List Container) (v : Level) (vs : List Level) (j : ℕ) (tag : Tag)
    (form : Bool)
    → Stacked s around (v ∷ vs) s.containers → m ≡ giving s.taken tag form (moved j s) → form ≡ true
    → read_entering m (record { at = s.taken; tag = tag; constructed = form })
    ≡ in_container s.limits v.around s.taken true Done
unfolding read_entering
into_here s m around v vs j tag form st e f =
    ap (λ w. in_container w.limits (enclosing w) s.taken form Done) e
    ∙ ap (λ w. in_container s.limits w s.taken form Done) (enclosing_is s around v vs st)
    ∙ ap (λ w. in_container s.limits v.around s.taken w Done) f

pub continues_as : {A : Type 0} (p p' q q' : Reading A) (k j : ℕ) (s t : Option (List ℕ)) → p ≡ p' → q ≡ q'
    → Continues p k s q j t → Continues p' k s q' j t
continues_as p p' q q' k j s t e e' c = subst (λ w. Continues w k s q' j t) e (subst (λ w. Continues p k s w j t) e' c)

pub continues_at : {A : Type 0} (p q : Reading A) (k j j' : ℕ) (s t t' : Option (List ℕ)) → j' ≡ j → t' ≡ t
    → Continues p k s q j t → Continues p k s q j' t'
continues_at p q k j j' s t t' e e' c =
    subst (λ w. Continues p k s q w t') (sym e) (subst (λ w. Continues p k s q j w) (sym e') c)
