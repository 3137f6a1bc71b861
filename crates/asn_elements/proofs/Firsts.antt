-- The first call of a new reader, and what a type reads after it.
use Rattle.std.proofs.Common.{◌≡◌, ◌∙◌, ◌<◌, ◌^◌, ◌≤◌, Bool, Err, List, None, Ok, Option, Result, Some, [], ℕ, ⊎_elim, ap, arith, length, refl, subst, sym}
use Rattle.tlv_core.specs.Identifier.{Tag}
use Rattle.tlv_core.specs.Limits.{Limits}
use Rattle.tlv_core.specs.declared.fault.ReadError.{ReadError}
use Rattle.tlv_core.specs.declared.source.Source.{Ghosts}
use Rattle.x690.specs.DerTexts.{der}
use Rattle.x690.specs.Points.{outermost}
use Rattle.x690.specs.ReadHeaders.{ContainerEnds, ElementStands, next_tag}
use Rattle.x690.specs.ReadTypes.{read_element, read_type}
use Rattle.x690.specs.Reading.{choose}
use Rattle.x690.specs.Reads.{Heard, Said}
use Rattle.x690.specs.TypeTerms.{TypeTerm}
use Rattle.x690.specs.Values.{Same, Value}
use Rattle.x690_laws.proofs.ReadingHeadersSound.{NextEnds, next_took}
use Rattle.x690_laws.proofs.TextsAsLayouts.{same_der}
use Rattle.ber_pull.specs.Calls.{read_next}
use Rattle.ber_pull.specs.Hears.{Hears, heard, heard_error, next_at}
use Rattle.ber_pull.specs.Standing.{Standing, after_next, place, started}
use Rattle.ber_pull.specs.View.{Answers, source, standing, told}
use Rattle.ber_pull.specs.declared.pull.Pull.{Pull}
use Rattle.ber_pull.proofs.Hearing.{hears_as, hears_error, hears_given, hears_said, hears_then}
use Rattle.asn_elements.specs.Reading.{read_given}
use Rattle.asn_elements.proofs.ShortElements.{due_is, element_short}
use Rattle.asn_elements.specs.Whole.{ReadsElement}

start_is : (l : Limits) → read_next (started l) ≡ next_tag l outermost
unfolding read_next choose
start_is l = refl

pub first_next : {R : Type 0} {s : Ghosts R} (l : Limits) (before : R) (old new : Pull R s)
    (result : Result (Option (Tag × Bool)) ReadError)
    → standing old ≡ started l → source old ≡ before
    → ((standing old).error ≡ None
    → Answers old new (read_next (standing old)) (heard (next_at (place (standing old))) result))
    → Hears (next_tag l outermost) 0 (s.remaining before) (heard (next_at 0) result) (standing new).taken (told new)
first_next {R} {s} l before old new result start same h =
    let x = subst (λ w.
    w.error ≡ None
    → Hears (read_next w) w.taken (told old) (heard (next_at (place w)) result) (standing new).taken (told new))
    start h refl in
    subst
    (λ w. Hears (next_tag l outermost) 0 (s.remaining w) (heard (next_at 0) result) (standing new).taken (told new))
    same
    (hears_as _ _ _ _ _ _ _ (start_is l) x)

-- the identifier that it gave stands there

pub element_next : {R : Type 0} {s : Ghosts R} (l : Limits) (before : R) (old new : Pull R s) (o : Option (Tag × Bool))
    (t : Tag × Bool)
    → o ≡ Some t → standing old ≡ started l → source old ≡ before
    → ((standing old).error ≡ None
    → Answers old new (read_next (standing old)) (heard (next_at (place (standing old))) (Ok o)))
    → Hears (next_tag l outermost) 0 (s.remaining before) (Said (ElementStands 0 t.0 t.1)) (standing new).taken
    (told new)
element_next l before old new o t is start same h =
    hears_said _ _ _ _ _ _ _ (ap (next_at 0) is) (first_next l before old new (Ok o) start same h)

pub given_next : {R : Type 0} {s : Ghosts R} (l : Limits) (old new : Pull R s) (o : Option (Tag × Bool))
    (t : Tag × Bool)
    → o ≡ Some t → standing old ≡ started l
    → ((standing old).given ≡ None → standing new ≡ after_next (standing new).taken o (standing old))
    → standing new ≡ after_next (standing new).taken (Some t) (started l)
given_next l old new o t is start stands =
    stands (ap (λ w. w.given) start)
    ∙ ap (λ w. after_next (standing new).taken w (standing old)) is
    ∙ ap (after_next (standing new).taken (Some t)) start

pub read_as : (l : Limits) (T : TypeTerm) (w : Standing) (k : ℕ) (t : Tag × Bool)
    → w ≡ after_next k (Some t) (started l)
    → read_given T w (record { at = 0; tag = t.0; constructed = t.1 }) ≡ read_type l T [] outermost 0 t.0 t.1
read_as l T w k t is = ap (λ z. read_given T z (record { at = 0; tag = t.0; constructed = t.1 })) is

-- no container ends where none is open
ends_none : (l : Limits) (k : ℕ) (s : List ℕ) (p q : ℕ) (r : List ℕ) → NextEnds l outermost k s p q r → ⊥
ends_none l k s p q r e = ⊎_elim (λ x. let z = x.0 in cc) (λ x. let z = x.0 in cc) e.ends

pub never_ends : (l : Limits) (p k : ℕ) (s u : Option (List ℕ))
    → Hears (next_tag l outermost) 0 s (Said (ContainerEnds p)) k u → ⊥
never_ends l p k s u x =
    let y = hears_given (next_tag l outermost) (ContainerEnds p) 0 k s u x in
    ends_none l 0 y.0 p k [] (next_took l outermost 0 y.0 (ContainerEnds p) k [] y.2)

-- what is answered where one stops, and of an element

pub next_stops : (l : Limits) (T : TypeTerm) (e : ReadError) (k : ℕ) (s u : Option (List ℕ))
    → Hears (next_tag l outermost) 0 s (heard_error e) k u
    → Hears (read_element l T [] outermost) 0 s (heard_error e) k u
next_stops l T e k s u x =
    hears_as _ _ _ _ _ _ _ (due_is l T outermost) (hears_error (next_tag l outermost) _ e 0 k s u x)

pub element_answers : (l : Limits) (T : TypeTerm) (p : ℕ) (tag : Tag) (form : Bool) (h : Heard Value) (j k : ℕ)
    (s t u : Option (List ℕ))
    → Hears (next_tag l outermost) 0 s (Said (ElementStands p tag form)) j t
    → Hears (read_type l T [] outermost p tag form) j t h k u → Hears (read_element l T [] outermost) 0 s h k u
element_answers l T p tag form h j k s t u x y =
    hears_as _ _ _ _ _ _ _ (due_is l T outermost)
    (hears_then (next_tag l outermost) _ (ElementStands p tag form) h 0 j k s t u x y)

pub element_err : {R A : Type 0} (remaining : R → Option (List ℕ)) (l : Limits) (T : TypeTerm) (value : A → Value)
    (e : ReadError) (k : ℕ) (before : Option (List ℕ)) (mid new : R) (result : Result (A × ℕ) ReadError)
    → result ≡ Err e → new ≡ mid → k ≤ l.octets
    → Hears (read_element l T [] outermost) 0 before (heard_error e) k (remaining mid)
    → ReadsElement l T value before (remaining new) result
element_err {R} {A} remaining l T value e k before mid new result is same within h =
    subst (ReadsElement {A = A} l T value before (remaining new)) (sym is) (
      k,
      subst (λ w. Hears (read_element l T [] outermost) 0 before (heard_error e) k (remaining w)) (sym same) h,
      within,
    )

pub element_said : {R : Type 0} (remaining : R → Option (List ℕ)) (l : Limits) (T : TypeTerm) (v : Value)
    (before : Option (List ℕ)) (mid new : R) (k n : ℕ)
    → new ≡ mid → n ≡ k
    → Hears (read_element l T [] outermost) 0 before (Said v) k (remaining mid)
    → Hears (read_element l T [] outermost) 0 before (Said v) n (remaining new)
element_said remaining l T v before mid new k n same count h =
    subst (λ x. Hears (read_element l T [] outermost) 0 before (Said v) n (remaining x)) (sym same)
    (subst (λ x. Hears (read_element l T [] outermost) 0 before (Said v) x (remaining mid)) (sym count) h)

-- its text is short
pub text_short : (l : Limits) (T : TypeTerm) (p : ℕ) (tag : Tag) (form : Bool) (v w : Value) (j i : ℕ)
    (t u o : Option (List ℕ))
    → l.octets ≤ 2147483647 → i ≤ l.octets → Same v w
    → Hears (next_tag l outermost) 0 t (Said (ElementStands p tag form)) j u
    → Hears (read_type l T [] outermost p tag form) j u (Said v) i o → length (der w) < 2 ^ 32
text_short l T p tag form v w j i t u o few within same x y =
    let short = element_short l T outermost p tag form v 0 j i t u o few x y in
    let is = ap length (same_der v w same) in
    omega arith
