-- A fault of the plain reading stops the element by the fault grammar.
use Rattle.std.proofs.Common.{◌≡◌, ℕ, ◌+◌, ◌<◌, ◌≤◌, ◌⊎◌, inl, inr, ⊎_elim, nat_le, Bool, true, false, List, [], ◌∷◌, ◌++◌, length, Option, Some, None, refl, sym, ◌∙◌, ap, subst, arith}
use Rattle.std.proofs.lemmas.Bool.Decides.{nat_tests}
use Rattle.std.proofs.lemmas.List.{length-append}
use Rattle.tlv_core.specs.Identifier.{Tag, identifier}
use Rattle.tlv_core.specs.Limits.{Limits}
use Rattle.tlv_core.specs.declared.fault.Fault.{Fault}
use Rattle.tlv_core.specs.declared.reason.Reason.{Reason}
use Rattle.tlv_core.specs.declared.reason.Reason.TheVariants.{EmptySet, Extra, Inner, Missing, Trailing, WrongTag}
use Rattle.x690.specs.Contents.{LeafKind, OctetString}
use Rattle.x690.specs.ContentsFaults.{After, LeafStops, MemberStands, StopsHere}
use Rattle.x690.specs.DerTexts.{der}
use Rattle.x690.specs.Fitting.{Fits}
use Rattle.x690.specs.HeaderFaults.{EndsHere, Opens, Stands, StopsInForm}
use Rattle.x690.specs.Layouts.{same_tag}
use Rattle.x690.specs.Points.{Enclosing, EndsAt, EndsWithZeros, NoContainer, fault, outermost}
use Rattle.x690.specs.ReadContents.{add_member, all_members, read_leaf}
use Rattle.x690.specs.ReadHeaders.{ContainerEnds, ElementStands, Ended, Next, each_member, next_tag}
use Rattle.x690.specs.ReadTypes.{apply_rule, due_element, from_inside, is_this_leaf, read_element, read_fields, read_type}
use Rattle.x690.specs.Reading.{Done, Fail, Halted, Outcome, Took, require, run, ◌>>=◌}
use Rattle.x690.specs.Stops.{MembersStop, Stops, StopsBehind, StopsFields}
use Rattle.x690.specs.Takes.{Takes}
use Rattle.x690.specs.TypeTerms.{ChoiceType, ContainingType, Default, DefinedByType, EndOfFields, Fields, LeafType, OpenType, Optional, RefusedType, Required, RuledType, SequenceOfType, SequenceType, SetOfType, TypeTerm}
use Rattle.x690.specs.Values.{Leaf, Same, Value, leaf_contents}
use Rattle.x690_laws.proofs.FaultsOfContents.{leaf_stops, opens_within}
use Rattle.x690_laws.proofs.FaultsOfOpenValues.{open_stops}
use Rattle.x690_laws.proofs.ReadingOfLayouts.{id_some}
use Rattle.x690_laws.proofs.FaultsOfHeaders.{ends_of, stands_of, stands_run, tag_stops}
use Rattle.x690_laws.proofs.ReadingOfHeaders.{require_on}
use Rattle.x690_laws.proofs.ReadingOfElements.{sound}
use Rattle.x690_laws.proofs.ReadingMembers.{TakesOne, container_halts, container_takes, members_end, members_stop}
use Rattle.x690.proofs.Runs.{halted_bind, halted_done, halted_fail, halted_require, halted_choose, no_less, run_bind, took_bind, took_done, took_fail}
use Rattle.x690_laws.proofs.ReadingLayoutsSound.{same_tag_is}
use Rattle.x690_laws.proofs.ReadingSound.{leaf_other, leaf_same}
use Rattle.x690_laws.specs.FaultLaws.{FaultStops}

pub record TookType (l : Limits) (T : TypeTerm) (earlier : List Value) (c : Enclosing) (b : ℕ) (a : List ℕ) (v : Value)
    (q : ℕ) (r : List ℕ) : Type 0 where
  pub count : ℕ
  pub place : q ≡ b + count
  pub takes : Takes l T earlier c b a v count r
  pub limit : q ≤ l.octets
  pub longer : b < q

pub took_type : (l : Limits) (T : TypeTerm) (earlier : List Value) (c : Enclosing) (b : ℕ) (a : List ℕ) (t : Tag)
    (form : Bool) (k : ℕ) (s : List ℕ) (v : Value) (q : ℕ) (r : List ℕ)
    → Stands l c b a t form k s → run (read_type l T earlier c b t form) k s ≡ Took v q r
    → TookType l T earlier c b a v q r
unfolding due_element
took_type l T earlier c b a t form k s v q r st h =
    let x =
    sound l T earlier c b a v q r
    (run_bind _ _ b a (ElementStands b t form) k s (stands_run l c b a t form k s st) ∙ h) in
    let some = id_some t form st.is_tag in
    let pl : k ≡ b + length (identifier t form) = st.behind_is in
    let nl = no_less (read_type l T earlier c b t form) k s v q r h in
    let lim : b + x.0 ≤ l.octets = x.2.in_limit in
    let e1 : q ≡ b + x.0 = x.1 in
    record { count = x.0; place = x.1; takes = x.2; limit = omega arith; longer = omega arith }

pub stands_later : (l : Limits) (c : Enclosing) (k : ℕ) (s : List ℕ) (t : Tag) (form : Bool) (j : ℕ) (u : List ℕ)
    → Stands l c k s t form j u → 0 < j
stands_later l c k s t form j u st =
    let z = id_some t form st.is_tag in let e : j ≡ k + length (identifier t form) = st.behind_is in omega arith

-- members

abbrev pub Counted : ℕ → List Value → Type 0
Counted number values = length values ≡ number

member_takes : (l : Limits) (T : TypeTerm) (i : Enclosing)
    → TakesOne {A = Unit {0}} l i (add_member (read_type l T [] i)) (λ s. tt) (MemberStands l T i) Counted
unfolding add_member
member_takes l T i number s0 s1 k s t form j u q r ok st h =
    let x = took_bind _ _ _ _ _ _ _ h in
    let d = took_done _ _ _ _ _ _ x.next_tag in
    let w = took_type l T [] i k s t form j u x.value x.place x.rest st x.first in
    let e : x.place ≡ q = d.1 in
    let p : x.place ≡ k + w.count = w.place in
    let lon : k < x.place = w.longer in
    let lim : x.place ≤ l.octets = w.limit in
    let c : length s0 ≡ number = ok in
    let g : length (s0 ++ (x.value ∷ [])) ≡ length s1 = ap length d.0 in
    record {
      count = w.count;
      place = omega arith;
      stand = (x.value, subst (λ v. Takes l T [] i k s x.value w.count v) d.2 w.takes);
      ok = omega (arith, length-append s0 (x.value ∷ []));
      longer = omega arith;
      limit = omega arith;
    }

ruled_halts : (p : ℕ) (why : Option Reason) (w : Value) (k : ℕ) (s : List ℕ) (f : Fault)
    → run (apply_rule p why w) k s ≡ Halted f → (x : Reason) × (why ≡ Some x) × (f ≡ fault p x)
unfolding apply_rule
ruled_halts p None w k s f h = absurd (halted_done w k s f h)
ruled_halts p (Some x) w k s f h = (x, refl, halted_fail Value (fault p x) k s f h)

abbrev InsideFault : ℕ → Outcome Value → Fault → Type 0
InsideFault p o f = ((g : Fault) × (o ≡ Halted g) × (f ≡ record { at = p; why = Inner; inside = Some (g.at, g.why) }))
    ⊎ ((v : Value) × (n : ℕ) × (x : ℕ) × (rest : List ℕ) × (o ≡ Took v n (x ∷ rest))
    × (f ≡ record { at = p; why = Inner; inside = Some (n, Trailing) }))

inside_refused : (p : ℕ) (o : Outcome Value) (k : ℕ) (s : List ℕ) (f : Fault) → run (from_inside p o) k s ≡ Halted f
    → InsideFault p o f
unfolding from_inside
inside_refused p (Halted g) k s f h = inl (g, refl, halted_fail Value _ k s f h)
inside_refused p (Took w n []) k s f h = absurd (halted_done w k s f h)
inside_refused p (Took w n (x ∷ rest)) k s f h = inr (w, n, x, rest, refl, halted_fail Value _ k s f h)

inside_given : (p : ℕ) (o : Outcome Value) (w : Value) (k : ℕ) (s : List ℕ) (q : ℕ) (r : List ℕ)
    → run (from_inside p o) k s ≡ Took w q r → (n : ℕ) × (o ≡ Took w n [])
unfolding from_inside
inside_given p (Halted g) w k s q r h = absurd (took_fail _ _ _ _ _ _ h)
inside_given p (Took x e []) w k s q r h = let y = took_done _ _ _ _ _ _ h in (e, ap (λ z. Took z e []) y.0)
inside_given p (Took x e (b ∷ bs)) w k s q r h = absurd (took_fail _ _ _ _ _ _ h)

-- an element due here stops; an outermost one never meets an end
abbrev pub StopsBehindIt : Limits → TypeTerm → List Value → Enclosing → Type 0
StopsBehindIt l T earlier c =
    (b : ℕ) (a : List ℕ) (t : Tag) (form : Bool) (k : ℕ) (s : List ℕ) (f : Fault) → Stands l c b a t form k s
    → run (read_type l T earlier c b t form) k s ≡ Halted f → StopsBehind l T earlier c b t form k s f

here_stops : (l : Limits) (T : TypeTerm) (earlier : List Value) (c : Enclosing) (k : ℕ) (s : List ℕ) (f : Fault)
    → StopsBehindIt l T earlier c → run (read_element l T earlier c) k s ≡ Halted f → Stops l T earlier c k s f
unfolding due_element
here_stops l T earlier c k s f o h =
    ⊎_elim (λ x. inl (inl (tag_stops l c k s f x))) (λ x. go x.0 x.1 x.2 x.3 x.4) (halted_bind (next_tag l c) _ k s f h)
  where
    go : (d : Next) (j : ℕ) (u : List ℕ) → run (next_tag l c) k s ≡ Took d j u
        → run (elim d [
          | ContainerEnds p ↦ Fail (fault p Missing)
          | ElementStands p t form ↦ read_type l T earlier c p t form
        ]) j u
        ≡ Halted f
        → Stops l T earlier c k s f
    go (ContainerEnds p) j u n h =
        let e = ends_of l c k s p j u n in
        inr (e.1, halted_fail Value (fault p Missing) j u f h ∙ ap (λ w. fault w Missing) e.0)
    go (ElementStands p t form) j u n h =
        let st = stands_of l c k s p t form j u n in
        inl (inr (
          t,
          form,
          j,
          u,
          st.1,
          o k s t form j u f st.1 (subst (λ w. run (read_type l T earlier c w t form) j u ≡ Halted f) st.0 h),
        ))

no_end : (l : Limits) (k : ℕ) (s : List ℕ) → EndsHere l outermost k s → ⊥
no_end l k s (inl e) = let x : NoContainer ≡ EndsAt k = e in cc
no_end l k s (inr e) = let x : NoContainer ≡ EndsWithZeros = e.0 in cc

-- all members of a container, or too few of them
values_stop : (l : Limits) (T : TypeTerm) (c : Enclosing) (p : ℕ) (form : Bool) (k : ℕ) (s : List ℕ) (f : Fault) → 0 < k
    → ((i : Enclosing) → StopsBehindIt l T [] i) → run (all_members l c p form (read_type l T [])) k s ≡ Halted f
    → StopsInForm l c p form k s f
    ⊎ ((i : Enclosing) × (j : ℕ) × (u : List ℕ) × Opens l c form k s i j u
    × ((m : ℕ) × After (MemberStands l T i) (λ b k' s'. StopsHere l i (StopsBehind l T [] i) k' s' f) m tt j u))
unfolding all_members add_member
values_stop l T c p form k s f z o h = ⊎_elim
    inl
    (λ x. let le : k ≤ x.1 = x.4 in
    inr (
      x.0,
      x.1,
      x.2,
      x.3,
      members_stop {A = Unit {0}} (add_member (read_type l T [] x.0)) (λ s. tt) (MemberStands l T x.0)
          (λ b. StopsBehind l T [] x.0) Counted l x.0 f (member_takes l T x.0)
          (λ number s0 k' s' t form' j u ok st g.
          ⊎_elim (λ b. o x.0 k' s' t form' j u f st b) (λ b. absurd (halted_done _ _ _ f b.4))
          (halted_bind _ _ j u f g))
          l.octets 0 [] x.1 x.2 (opens_within l c form k s x.0 x.1 x.2 x.3) (omega arith) refl x.5,
    ))
    (container_halts l c p form (λ c'. each_member (add_member (read_type l T [] c')) l.octets l c' []) k s f h)

values_few : (l : Limits) (T : TypeTerm) (c : Enclosing) (p : ℕ) (form : Bool) (k : ℕ) (s : List ℕ) (n : ℕ)
    (e : Ended (List Value)) (q : ℕ) (r : List ℕ) (f : Fault) (few : ℕ → Fault)
    → length e.all < n → f ≡ few e.at → run (all_members l c p form (read_type l T [])) k s ≡ Took e q r
    → (i : Enclosing)
    × (j : ℕ)
    × (u : List ℕ)
    × Opens l c form k s i j u
    × ((m : ℕ) × (m < n) × After (MemberStands l T i) (λ b k' s'. EndsHere l i k' s' × (f ≡ few k')) m tt j u)
unfolding all_members
values_few l T c p form k s n e q r f few g fe h =
    let x =
    container_takes l c p form (λ c'. each_member (add_member (read_type l T [] c')) l.octets l c' []) k s e q r h in
    let y = members_end {A = Unit {0}} (add_member (read_type l T [] x.0)) (λ s. tt) (MemberStands l T x.0) Counted
    (λ b k' s'. EndsHere l x.0 k' s' × (f ≡ few k')) l x.0 e
    (member_takes l T x.0) (λ k' s' a b. (b, fe ∙ ap few a)) l.octets 0 [] x.1 x.2 q r refl x.5 in
    let y1 : length e.all ≡ y.0 + 0 = y.1 in
    (x.0, x.1, x.2, x.3, (y.0, omega arith, y.2))

members_or_few : (l : Limits) (T : TypeTerm) (c : Enclosing) (p : ℕ) (form : Bool) (k : ℕ) (s : List ℕ) (n : ℕ)
    (f : Fault) (few : ℕ → Fault) (made : Ended (List Value) → Value)
    → 0 < k → ((i : Enclosing) → StopsBehindIt l T [] i)
    → run
    (all_members l c p form (read_type l T []) >>= λ e. require (nat_le n (length e.all)) (few e.at) (Done (made e)))
    k s
    ≡ Halted f
    → MembersStop l T n c p form k s (λ inside. StopsBehind l T [] inside) few f
members_or_few l T c p form k s n f few made z o h = ⊎_elim
    (λ y. ⊎_elim inl (λ x. inr (x.0, x.1, x.2, x.3, inl x.4)) (values_stop l T c p form k s f z o y))
    (λ y. ⊎_elim
    (λ g. let g0 : nat_le n (length y.0.all) ≡ false = g.0 in
    let lt : length y.0.all < n = grind (arith, nat_tests) in
    let x = values_few l T c p form k s n y.0 y.1 y.2 f few lt g.1 y.3 in
    inr (x.0, x.1, x.2, x.3, inr x.4))
    (λ g. absurd (halted_done _ _ _ f g.1))
    (halted_require _ _ _ y.1 y.2 f y.4))
    (halted_bind _ _ k s f h)

leaf_whole : (d : ℕ) (w : Tag) (r : Value) (P : Value → Type 0) → ((o : List ℕ) × (r ≡ Leaf w o)) → P r
    → P (Leaf w (leaf_contents r))
leaf_whole d w r P h p = subst P (h.1 ∙ ap (λ o. Leaf w o) (sym (ap leaf_contents h.1))) p

leaf_value : (l : Limits) (w : Tag) (c : Enclosing) (b : ℕ) (a : List ℕ) (v : Value) (n : ℕ) (r : List ℕ)
    → Takes l (LeafType w OctetString) [] c b a v n r
    → Takes l (LeafType w OctetString) [] c b a (Leaf w (leaf_contents v)) n r
unfolding Fits
leaf_value l w c b a v n r h =
    leaf_whole 0 w v (λ x. Takes l (LeafType w OctetString) [] c b a x n r) (h.fits.1, h.fits.3) h

pub next_stops : (l : Limits) (fs : Fields) (earlier : List Value) (c : Enclosing) (k : ℕ) (s : List ℕ) (f : Fault)
    → run (next_tag l c) k s ≡ Halted f → StopsFields l fs earlier c k s f
unfolding StopsFields
next_stops l EndOfFields earlier c k s f h = inl (tag_stops l c k s f h)
next_stops l (Required T fs) earlier c k s f h = inl (tag_stops l c k s f h)
next_stops l (Optional T fs) earlier c k s f h = inl (tag_stops l c k s f h)
next_stops l (Default w o T fs) earlier c k s f h = inl (tag_stops l c k s f h)

abbrev DefaultStops : Limits → Fields → Tag → List ℕ → List Value → Enclosing → Value → ℕ → List ℕ → Fault → Type 0
DefaultStops l fs t o earlier c v q r f =
    ((is_this_leaf t o v ≡ true) × StopsFields l fs earlier c q r f)
    ⊎ ((is_this_leaf t o v ≡ false) × StopsFields l fs (earlier ++ (v ∷ [])) c q r f)

next_or : (l : Limits) (fs : Fields) (t : Tag) (o : List ℕ) (earlier : List Value) (c : Enclosing) (v : Value) (q : ℕ)
    (r : List ℕ) (f : Fault) (b : Bool)
    → is_this_leaf t o v ≡ b → run (next_tag l c) q r ≡ Halted f → DefaultStops l fs t o earlier c v q r f
next_or l fs t o earlier c v q r f true e h = inl (e, next_stops l fs earlier c q r f h)
next_or l fs t o earlier c v q r f false e h = inr (e, next_stops l fs (earlier ++ (v ∷ [])) c q r f h)

default_stops : (l : Limits) (fs : Fields) (t : Tag) (o : List ℕ) (earlier : List Value) (c : Enclosing) (v : Value)
    (k n q : ℕ) (r : List ℕ) (f : Fault)
    → q ≡ k + n → DefaultStops l fs t o earlier c v q r f
    → (Same v (Leaf t o) × StopsFields l fs earlier c (k + n) r f)
    ⊎ ((Same v (Leaf t o) → ⊥) × StopsFields l fs (earlier ++ (v ∷ [])) c (k + n) r f)
default_stops l fs t o earlier c v k n q r f e h = ⊎_elim
    (λ a. inl (leaf_same t o v a.0, subst (λ b. StopsFields l fs earlier c b r f) e a.1))
    (λ a. inr (leaf_other t o v a.0, subst (λ b. StopsFields l fs (earlier ++ (v ∷ [])) c b r f) e a.1))
    h

-- a leaf with its own tag is read under the tag that stands there
leaf_at : (l : Limits) (c : Enclosing) (w : Tag) (kind : LeafKind) (b : ℕ) (a : List ℕ) (t : Tag) (form : Bool) (k : ℕ)
    (s : List ℕ) (f : Fault)
    → Stands l c b a t form k s → same_tag w t ≡ true → run (read_leaf l c kind b w form) k s ≡ Halted f
    → LeafStops l c kind b t form k s f
leaf_at l c w kind b a t form k s f st e h =
    leaf_stops l c kind b t form k s f (stands_later l c b a t form k s st)
    (subst (λ v. run (read_leaf l c kind b v form) k s ≡ Halted f) (same_tag_is w t e) h)

mutual
  unfolding read_type StopsBehind

  pub behind_stops : (l : Limits) (T : TypeTerm) (earlier : List Value) (c : Enclosing) → StopsBehindIt l T earlier c
  behind_stops l (LeafType w kind) earlier c b a t form k s f st h = ⊎_elim
      inl
      (λ x. inr (x.0, leaf_at l c w kind b a t form k s f st x.0 x.1))
      (halted_require _ _ _ k s f h)
  behind_stops l OpenType earlier c b a t form k s f st h =
      open_stops l.depth l f c b a t form k s (omega arith) (stands_later l c b a t form k s st) st h
  behind_stops l (SequenceOfType w m T) earlier c b a t form k s f st h = ⊎_elim
      inl
      (λ x. inr (
        x.0,
        members_or_few l T c b form k s m f (λ end. fault end Missing) _ (stands_later l c b a t form k s st)
            (λ i. behind_stops l T [] i) x.1,
      ))
      (halted_require _ _ _ k s f h)
  behind_stops l (SetOfType w m T) earlier c b a t form k s f st h = ⊎_elim
      inl
      (λ x. inr (
        x.0,
        members_or_few l T c b form k s m f (λ end. fault b EmptySet) _ (stands_later l c b a t form k s st)
            (λ i. behind_stops l T [] i) x.1,
      ))
      (halted_require _ _ _ k s f h)
  behind_stops l (SequenceType w fs) earlier c b a t form k s f st h = ⊎_elim
      inl
      (λ x. ⊎_elim
      (λ y. ⊎_elim
      (λ z. inr (x.0, inl z))
      (λ z. inr (
        x.0,
        inr (
          z.0,
          z.1,
          z.2,
          z.3,
          ⊎_elim
              (λ e. next_stops l fs [] z.0 z.1 z.2 f e)
              (λ e. fields_stop l fs [] z.0 z.1 z.2 e.0 e.1 e.2 f e.3 e.4)
              (halted_bind (next_tag l z.0) _ z.1 z.2 f z.5),
        ),
      ))
      (container_halts l c b form (λ c'. next_tag l c' >>= λ d. read_fields l fs [] c' d) k s f y))
      (λ y. absurd (halted_done _ _ _ f y.4))
      (halted_bind _ _ k s f x.1))
      (halted_require _ _ _ k s f h)
  behind_stops l (ContainingType w q T) earlier c b a t form k s f st h = ⊎_elim
      inl
      (λ x. ⊎_elim
      (λ y. inr (x.0, inl (leaf_at l c w OctetString b a t form k s f st x.0 y)))
      (λ y.
      let tk =
      took_type l (LeafType w OctetString) [] c b a t form k s y.0 y.1 y.2 st (require_on _ _ _ k s x.0 ∙ y.3) in
      inr (
        x.0,
        inr (
          a,
          leaf_contents y.0,
          tk.count,
          y.2,
          st,
          leaf_value l w c b a y.0 tk.count y.2 tk.takes,
          ⊎_elim
              (λ z. ⊎_elim
              (λ g. inl (
                g.0,
                ⊎_elim (λ e. e) (λ e. absurd (no_end l 0 (leaf_contents y.0) e.0))
                    (here_stops l T earlier outermost 0 (leaf_contents y.0) g.0
                    (behind_stops l T earlier outermost) g.1),
                g.2,
              ))
              (λ g. let e = sound l T earlier outermost 0 (leaf_contents y.0) g.0 g.1 (g.2 ∷ g.3) g.4 in
              let e1 : g.1 ≡ 0 + e.0 = e.1 in
              let e2 : g.1 ≡ e.0 = omega arith in
              inr (inl (
                g.0,
                e.0,
                g.2,
                g.3,
                e.2,
                g.5 ∙ ap (λ u. record { at = b; why = Inner; inside = Some (u, Trailing) }) e2,
              )))
              (inside_refused b (run (read_element l T earlier outermost) 0 (leaf_contents y.0)) y.1 y.2 f z))
              (λ z.
              let g =
              inside_given b (run (read_element l T earlier outermost) 0 (leaf_contents y.0)) z.0 y.1 y.2 z.1 z.2 z.3 in
              let e = sound l T earlier outermost 0 (leaf_contents y.0) z.0 g.0 [] g.1 in
              let r = ruled_halts b (q earlier z.0) (Leaf w (der z.0)) z.1 z.2 f z.4 in
              inr (inr (z.0, e.0, r.0, e.2, r.1, r.2)))
              (halted_bind _ _ y.1 y.2 f y.4),
        ),
      ))
      (halted_bind _ _ k s f x.1))
      (halted_require _ _ _ k s f h)
  behind_stops l (RuledType q T) earlier c b a t form k s f st h = ⊎_elim
      (λ y. inl (behind_stops l T earlier c b a t form k s f st y))
      (λ y. let w = took_type l T earlier c b a t form k s y.0 y.1 y.2 st y.3 in
      let r = ruled_halts b (q earlier y.0) y.0 y.1 y.2 f y.4 in
      inr (a, y.0, w.count, y.2, r.0, st, w.takes, r.1, r.2))
      (halted_bind _ _ k s f h)
  behind_stops l (RefusedType w why) earlier c b a t form k s f st h = ⊎_elim
      inl
      (λ x. inr (x.0, halted_fail Value (fault b why) k s f x.1))
      (halted_require _ _ _ k s f h)
  behind_stops l (DefinedByType path os A B) earlier c b a t form k s f st h = ⊎_elim
      (λ x. inl (x.0, behind_stops l A earlier c b a t form k s f st x.1))
      (λ x. inr (x.0, behind_stops l B earlier c b a t form k s f st x.1))
      (halted_choose _ _ _ k s f h)
  behind_stops l (ChoiceType A B) earlier c b a t form k s f st h = ⊎_elim
      (λ x. inl (x.0, behind_stops l A earlier c b a t form k s f st x.1))
      (λ x. inr (x.0, behind_stops l B earlier c b a t form k s f st x.1))
      (halted_choose _ _ _ k s f h)

  fields_stop : (l : Limits) (fs : Fields) (earlier : List Value) (c : Enclosing) (k : ℕ) (s : List ℕ) (d : Next)
      (j : ℕ) (u : List ℕ) (f : Fault)
      → run (next_tag l c) k s ≡ Took d j u → run (read_fields l fs earlier c d) j u ≡ Halted f
      → StopsFields l fs earlier c k s f
  fields_stop l EndOfFields earlier c k s (ContainerEnds p) j u f n h = absurd (halted_done _ j u f h)
  fields_stop l EndOfFields earlier c k s (ElementStands p t form) j u f n h =
      let st = stands_of l c k s p t form j u n in
      inr (t, form, j, u, st.1, halted_fail (List Value) (fault p Extra) j u f h ∙ ap (λ w. fault w Extra) st.0)
  fields_stop l (Required T fs) earlier c k s (ContainerEnds p) j u f n h =
      let e = ends_of l c k s p j u n in
      inr (inl (e.1, halted_fail (List Value) (fault p Missing) j u f h ∙ ap (λ w. fault w Missing) e.0))
  fields_stop l (Required T fs) earlier c k s (ElementStands p t form) j u f n h =
      let st = stands_of l c k s p t form j u n in
      ⊎_elim
      (λ x. inr (inr (inl (t, form, j, u, st.1, inl (x.0, x.1 ∙ ap (λ w. fault w WrongTag) st.0)))))
      (λ x. ⊎_elim
      (λ y.
      inr (inr (inl (
        t,
        form,
        j,
        u,
        st.1,
        inr (
          x.0,
          behind_stops l T earlier c k s t form j u f st.1
              (subst (λ w. run (read_type l T earlier c w t form) j u ≡ Halted f) st.0 y),
        ),
      ))))
      (λ y.
      let w = took_type l T earlier c k s t form j u y.0 y.1 y.2 st.1
      (subst (λ w. run (read_type l T earlier c w t form) j u ≡ Took y.0 y.1 y.2) st.0 y.3) in
      inr (inr (inr (
        y.0,
        w.count,
        y.2,
        w.takes,
        subst (λ b. StopsFields l fs (earlier ++ (y.0 ∷ [])) c b y.2 f) w.place
            (⊎_elim
            (λ z. next_stops l fs (earlier ++ (y.0 ∷ [])) c y.1 y.2 f z)
            (λ z.
            ⊎_elim (λ e. fields_stop l fs (earlier ++ (y.0 ∷ [])) c y.1 y.2 z.0 z.1 z.2 f z.3 e)
            (λ e. absurd (halted_done _ _ _ f e.4)) (halted_bind _ _ z.1 z.2 f z.4))
            (halted_bind (next_tag l c) _ y.1 y.2 f y.4)),
      ))))
      (halted_bind (read_type l T earlier c p t form) _ j u f x.1))
      (halted_require _ _ _ j u f h)
  fields_stop l (Optional T fs) earlier c k s (ContainerEnds p) j u f n h =
      inr (inl ((ends_of l c k s p j u n).1, fields_stop l fs earlier c k s (ContainerEnds p) j u f n h))
  fields_stop l (Optional T fs) earlier c k s (ElementStands p t form) j u f n h =
      let st = stands_of l c k s p t form j u n in
      ⊎_elim
      (λ x. ⊎_elim
      (λ y.
      inr (inr (inl (
        t,
        form,
        j,
        u,
        st.1,
        inr (
          x.0,
          behind_stops l T earlier c k s t form j u f st.1
              (subst (λ w. run (read_type l T earlier c w t form) j u ≡ Halted f) st.0 y),
        ),
      ))))
      (λ y.
      let w = took_type l T earlier c k s t form j u y.0 y.1 y.2 st.1
      (subst (λ w. run (read_type l T earlier c w t form) j u ≡ Took y.0 y.1 y.2) st.0 y.3) in
      inr (inr (inr (
        y.0,
        w.count,
        y.2,
        w.takes,
        subst (λ b. StopsFields l fs (earlier ++ (y.0 ∷ [])) c b y.2 f) w.place
            (⊎_elim
            (λ z. next_stops l fs (earlier ++ (y.0 ∷ [])) c y.1 y.2 f z)
            (λ z.
            ⊎_elim (λ e. fields_stop l fs (earlier ++ (y.0 ∷ [])) c y.1 y.2 z.0 z.1 z.2 f z.3 e)
            (λ e. absurd (halted_done _ _ _ f e.4)) (halted_bind _ _ z.1 z.2 f z.4))
            (halted_bind (next_tag l c) _ y.1 y.2 f y.4)),
      ))))
      (halted_bind (read_type l T earlier c p t form) _ j u f x.1))
      (λ x.
      inr
      (inr (inl (t, form, j, u, st.1, inl (x.0, fields_stop l fs earlier c k s (ElementStands p t form) j u f n x.1)))))
      (halted_choose _ _ _ j u f h)
  fields_stop l (Default i io T fs) earlier c k s (ContainerEnds p) j u f n h =
      inr (inl ((ends_of l c k s p j u n).1, fields_stop l fs earlier c k s (ContainerEnds p) j u f n h))
  fields_stop l (Default i io T fs) earlier c k s (ElementStands p t form) j u f n h =
      let st = stands_of l c k s p t form j u n in
      ⊎_elim
      (λ x. ⊎_elim
      (λ y.
      inr (inr (inl (
        t,
        form,
        j,
        u,
        st.1,
        inr (
          x.0,
          behind_stops l T earlier c k s t form j u f st.1
              (subst (λ w. run (read_type l T earlier c w t form) j u ≡ Halted f) st.0 y),
        ),
      ))))
      (λ y.
      let w = took_type l T earlier c k s t form j u y.0 y.1 y.2 st.1
      (subst (λ w. run (read_type l T earlier c w t form) j u ≡ Took y.0 y.1 y.2) st.0 y.3) in
      inr (inr (inr (
        y.0,
        w.count,
        y.2,
        w.takes,
        default_stops l fs i io earlier c y.0 k w.count y.1 y.2 f w.place
            (⊎_elim
            (λ z. next_or l fs i io earlier c y.0 y.1 y.2 f (is_this_leaf i io y.0) refl z)
            (λ z. ⊎_elim
            (λ e. inl (e.0, fields_stop l fs earlier c y.1 y.2 z.0 z.1 z.2 f z.3 e.1))
            (λ e. inr (
              e.0,
              ⊎_elim (λ g. fields_stop l fs (earlier ++ (y.0 ∷ [])) c y.1 y.2 z.0 z.1 z.2 f z.3 g)
                  (λ g. absurd (halted_done _ _ _ f g.4)) (halted_bind _ _ z.1 z.2 f e.1),
            ))
            (halted_choose _ _ _ z.1 z.2 f z.4))
            (halted_bind (next_tag l c) _ y.1 y.2 f y.4)),
      ))))
      (halted_bind (read_type l T earlier c p t form) _ j u f x.1))
      (λ x.
      inr
      (inr (inl (t, form, j, u, st.1, inl (x.0, fields_stop l fs earlier c k s (ElementStands p t form) j u f n x.1)))))
      (halted_choose _ _ _ j u f h)

pub faithful : FaultStops
faithful l T earlier c k s f h = here_stops l T earlier c k s f (behind_stops l T earlier c) h
