-- A fault that stops the element by the fault grammar is the one that the plain reading finds.
use Rattle.std.proofs.Common.{◌≡◌, ℕ, ◌+◌, ◌<◌, ◌⊎◌, inl, inr, ⊎_elim, nat_le, Bool, true, false, List, [], ◌∷◌, ◌++◌, length, Option, Some, None, refl, sym, ◌∙◌, ap, subst, arith}
use Rattle.std.proofs.lemmas.Bool.Decides.{nat_tests}
use Rattle.std.proofs.lemmas.List.{length-append}
use Rattle.tlv_core.specs.Identifier.{Tag}
use Rattle.tlv_core.specs.Limits.{Limits}
use Rattle.tlv_core.specs.declared.fault.Fault.{Fault}
use Rattle.tlv_core.specs.declared.reason.Reason.{Reason}
use Rattle.tlv_core.specs.declared.reason.Reason.TheVariants.{EmptySet, Extra, Inner, Missing, Trailing}
use Rattle.x690.specs.Contents.{LeafKind, OctetString}
use Rattle.x690.specs.ContentsFaults.{LeafStops, MemberStands, StopsHere}
use Rattle.x690.specs.DerTexts.{der}
use Rattle.x690.specs.HeaderFaults.{EndsHere, Stands}
use Rattle.x690.specs.Layouts.{same_tag}
use Rattle.x690.specs.Lists.{Each, one_of}
use Rattle.x690.specs.Points.{Enclosing, EndsAt, NoContainer, fault, outermost}
use Rattle.x690.specs.Premises.{Fair, FairFields}
use Rattle.x690.specs.ReadContents.{add_member, all_members, read_leaf}
use Rattle.x690.specs.ReadHeaders.{ContainerEnds, ElementStands, Ended, Next, each_member, in_container, next_tag}
use Rattle.x690.specs.ReadTypes.{apply_rule, due_element, from_inside, is_this_leaf, read_element, read_fields, read_type}
use Rattle.x690.specs.Reading.{Done, Fail, Halted, Outcome, Took, choose, require, run, ◌>>=◌}
use Rattle.x690.specs.Stops.{MembersStop, StopsBehind, StopsFields}
use Rattle.x690.specs.Takes.{Proper, Takes}
use Rattle.x690.specs.TypeTerms.{ChoiceType, ContainingType, Default, DefinedByType, EndOfFields, Fields, LeafType, OpenType, Optional, RefusedType, Required, RuledType, SequenceOfType, SequenceType, SetOfType, TypeTerm, fits_tag}
use Rattle.x690.specs.Values.{Leaf, Same, Sequence, SetOf, Value}
use Rattle.x690_laws.proofs.ReadingComplete.{leaf_test, leaf_untest}
use Rattle.x690_laws.proofs.FaultsOfContents.{leaf_halts, opens_later, opens_within, proper_inside}
use Rattle.x690_laws.proofs.FaultsOfOpenValues.{open_halts}
use Rattle.x690_laws.proofs.FaultsOfHeaders.{ends_run, fail_on, require_off, stands_of, stands_run, tag_halts}
use Rattle.x690_laws.proofs.ReadingOfHeaders.{done_on, require_on, choose_first, choose_second}
use Rattle.x690_laws.proofs.ReadingOfElements.{complete, complete_with, each_refl, exclusive}
use Rattle.x690_laws.proofs.ReadingMembers.{GivesOne, form_halts, members_ended, members_halt, opened_on}
use Rattle.x690_laws.proofs.ValuesOfTrees.{each_snoc, leaf_at_same}
use Rattle.x690_laws.proofs.TextsSpell.{begins_fits}
use Rattle.x690.proofs.Runs.{halt_bind, halted_bind, run_bind, took_bind, took_fail, took_require}
use Rattle.x690_laws.proofs.ValuesSame.{same_sym, same_trans}
use Rattle.x690_laws.proofs.ReadingLayoutsSound.{same_tag_is}
use Rattle.x690_laws.proofs.ReadingSound.{type_took}
use Rattle.x690_laws.proofs.FaultsOfReading.{Counted, behind_stops, stands_later, took_type}
use Rattle.x690_laws.specs.FaultLaws.{BehindStops, OneFault, StopIsFault}
use Rattle.x690_laws.specs.ReadingLaws.{BehindIsTaken, TakenIsBehind}

-- an element that is taken: its identifier, and what is after
record Both (l : Limits) (T : TypeTerm) (earlier : List Value) (c : Enclosing) (k : ℕ) (s : List ℕ) (w : Value) (q : ℕ)
    (r : List ℕ) : Type 0 where
  tag : Tag
  form : Bool
  behind : ℕ
  rest : List ℕ
  stands : Stands l c k s tag form behind rest
  judged : run (read_type l T earlier c k tag form) behind rest ≡ Took w q r

both_of : (l : Limits) (T : TypeTerm) (earlier : List Value) (c : Enclosing) (k : ℕ) (s : List ℕ) (w : Value) (q : ℕ)
    (r : List ℕ)
    → run (read_element l T earlier c) k s ≡ Took w q r → Both l T earlier c k s w q r
unfolding due_element
both_of l T earlier c k s w q r h = let x = took_bind _ _ _ _ _ _ _ h in go x.value x.place x.rest x.first x.next_tag
  where
    go : (d : Next) (j : ℕ) (u : List ℕ) → run (next_tag l c) k s ≡ Took d j u
        → run (elim d [
          | ContainerEnds p ↦ Fail (fault p Missing)
          | ElementStands p t form ↦ read_type l T earlier c p t form
        ]) j u
        ≡ Took w q r
        → Both l T earlier c k s w q r
    go (ContainerEnds p) j u n h = absurd (took_fail _ _ _ _ _ _ h)
    go (ElementStands p t form) j u n h =
        let st = stands_of l c k s p t form j u n in
        record {
          tag = t;
          form = form;
          behind = j;
          rest = u;
          stands = st.1;
          judged = subst (λ v. run (read_type l T earlier c v t form) j u ≡ Took w q r) st.0 h;
        }

begins_took : (l : Limits) (T : TypeTerm) (earlier : List Value) (c : Enclosing) (k : ℕ) (s : List ℕ) (t : Tag)
    (form : Bool) (j : ℕ) (u : List ℕ) (w : Value) (q : ℕ) (r : List ℕ)
    → Stands l c k s t form j u → run (read_type l T earlier c k t form) j u ≡ Took w q r → fits_tag T t ≡ true
begins_took l T earlier c k s t form j u w q r st h =
    let m = type_took l T earlier c w k t form j u q r st.is_tag st.depth_fits h in
    sym (ap (fits_tag T) m.tagged) ∙ begins_fits l.depth T earlier m.tree w m.fact

none_around : Proper outermost
none_around e h = absurd (let x : NoContainer ≡ EndsAt e = h in cc)

-- one element stands at a place
same_stands : (l : Limits) (c : Enclosing) (b : ℕ) (a : List ℕ) (t t' : Tag) (form form' : Bool) (k k' : ℕ)
    (s s' : List ℕ)
    → Stands l c b a t form k s → Stands l c b a t' form' k' s'
    → (P : Tag → Bool → ℕ → List ℕ → Type 0) → P t form k s → P t' form' k' s'
same_stands l c b a t t' form form' k k' s s' h g P x =
    let e : Took (ElementStands b t form) k s ≡ Took (ElementStands b t' form') k' s' =
    sym (stands_run l c b a t form k s h) ∙ stands_run l c b a t' form' k' s' g in
    let e1 : t ≡ t' = cc in let e2 : form ≡ form' = cc in let e3 : k ≡ k' = cc in let e4 : s ≡ s' = cc in
    subst (λ w. P t' form' k' w) e4
    (subst (λ w. P t' form' w s) e3 (subst (λ w. P t' w k s) e2 (subst (λ w. P w form k s) e1 x)))

-- members

abbrev Back : Limits → TypeTerm → Enclosing → Fault → Type 0
Back l T i f =
    (p : ℕ) (t : Tag) (form : Bool) (k : ℕ) (s : List ℕ) → 0 < k → StopsBehind l T [] i p t form k s f
    → run (read_type l T [] i p t form) k s ≡ Halted f

member_gives : (l : Limits) (T : TypeTerm) (i : Enclosing) → Fair T → Proper i
    → GivesOne {A = Unit {0}} l i (add_member (read_type l T [] i)) (λ s. tt) (MemberStands l T i) Counted
unfolding add_member
member_gives l T i fr pr number s0 k s a n r ok (v, h) =
    let x = complete_with l T [] [] i k s v n r fr pr tt h in
    let b = both_of l T [] i k s x.0 (k + n) r x.2 in
    let w = took_type l T [] i k s b.tag b.form b.behind b.rest x.0 (k + n) r b.stands b.judged in
    let lon : k < k + n = w.longer in
    let c : length s0 ≡ number = ok in
    record {
      tag = b.tag;
      form = b.form;
      behind = b.behind;
      rest = b.rest;
      value = s0 ++ (x.0 ∷ []);
      stands = b.stands;
      takes = run_bind _ _ b.behind b.rest x.0 (k + n) r b.judged ∙ done_on _ (k + n) r;
      viewed = refl;
      ok = omega (arith, length-append s0 (x.0 ∷ []));
      longer = omega arith;
      limit = w.limit;
    }

added : (l : Limits) (T : TypeTerm) (i : Enclosing) (s0 : List Value) (k : ℕ) (t : Tag) (form : Bool) (j : ℕ)
    (u : List ℕ) (f : Fault)
    → run (read_type l T [] i k t form) j u ≡ Halted f
    → run (add_member (read_type l T [] i) s0 k t form) j u ≡ Halted f
unfolding add_member
added l T i s0 k t form j u f g = halt_bind _ _ j u f g

members_off : (l : Limits) (T : TypeTerm) (c : Enclosing) (p : ℕ) (form : Bool) (k : ℕ) (s : List ℕ) (n : ℕ) (f : Fault)
    (few : ℕ → Fault) (made : Ended (List Value) → Value)
    → Fair T → 0 < k → ((i : Enclosing) → Proper i → Back l T i f)
    → MembersStop l T n c p form k s (λ inside. StopsBehind l T [] inside) few f
    → run
    (all_members l c p form (read_type l T []) >>= λ e. require (nat_le n (length e.all)) (few e.at) (Done (made e)))
    k s
    ≡ Halted f
unfolding all_members
members_off l T c p form k s n f few made fr z o (inl h) =
    halt_bind (in_container l c p form (λ c'. each_member (add_member (read_type l T [] c')) l.octets l c' []))
    (λ e. require (nat_le n (length e.all)) (few e.at) (Done (made e))) k s f
    (form_halts l c p form (λ c'. each_member (add_member (read_type l T [] c')) l.octets l c' []) k s f h)
members_off l T c p form k s n f few made fr z o (inr (i, j, u, op, inl (m, h))) =
    let pr = proper_inside c i j op.1 op.3 in
    let le = opens_later l c form k s i j u op in
    halt_bind (in_container l c p form (λ c'. each_member (add_member (read_type l T [] c')) l.octets l c' []))
    (λ e. require (nat_le n (length e.all)) (few e.at) (Done (made e))) k s f
    (opened_on l c p form (λ c'. each_member (add_member (read_type l T [] c')) l.octets l c' []) k s i j u op
    ∙ members_halt {A = Unit {0}} (add_member (read_type l T [] i)) (λ s. tt) (MemberStands l T i)
    (λ b. StopsBehind l T [] i) Counted l i f (member_gives l T i fr pr)
    (λ number s0 k' s' t form' j' u' ok st g.
    added l T i s0 k' t form' j' u' f (o i pr k' t form' j' u' (stands_later l i k' s' t form' j' u' st) g))
    m l.octets 0 [] j u (opens_within l c form k s i j u op) (omega arith) refl h)
members_off l T c p form k s n f few made fr z o (inr (i, j, u, op, inr (m, lt, h))) =
    let pr = proper_inside c i j op.1 op.3 in
    let le = opens_later l c form k s i j u op in
    let x = members_ended {A = Unit {0}} (add_member (read_type l T [] i)) (λ s. tt) (MemberStands l T i) Counted
    (λ b k' s'. EndsHere l i k' s' × (f ≡ few k')) (λ b k'. f ≡ few k') l i
    (member_gives l T i fr pr) (λ a k' s' b. b) m l.octets 0 [] j u (opens_within l c form k s i j u op)
    (omega arith) refl h in
    let xc : length x.all ≡ m + 0 = x.ok in
    let y : length x.all < n = omega arith in
    run_bind (in_container l c p form (λ c'. each_member (add_member (read_type l T [] c')) l.octets l c' []))
    (λ e. require (nat_le n (length e.all)) (few e.at) (Done (made e))) k s
    (record { all = x.all; at = x.at }) x.place x.rest
    (opened_on l c p form (λ c'. each_member (add_member (read_type l T [] c')) l.octets l c' []) k s i j u op ∙ x.is)
    ∙ require_off _ _ _ x.place x.rest f (grind (arith, nat_tests)) x.holds

ruled_off : (p : ℕ) (why : Option Reason) (x : Reason) (w : Value) (k : ℕ) (s : List ℕ) (f : Fault) → why ≡ Some x
    → f ≡ fault p x → run (apply_rule p why w) k s ≡ Halted f
unfolding apply_rule
ruled_off p None x w k s f e z = cc
ruled_off p (Some y) x w k s f e z =
    let e' : y ≡ x = cc in fail_on Value (fault p y) k s ∙ ap (λ a. Halted (fault p a)) e' ∙ ap Halted (sym z)

inside_halted : (p : ℕ) (o : Outcome Value) (g : Fault) (k : ℕ) (s : List ℕ) → o ≡ Halted g
    → run (from_inside p o) k s ≡ Halted (record { at = p; why = Inner; inside = Some (g.at, g.why) })
unfolding from_inside
inside_halted p (Halted a) g k s e =
    let e' : a ≡ g = cc in
    fail_on Value _ k s ∙ ap (λ b. Halted (record { at = p; why = Inner; inside = Some (b.at, b.why) })) e'
inside_halted p (Took w n r) g k s e = cc

inside_more : (p : ℕ) (o : Outcome Value) (w : Value) (n x : ℕ) (rest : List ℕ) (k : ℕ) (s : List ℕ)
    → o ≡ Took w n (x ∷ rest)
    → run (from_inside p o) k s ≡ Halted (record { at = p; why = Inner; inside = Some (n, Trailing) })
unfolding from_inside
inside_more p (Halted a) w n x rest k s e = cc
inside_more p (Took v m []) w n x rest k s e = cc
inside_more p (Took v m (b ∷ bs)) w n x rest k s e =
    let e' : m ≡ n = cc in
    fail_on Value _ k s ∙ ap (λ a. Halted (record { at = p; why = Inner; inside = Some (a, Trailing) })) e'

inside_good : (p : ℕ) (o : Outcome Value) (w : Value) (n k : ℕ) (s : List ℕ) → o ≡ Took w n []
    → run (from_inside p o) k s ≡ Took w k s
unfolding from_inside
inside_good p (Halted a) w n k s e = cc
inside_good p (Took v m []) w n k s e = let e' : v ≡ w = cc in done_on v k s ∙ ap (λ a. Took a k s) e'
inside_good p (Took v m (b ∷ bs)) w n k s e = cc

-- the fields after an element, and the element in front of theirs
front_halts : (l : Limits) (fs : Fields) (earlier : List Value) (c : Enclosing) (w : Value) (k : ℕ) (s : List ℕ)
    (f : Fault)
    → run (next_tag l c >>= λ d. read_fields l fs earlier c d) k s ≡ Halted f
    → run (next_tag l c >>= λ d. read_fields l fs earlier c d >>= λ vs. Done (w ∷ vs)) k s ≡ Halted f
front_halts l fs earlier c w k s f h = ⊎_elim
    (λ a. halt_bind (next_tag l c) _ k s f a)
    (λ a. run_bind (next_tag l c) _ k s a.0 a.1 a.2 a.3 ∙ halt_bind (read_fields l fs earlier c a.0) _ a.1 a.2 f a.4)
    (halted_bind (next_tag l c) _ k s f h)

-- the same fields, where what stands here is passed over
passed : (l : Limits) (fs gs : Fields) (earlier : List Value) (c : Enclosing) (k : ℕ) (s : List ℕ) (d : Next) (j : ℕ)
    (u : List ℕ) (f : Fault)
    → run (next_tag l c) k s ≡ Took d j u
    → run (read_fields l gs earlier c d) j u ≡ run (read_fields l fs earlier c d) j u
    → run (next_tag l c >>= λ d. read_fields l fs earlier c d) k s ≡ Halted f
    → run (next_tag l c >>= λ d. read_fields l gs earlier c d) k s ≡ Halted f
passed l fs gs earlier c k s d j u f n e h =
    run_bind (next_tag l c) _ k s d j u n ∙ e ∙ sym (run_bind (next_tag l c) _ k s d j u n) ∙ h

default_front : (l : Limits) (fs : Fields) (t : Tag) (o : List ℕ) (earlier : List Value) (c : Enclosing) (w : Value)
    (k : ℕ) (s : List ℕ) (f : Fault)
    → (((is_this_leaf t o w ≡ true) × (run (next_tag l c >>= λ d. read_fields l fs earlier c d) k s ≡ Halted f))
    ⊎ ((is_this_leaf t o w ≡ false)
    × (run (next_tag l c >>= λ d. read_fields l fs (earlier ++ (w ∷ [])) c d) k s ≡ Halted f)))
    → run (next_tag l c
    >>= λ d.
    choose (is_this_leaf t o w) (read_fields l fs earlier c d)
    (read_fields l fs (earlier ++ (w ∷ [])) c d >>= λ vs. Done (w ∷ vs))) k s
    ≡ Halted f
default_front l fs t o earlier c w k s f h = ⊎_elim
    (λ a. ⊎_elim
    (λ b. halt_bind (next_tag l c) _ k s f b)
    (λ b. run_bind (next_tag l c) _ k s b.0 b.1 b.2 b.3 ∙ choose_first _ _ _ b.1 b.2 a.0 ∙ b.4)
    (halted_bind (next_tag l c) _ k s f a.1))
    (λ a. ⊎_elim
    (λ b. halt_bind (next_tag l c) _ k s f b)
    (λ b.
    run_bind (next_tag l c) _ k s b.0 b.1 b.2 b.3 ∙ choose_second _ _ _ b.1 b.2 a.0
    ∙ halt_bind (read_fields l fs (earlier ++ (w ∷ [])) c b.0) _ b.1 b.2 f b.4)
    (halted_bind (next_tag l c) _ k s f a.1))
    h

abbrev BackIn : Limits → TypeTerm → List Value → List Value → Enclosing → Type 0
BackIn l T earlier earlier' c =
    (p : ℕ) (t : Tag) (form : Bool) (k : ℕ) (s : List ℕ) (f : Fault) → 0 < k → StopsBehind l T earlier c p t form k s f
    → run (read_type l T earlier' c p t form) k s ≡ Halted f

here_halts : (l : Limits) (T : TypeTerm) (earlier earlier' : List Value) (c : Enclosing) (k : ℕ) (s : List ℕ)
    (f : Fault)
    → BackIn l T earlier earlier' c → StopsHere l c (StopsBehind l T earlier c) k s f
    → run (read_element l T earlier' c) k s ≡ Halted f
unfolding due_element
here_halts l T earlier earlier' c k s f o h = ⊎_elim
    (λ a. halt_bind (next_tag l c) _ k s f (tag_halts l c k s f a))
    (λ a.
    run_bind (next_tag l c) _ k s (ElementStands k a.0 a.1) a.2 a.3 (stands_run l c k s a.0 a.1 a.2 a.3 a.4)
    ∙ o k a.0 a.1 a.2 a.3 f (stands_later l c k s a.0 a.1 a.2 a.3 a.4) a.5)
    h

leaf_off : (l : Limits) (c : Enclosing) (w : Tag) (kind : LeafKind) (p : ℕ) (t : Tag) (form : Bool) (k : ℕ) (s : List ℕ)
    (f : Fault)
    → 0 < k → same_tag w t ≡ true → LeafStops l c kind p t form k s f → run (read_leaf l c kind p w form) k s ≡ Halted f
leaf_off l c w kind p t form k s f z e h =
    subst (λ v. run (read_leaf l c kind p v form) k s ≡ Halted f) (sym (same_tag_is w t e))
    (leaf_halts l c kind p t form k s f z h)

leaf_same_as : (t : Tag) (o : List ℕ) (w : Value) → Same (Leaf t o) w → w ≡ Leaf t o
unfolding Same
leaf_same_as t o (Leaf u p) h = cc
leaf_same_as t o (Sequence u vs) h = absurd h
leaf_same_as t o (SetOf u vs) h = absurd h

-- the octet string that stands is read
octets_on : (l : Limits) (c : Enclosing) (w : Tag) (p : ℕ) (a : List ℕ) (t : Tag) (form : Bool) (k : ℕ) (s : List ℕ)
    (o : List ℕ) (n : ℕ) (r : List ℕ)
    → Proper c → Stands l c p a t form k s → Takes l (LeafType w OctetString) [] c p a (Leaf w o) n r
    → run (read_leaf l c OctetString p w form) k s ≡ Took (Leaf w o) (p + n) r
unfolding read_type Fair
octets_on l c w p a t form k s o n r pr st h =
    let x = complete l (LeafType w OctetString) [] c p a (Leaf w o) n r tt pr h in
    let b = both_of l (LeafType w OctetString) [] c p a x.0 (p + n) r x.2 in
    let sm = same_stands l c p a b.tag t b.form form b.behind k b.rest s b.stands st in
    let jd : run (read_type l (LeafType w OctetString) [] c p t form) k s ≡ Took x.0 (p + n) r = sm
    (λ t' form' k' s'. run (read_type l (LeafType w OctetString) [] c p t' form') k' s' ≡ Took x.0 (p + n) r)
    b.judged in
    let g = took_require _ _ _ _ _ _ _ _ jd in
    g.1 ∙ ap (λ v. Took v (p + n) r) (leaf_same_as w o x.0 x.1)

one_halt : (o : Outcome Value) (f g : Fault) → o ≡ Halted f → o ≡ Halted g → f ≡ g
one_halt o f g a b = let e : ◌≡◌ {A = Outcome Value} (Halted f) (Halted g) = sym a ∙ b in cc

mutual
  unfolding read_type StopsBehind Fair

  behind_halts : (l : Limits) (T : TypeTerm) (earlier earlier' : List Value) (c : Enclosing) → Fair T
      → Each Same earlier earlier' → Proper c → BackIn l T earlier earlier' c
  behind_halts l (LeafType w kind) earlier earlier' c fr es pr p t form k s f z h =
      ⊎_elim (λ a. require_off _ _ _ k s f a.0 a.1)
      (λ a. require_on _ _ _ k s a.0 ∙ leaf_off l c w kind p t form k s f z a.0 a.1) h
  behind_halts l OpenType earlier earlier' c fr es pr p t form k s f z h =
      open_halts l.depth l f c p t form k s (omega arith) z h
  behind_halts l (SequenceOfType w n T) earlier earlier' c fr es pr p t form k s f z h = ⊎_elim
      (λ a. require_off _ _ _ k s f a.0 a.1)
      (λ a.
      require_on _ _ _ k s a.0
      ∙ members_off l T c p form k s n f (λ end. fault end Missing) _ fr z
      (λ i pr' p' t' form' k' s' z' g. behind_halts l T [] [] i fr tt pr' p' t' form' k' s' f z' g) a.1)
      h
  behind_halts l (SetOfType w n T) earlier earlier' c fr es pr p t form k s f z h = ⊎_elim
      (λ a. require_off _ _ _ k s f a.0 a.1)
      (λ a.
      require_on _ _ _ k s a.0
      ∙ members_off l T c p form k s n f (λ end. fault p EmptySet) _ fr z
      (λ i pr' p' t' form' k' s' z' g. behind_halts l T [] [] i fr tt pr' p' t' form' k' s' f z' g) a.1)
      h
  behind_halts l (SequenceType w fs) earlier earlier' c fr es pr p t form k s f z h = ⊎_elim
      (λ a. require_off _ _ _ k s f a.0 a.1)
      (λ b. require_on _ _ _ k s b.0 ∙ ⊎_elim
      (λ a. halt_bind _ _ k s f (form_halts l c p form (λ c'. next_tag l c' >>= λ d. read_fields l fs [] c' d) k s f a))
      (λ a.
      halt_bind _ _ k s f
      (opened_on l c p form (λ c'. next_tag l c' >>= λ d. read_fields l fs [] c' d) k s a.0 a.1 a.2 a.3
      ∙ fields_halt l fs [] [] a.0 a.1 a.2 f fr tt (proper_inside c a.0 a.1 a.3.1 a.3.3) a.4))
      b.1)
      h
  behind_halts l (ContainingType w q T) earlier earlier' c fr es pr p t form k s f z h = ⊎_elim
      (λ a. require_off _ _ _ k s f a.0 a.1)
      (λ b. require_on _ _ _ k s b.0 ∙ ⊎_elim
      (λ a. halt_bind (read_leaf l c OctetString p w form) _ k s f (leaf_off l c w OctetString p t form k s f z b.0 a))
      (λ a.
      run_bind (read_leaf l c OctetString p w form) _ k s (Leaf w a.1) (p + a.2) a.3
      (octets_on l c w p a.0 t form k s a.1 a.2 a.3 pr a.4 a.5)
      ∙ ⊎_elim
      (λ g.
      halt_bind _ _ (p + a.2) a.3 f (inside_halted p (run (read_element l T earlier' outermost) 0 a.1) g.0 (p + a.2) a.3
      (here_halts l T earlier earlier' outermost 0 a.1 g.0
      (behind_halts l T earlier earlier' outermost fr.1 es none_around) g.1)
      ∙ ap Halted (sym g.2)))
      (λ d. ⊎_elim
      (λ g. let x = complete_with l T earlier earlier' outermost 0 a.1 g.0 g.1 (g.2 ∷ g.3) fr.1 none_around es g.4 in
      let e : 0 + g.1 ≡ g.1 = omega arith in
      halt_bind _ _ (p + a.2) a.3 f
      (inside_more p (run (read_element l T earlier' outermost) 0 a.1) x.0 g.1 g.2 g.3 (p + a.2) a.3
      (x.2 ∙ ap (λ u. Took x.0 u (g.2 ∷ g.3)) e)
      ∙ ap Halted (sym g.5)))
      (λ g. let x = complete_with l T earlier earlier' outermost 0 a.1 g.0 g.1 [] fr.1 none_around es g.3 in
      run_bind _ _ (p + a.2) a.3 x.0 (p + a.2) a.3
      (inside_good p (run (read_element l T earlier' outermost) 0 a.1) x.0 (0 + g.1) (p + a.2) a.3 x.2)
      ∙ ruled_off p (q earlier' x.0) g.2 (Leaf w (der x.0)) (p + a.2) a.3 f
      (sym (fr.0 earlier earlier' g.0 x.0 es x.1) ∙ g.4) g.5)
      d)
      a.6)
      b.1)
      h
  behind_halts l (RuledType q T) earlier earlier' c fr es pr p t form k s f z h = ⊎_elim
      (λ a.
      halt_bind (read_type l T earlier' c p t form) _ k s f
      (behind_halts l T earlier earlier' c fr.1 es pr p t form k s f z a))
      (λ a. let x = complete_with l T earlier earlier' c p a.0 a.1 a.2 a.3 fr.1 pr es a.6 in
      let b = both_of l T earlier' c p a.0 x.0 (p + a.2) a.3 x.2 in
      let sm = same_stands l c p a.0 b.tag t b.form form b.behind k b.rest s b.stands a.5 in
      let jd : run (read_type l T earlier' c p t form) k s ≡ Took x.0 (p + a.2) a.3 =
      sm (λ t' form' k' s'. run (read_type l T earlier' c p t' form') k' s' ≡ Took x.0 (p + a.2) a.3) b.judged in
      run_bind (read_type l T earlier' c p t form) _ k s x.0 (p + a.2) a.3 jd
      ∙ ruled_off p (q earlier' x.0) a.4 x.0 (p + a.2) a.3 f (sym (fr.0 earlier earlier' a.1 x.0 es x.1) ∙ a.7) a.8)
      h
  behind_halts l (RefusedType w why) earlier earlier' c fr es pr p t form k s f z h = ⊎_elim
      (λ a. require_off _ _ _ k s f a.0 a.1)
      (λ a. require_on _ _ _ k s a.0 ∙ fail_on Value (fault p why) k s ∙ ap Halted (sym a.1))
      h
  behind_halts l (DefinedByType path os A B) earlier earlier' c fr es pr p t form k s f z h = ⊎_elim
      (λ a.
      choose_first _ _ _ k s (ap (λ b. one_of b os) (sym (leaf_at_same path earlier earlier' es)) ∙ a.0)
      ∙ behind_halts l A earlier earlier' c fr.0 es pr p t form k s f z a.1)
      (λ a.
      choose_second _ _ _ k s (ap (λ b. one_of b os) (sym (leaf_at_same path earlier earlier' es)) ∙ a.0)
      ∙ behind_halts l B earlier earlier' c fr.1 es pr p t form k s f z a.1)
      h
  behind_halts l (ChoiceType A B) earlier earlier' c fr es pr p t form k s f z h = ⊎_elim
      (λ a. choose_first _ _ _ k s a.0 ∙ behind_halts l A earlier earlier' c fr.0 es pr p t form k s f z a.1)
      (λ a. choose_second _ _ _ k s a.0 ∙ behind_halts l B earlier earlier' c fr.1 es pr p t form k s f z a.1)
      h

  fields_halt : (l : Limits) (fs : Fields) (earlier earlier' : List Value) (c : Enclosing) (k : ℕ) (s : List ℕ)
      (f : Fault)
      → FairFields fs → Each Same earlier earlier' → Proper c → StopsFields l fs earlier c k s f
      → run (next_tag l c >>= λ d. read_fields l fs earlier' c d) k s ≡ Halted f
  fields_halt l EndOfFields earlier earlier' c k s f fr es pr h = ⊎_elim
      (λ a. halt_bind (next_tag l c) _ k s f (tag_halts l c k s f a))
      (λ a.
      run_bind (next_tag l c) _ k s (ElementStands k a.0 a.1) a.2 a.3 (stands_run l c k s a.0 a.1 a.2 a.3 a.4)
      ∙ fail_on (List Value) (fault k Extra) a.2 a.3 ∙ ap Halted (sym a.5))
      h
  fields_halt l (Required T fs) earlier earlier' c k s f fr es pr h = ⊎_elim
      (λ a. halt_bind (next_tag l c) _ k s f (tag_halts l c k s f a))
      (λ g. ⊎_elim
      (λ a.
      let e = ends_run l c k s a.0 in
      run_bind (next_tag l c) _ k s (ContainerEnds k) e.0 e.1 e.2 ∙ fail_on (List Value) (fault k Missing) e.0 e.1
      ∙ ap Halted (sym a.1))
      (λ g. ⊎_elim
      (λ a.
      run_bind (next_tag l c) _ k s (ElementStands k a.0 a.1) a.2 a.3 (stands_run l c k s a.0 a.1 a.2 a.3 a.4) ∙ ⊎_elim
      (λ b. require_off _ _ _ a.2 a.3 f b.0 b.1)
      (λ b.
      require_on _ _ _ a.2 a.3 b.0
      ∙ halt_bind (read_type l T earlier' c k a.0 a.1) _ a.2 a.3 f
      (behind_halts l T earlier earlier' c fr.0 es pr k a.0 a.1 a.2 a.3 f
      (stands_later l c k s a.0 a.1 a.2 a.3 a.4) b.1))
      a.5)
      (λ a. let x = complete_with l T earlier earlier' c k s a.0 a.1 a.2 fr.0 pr es a.3 in
      let b = both_of l T earlier' c k s x.0 (k + a.1) a.2 x.2 in
      run_bind (next_tag l c) _ k s (ElementStands k b.tag b.form) b.behind b.rest
      (stands_run l c k s b.tag b.form b.behind b.rest b.stands)
      ∙ require_on _ _ _ b.behind b.rest
      (begins_took l T earlier' c k s b.tag b.form b.behind b.rest x.0 (k + a.1) a.2 b.stands b.judged)
      ∙ run_bind (read_type l T earlier' c k b.tag b.form) _ b.behind b.rest x.0 (k + a.1) a.2 b.judged
      ∙ front_halts l fs (earlier' ++ (x.0 ∷ [])) c x.0 (k + a.1) a.2 f
      (fields_halt l fs (earlier ++ (a.0 ∷ [])) (earlier' ++ (x.0 ∷ [])) c (k + a.1) a.2 f fr.1
      (each_snoc earlier earlier' a.0 x.0 es x.1) pr a.4))
      g)
      g)
      h
  fields_halt l (Optional T fs) earlier earlier' c k s f fr es pr h = ⊎_elim
      (λ a. halt_bind (next_tag l c) _ k s f (tag_halts l c k s f a))
      (λ g. ⊎_elim
      (λ a.
      let e = ends_run l c k s a.0 in
      passed l fs (Optional T fs) earlier' c k s (ContainerEnds k) e.0 e.1 f e.2 refl
      (fields_halt l fs earlier earlier' c k s f fr.1 es pr a.1))
      (λ g. ⊎_elim
      (λ a. let n = stands_run l c k s a.0 a.1 a.2 a.3 a.4 in ⊎_elim
      (λ b.
      passed l fs (Optional T fs) earlier' c k s (ElementStands k a.0 a.1) a.2 a.3 f n (choose_second _ _ _ a.2 a.3 b.0)
      (fields_halt l fs earlier earlier' c k s f fr.1 es pr b.1))
      (λ b.
      run_bind (next_tag l c) _ k s (ElementStands k a.0 a.1) a.2 a.3 n ∙ choose_first _ _ _ a.2 a.3 b.0
      ∙ halt_bind (read_type l T earlier' c k a.0 a.1) _ a.2 a.3 f
      (behind_halts l T earlier earlier' c fr.0 es pr k a.0 a.1 a.2 a.3 f
      (stands_later l c k s a.0 a.1 a.2 a.3 a.4) b.1))
      a.5)
      (λ a. let x = complete_with l T earlier earlier' c k s a.0 a.1 a.2 fr.0 pr es a.3 in
      let b = both_of l T earlier' c k s x.0 (k + a.1) a.2 x.2 in
      run_bind (next_tag l c) _ k s (ElementStands k b.tag b.form) b.behind b.rest
      (stands_run l c k s b.tag b.form b.behind b.rest b.stands)
      ∙ choose_first _ _ _ b.behind b.rest
      (begins_took l T earlier' c k s b.tag b.form b.behind b.rest x.0 (k + a.1) a.2 b.stands b.judged)
      ∙ run_bind (read_type l T earlier' c k b.tag b.form) _ b.behind b.rest x.0 (k + a.1) a.2 b.judged
      ∙ front_halts l fs (earlier' ++ (x.0 ∷ [])) c x.0 (k + a.1) a.2 f
      (fields_halt l fs (earlier ++ (a.0 ∷ [])) (earlier' ++ (x.0 ∷ [])) c (k + a.1) a.2 f fr.1
      (each_snoc earlier earlier' a.0 x.0 es x.1) pr a.4))
      g)
      g)
      h
  fields_halt l (Default i io T fs) earlier earlier' c k s f fr es pr h = ⊎_elim
      (λ a. halt_bind (next_tag l c) _ k s f (tag_halts l c k s f a))
      (λ g. ⊎_elim
      (λ a.
      let e = ends_run l c k s a.0 in
      passed l fs (Default i io T fs) earlier' c k s (ContainerEnds k) e.0 e.1 f e.2 refl
      (fields_halt l fs earlier earlier' c k s f fr.1 es pr a.1))
      (λ g. ⊎_elim
      (λ a. let n = stands_run l c k s a.0 a.1 a.2 a.3 a.4 in ⊎_elim
      (λ b.
      passed l fs (Default i io T fs) earlier' c k s (ElementStands k a.0 a.1) a.2 a.3 f n
      (choose_second _ _ _ a.2 a.3 b.0) (fields_halt l fs earlier earlier' c k s f fr.1 es pr b.1))
      (λ b.
      run_bind (next_tag l c) _ k s (ElementStands k a.0 a.1) a.2 a.3 n ∙ choose_first _ _ _ a.2 a.3 b.0
      ∙ halt_bind (read_type l T earlier' c k a.0 a.1) _ a.2 a.3 f
      (behind_halts l T earlier earlier' c fr.0 es pr k a.0 a.1 a.2 a.3 f
      (stands_later l c k s a.0 a.1 a.2 a.3 a.4) b.1))
      a.5)
      (λ a. let x = complete_with l T earlier earlier' c k s a.0 a.1 a.2 fr.0 pr es a.3 in
      let b = both_of l T earlier' c k s x.0 (k + a.1) a.2 x.2 in
      run_bind (next_tag l c) _ k s (ElementStands k b.tag b.form) b.behind b.rest
      (stands_run l c k s b.tag b.form b.behind b.rest b.stands)
      ∙ choose_first _ _ _ b.behind b.rest
      (begins_took l T earlier' c k s b.tag b.form b.behind b.rest x.0 (k + a.1) a.2 b.stands b.judged)
      ∙ run_bind (read_type l T earlier' c k b.tag b.form) _ b.behind b.rest x.0 (k + a.1) a.2 b.judged
      ∙ default_front l fs i io earlier' c x.0 (k + a.1) a.2 f (⊎_elim
      (λ m. inl (
        leaf_test i io x.0 (same_trans x.0 a.0 (Leaf i io) (same_sym a.0 x.0 x.1) m.0),
        fields_halt l fs earlier earlier' c (k + a.1) a.2 f fr.1 es pr m.1,
      ))
      (λ m. inr (
        leaf_untest i io x.0 (λ sx. m.0 (same_trans a.0 x.0 (Leaf i io) x.1 sx)),
        fields_halt l fs (earlier ++ (a.0 ∷ [])) (earlier' ++ (x.0 ∷ [])) c (k + a.1) a.2 f fr.1
            (each_snoc earlier earlier' a.0 x.0 es x.1) pr m.1,
      ))
      a.4))
      g)
      g)
      h

pub exact : StopIsFault
unfolding due_element
exact l T earlier c k s f fr pr h = ⊎_elim
    (λ a. here_halts l T earlier earlier c k s f (behind_halts l T earlier earlier c fr (each_refl earlier) pr) a)
    (λ a.
    let e = ends_run l c k s a.0 in
    run_bind (next_tag l c) _ k s (ContainerEnds k) e.0 e.1 e.2 ∙ fail_on Value (fault k Missing) e.0 e.1
    ∙ ap Halted (sym a.1))
    h

pub one_fault : OneFault
one_fault = record {
  single = λ l T earlier c k s f g fr pr a b.
      one_halt (run (read_element l T earlier c) k s) f g (exact l T earlier c k s f fr pr a)
      (exact l T earlier c k s g fr pr b);
  apart = λ l T earlier c k s f v n rest fr pr a b.
      exclusive l T earlier c k s f fr pr (exact l T earlier c k s f fr pr a) v n rest b;
}

-- after an identifier that stands

pub behind_is_taken : BehindIsTaken
behind_is_taken l T earlier c k s t form j u v q r st h =
    let w = took_type l T earlier c k s t form j u v q r st h in (w.count, w.place, w.takes)

pub taken_is_behind : TakenIsBehind
taken_is_behind l T earlier c k s t form j u v n r fr pr st h =
    let x = complete l T earlier c k s v n r fr pr h in
    let b = both_of l T earlier c k s x.0 (k + n) r x.2 in
    let sm = same_stands l c k s b.tag t b.form form b.behind j b.rest u b.stands st in
    (x.0, x.1, sm (λ t' form' j' u'. run (read_type l T earlier c k t' form') j' u' ≡ Took x.0 (k + n) r) b.judged)

pub behind_is_exact : BehindStops
behind_is_exact = record {
  fault_stops = λ l T earlier c k s t form j u f st h. behind_stops l T earlier c k s t form j u f st h;
  stop_is_fault = λ l T earlier c k s t form j u f fr pr st h.
      behind_halts l T earlier earlier c fr (each_refl earlier) pr k t form j u f
      (stands_later l c k s t form j u st) h;
}
