-- The faults of open values: the plain reading halts as the fault grammar says, and where it says.
use Rattle.std.proofs.Common.{◌≡◌, ℕ, zero, suc, ◌+◌, ◌<◌, ◌≤◌, ◌⊎◌, inl, inr, ⊎_elim, Bool, true, false, List, [], ◌∷◌, ◌++◌, length, refl, sym, ◌∙◌, ap, subst, arith, append_assoc}
use Rattle.std.proofs.lemmas.List.{length-append}
use Rattle.tlv_core.specs.Identifier.{Tag, identifier}
use Rattle.tlv_core.specs.Limits.{Limits}
use Rattle.tlv_core.specs.declared.fault.Fault.{Fault}
use Rattle.tlv_core.specs.declared.reason.Reason.TheVariants.{LeftOut}
use Rattle.x690.specs.ContentsFaults.{After, MemberStands, OpenStops, StopsHere}
use Rattle.x690.specs.Fitting.{Fits}
use Rattle.x690.specs.HeaderFaults.{Opens, Stands, StopsInForm}
use Rattle.x690.specs.Layouts.{tree_depth, tree_tag}
use Rattle.x690.specs.OpenValues.{FitsOpen, OpenForm, OpenLeaf, OpenPlain, OpenRefused, OpenSequence, OpenSetOf, open_form}
use Rattle.x690.specs.Points.{Enclosing, fault, past_end}
use Rattle.x690.specs.ReadContents.{add_member, all_members, read_leaf, read_open}
use Rattle.x690.specs.ReadHeaders.{Ended, each_member, primitive_contents}
use Rattle.x690.specs.Reading.{Done, Fail, Halted, Took, run, ◌>>=◌}
use Rattle.x690.specs.TypeTerms.{OpenType}
use Rattle.x690.specs.Takes.{Proper}
use Rattle.x690.specs.Values.{Leaf, Sequence, SetOf, Value, values_of}
use Rattle.x690_laws.proofs.ReadingComplete.{open_on}
use Rattle.x690_laws.proofs.ReadingOfLayouts.{depth_some, form_of, id_some, split_lay}
use Rattle.x690_laws.proofs.FaultsOfHeaders.{all_may, fail_on}
use Rattle.x690_laws.proofs.ReadingOfHeaders.{done_on, within_less}
use Rattle.x690_laws.proofs.ReadingHeadersSound.{Within}
use Rattle.x690_laws.proofs.ReadingOfElements.{not_ended}
use Rattle.x690_laws.proofs.ReadingMembers.{GivesOne, TakesOne, container_halts, form_halts, members_halt, members_stop, opened_on}
use Rattle.x690_laws.proofs.ReadingSound.{open_took}
use Rattle.x690_laws.proofs.FaultsOfContents.{laid_whole, leaf_halts, leaf_stops, opens_count, opens_later, opens_within, primitive_halt, primitive_stop, proper_inside}
use Rattle.x690.proofs.Runs.{halt_bind, halted_bind, halted_done, halted_fail, run_bind, took_bind, took_done}

-- open values

pub open_takes : (deep : ℕ) (l : Limits) (i : Enclosing)
    → TakesOne {A = Unit {0}} l i (add_member (read_open deep l i)) (λ s. tt) (MemberStands l OpenType i)
    (λ m s. Unit {0})
unfolding add_member Fits
open_takes deep l i number s0 s1 k s t form j u q r ok st h =
    let x = took_bind _ _ _ _ _ _ _ h in
    let d = took_done _ _ _ _ _ _ x.next_tag in
    let m = open_took deep l i x.value k t form j u x.place x.rest st.is_tag st.depth_fits x.first in
    let w = laid_whole l i k s t form j u (λ y. FitsOpen y x.value) x.place x.rest st m in
    let e : x.place ≡ q = d.1 in
    let p : x.place ≡ k + length (identifier t form ++ m.octets) = w.1 in
    let lon : k < x.place = w.2 in
    let lim : x.place ≤ l.octets = w.3 in
    record {
      count = length (identifier t form ++ m.octets);
      place = omega arith;
      stand = (
        x.value,
        record {
          tree = m.tree;
          octets = identifier t form ++ m.octets;
          is = w.0 ∙ ap (λ v. (identifier t form ++ m.octets) ++ v) d.2;
          count = refl;
          laid_out = m.laid_out;
          in_bound = subst (λ v. past_end i.nearest_end v ≡ false) w.1 w.4;
          in_limit = omega arith;
          depth_fits = m.deep;
          fits = m.fact;
        },
      );
      ok = tt;
      longer = omega arith;
      limit = omega arith;
    }

open_gives : (deep : ℕ) (l : Limits) (i : Enclosing) → Proper i → l.depth ≤ deep + i.open_containers
    → GivesOne {A = Unit {0}} l i (add_member (read_open deep l i)) (λ s. tt) (MemberStands l OpenType i)
    (λ m s. Unit {0})
unfolding add_member Fits
open_gives deep l i pr dp number s0 k s a m r ok (v, h) =
    let sp = split_lay h.tree h.octets h.laid_out in
    let t = tree_tag h.tree in
    let form = form_of h.tree in
    let some = id_some t form sp.tag in
    let z : length h.octets ≡ length (identifier t form ++ sp.octets) = ap length sp.is in
    let z' = length-append (identifier t form) sp.octets in
    let cnt : length h.octets ≡ m = h.count in
    let lim : k + m ≤ l.octets = h.in_limit in
    let w : Within l i.nearest_end (k + m) = record { nearest_end = h.in_bound; limit = h.in_limit } in
    let q : k + length (identifier t form) + length sp.octets ≡ k + m = omega arith in
    let d : i.open_containers + tree_depth h.tree ≤ l.depth = h.depth_fits in
    let one = depth_some h.tree in
    let x = open_on h.tree v deep l (omega arith) h.fits in
    record {
      tag = t;
      form = form;
      behind = k + length (identifier t form);
      rest = sp.octets ++ r;
      value = s0 ++ (x.0 ∷ []);
      stands = record {
        not_ended = not_ended i k m pr (omega arith) h.in_bound;
        is_tag = sp.tag;
        begins = record {
          is = h.is ∙ ap (λ v. v ++ r) sp.is ∙ append_assoc (identifier t form) sp.octets r;
          stand =
              all_may l i.nearest_end k (identifier t form)
              (within_less l i.nearest_end (k + length (identifier t form)) (k + m) (omega arith) w);
        };
        behind_is = refl;
        depth_fits = omega arith;
      };
      takes = run_bind _ _ (k + length (identifier t form)) (sp.octets ++ r) x.0 (k + m) r
          (x.2 i k (k + length (identifier t form)) sp.octets r sp.behind d (subst (Within l i.nearest_end) (sym q) w)
          (omega arith)
          ∙ ap (λ v. Took x.0 v r) q)
          ∙ done_on _ (k + m) r;
      viewed = refl;
      ok = tt;
      longer = omega arith;
      limit = h.in_limit;
    }

abbrev OneOpen : ℕ → Limits → Fault → Type 0
OneOpen deep l f =
    (i : Enclosing) (k : ℕ) (s : List ℕ) (t : Tag) (form : Bool) (j : ℕ) (u : List ℕ)
    → l.depth ≤ deep + i.open_containers → 0 < j → Stands l i k s t form j u
    → run (read_open deep l i k t form) j u ≡ Halted f → OpenStops deep l i k t form j u f

abbrev OpenMembersStop : ℕ → Limits → Enclosing → ℕ → Bool → ℕ → List ℕ → Fault → Type 0
OpenMembersStop deep l c p form k s f =
    StopsInForm l c p form k s f
    ⊎ ((inside : Enclosing) × (behind : ℕ) × (rest : List ℕ) × Opens l c form k s inside behind rest
    × ((many : ℕ)
    × After (MemberStands l OpenType inside)
    (λ before place' octets'. StopsHere l inside (OpenStops deep l inside) place' octets' f) many tt behind rest))

stands_later : (l : Limits) (c : Enclosing) (k : ℕ) (s : List ℕ) (t : Tag) (form : Bool) (j : ℕ) (u : List ℕ)
    → Stands l c k s t form j u → 0 < j
stands_later l c k s t form j u st =
    let z = id_some t form st.is_tag in let e : j ≡ k + length (identifier t form) = st.behind_is in omega arith

open_members_stop : (deep : ℕ) (l : Limits) (c : Enclosing) (p : ℕ) (form : Bool) (k : ℕ) (s : List ℕ) (f : Fault)
    → OneOpen deep l f → l.depth ≤ deep + c.open_containers + 1 → 0 < k
    → run (all_members l c p form (λ c'. read_open deep l c')) k s ≡ Halted f → OpenMembersStop deep l c p form k s f
unfolding all_members add_member
open_members_stop deep l c p form k s f one dp z h = ⊎_elim
    inl
    (λ a. let op = a.3 in
    let oc : a.0.open_containers ≡ c.open_containers + 1 = opens_count c a.0 a.1 op.1 op.3 in
    let le : k ≤ a.1 = a.4 in
    inr (
      a.0,
      a.1,
      a.2,
      op,
      members_stop {A = Unit {0}} (add_member (read_open deep l a.0)) (λ s. tt) (MemberStands l OpenType a.0)
          (λ b. OpenStops deep l a.0) (λ m s. Unit {0}) l a.0 f (open_takes deep l a.0)
          (λ number s1 k' s' t form' j u ok st g.
          ⊎_elim (λ b. one a.0 k' s' t form' j u (omega arith) (stands_later l a.0 k' s' t form' j u st) st b)
          (λ b. absurd (halted_done _ _ _ f b.4)) (halted_bind _ _ j u f g))
          l.octets 0 [] a.1 a.2 (opens_within l c form k s a.0 a.1 a.2 op) (omega arith) tt a.5,
    ))
    (container_halts l c p form (λ c'. each_member (add_member (read_open deep l c')) l.octets l c' []) k s f h)

pub open_stops : (deep : ℕ) (l : Limits) (f : Fault) → OneOpen deep l f
unfolding read_open OpenStops
open_stops zero l f i k s t form j u dp z st h =
    let lt : i.open_containers < l.depth = st.depth_fits in absurd (omega arith)
open_stops (suc deep) l f i k s t form j u dp z st h =
    go (open_form t) refl form h
    (λ form' g. open_members_stop deep l i k form' j u f (open_stops deep l f) (omega arith) z g)
  where
    members : {A : Type 0} (form' : Bool) (then' : Ended (List Value) → A)
        → (run (all_members l i k form' (λ c'. read_open deep l c')) j u ≡ Halted f
        → OpenMembersStop deep l i k form' j u f)
        → run (all_members l i k form' (λ c'. read_open deep l c') >>= λ e. Done (then' e)) j u ≡ Halted f
        → OpenMembersStop deep l i k form' j u f
    members form' then' ih g = ⊎_elim ih (λ b. absurd (halted_done _ _ _ f b.4)) (halted_bind _ _ j u f g)

    go : (o : OpenForm) → open_form t ≡ o → (form' : Bool)
        → run {A = Value} (elim o [
          | OpenRefused ↦ Fail (fault k LeftOut)
          | OpenLeaf kind ↦ read_leaf l i kind k t form'
          | OpenPlain ↦ elim form' [
            | false ↦ primitive_contents l i k >>= λ o. Done (Leaf t o)
            | true ↦ all_members l i k true (λ c'. read_open deep l c') >>= λ e. Done (Sequence t (values_of e.all))
          ]
          | OpenSequence ↦
              all_members l i k form' (λ c'. read_open deep l c') >>= λ e. Done (Sequence t (values_of e.all))
          | OpenSetOf ↦ all_members l i k form' (λ c'. read_open deep l c') >>= λ e. Done (SetOf t (values_of e.all))
        ]) j u ≡ Halted f
        → ((form'' : Bool) → run (all_members l i k form'' (λ c'. read_open deep l c')) j u ≡ Halted f
        → OpenMembersStop deep l i k form'' j u f)
        → OpenStops (suc deep) l i k t form' j u f
    go OpenRefused e form' h ih = inl (e, halted_fail Value (fault k LeftOut) j u f h)
    go (OpenLeaf kind) e form' h ih = inr (inl (kind, e, leaf_stops l i kind k t form' j u f z h))
    go OpenPlain e false h ih =
        inr (inr (inl (e, refl, primitive_stop l i k j u f _ _ (λ o q r g. absurd (halted_done _ q r f g)) h)))
    go OpenPlain e true h ih = inr (inr (inr (inl (e, refl), members true _ (ih true) h)))
    go OpenSequence e form' h ih = inr (inr (inr (inr (inl e), members form' _ (ih form') h)))
    go OpenSetOf e form' h ih = inr (inr (inr (inr (inr e), members form' _ (ih form') h)))

abbrev BackOpen : ℕ → Limits → Fault → Type 0
BackOpen deep l f =
    (i : Enclosing) (k : ℕ) (t : Tag) (form : Bool) (j : ℕ) (u : List ℕ) → l.depth ≤ deep + i.open_containers → 0 < j
    → OpenStops deep l i k t form j u f → run (read_open deep l i k t form) j u ≡ Halted f

open_members_halt : (deep : ℕ) (l : Limits) (c : Enclosing) (p : ℕ) (form : Bool) (k : ℕ) (s : List ℕ) (f : Fault)
    → BackOpen deep l f → l.depth ≤ deep + c.open_containers + 1 → 0 < k
    → OpenMembersStop deep l c p form k s f → run (all_members l c p form (λ c'. read_open deep l c')) k s ≡ Halted f
unfolding all_members add_member
open_members_halt deep l c p form k s f one dp z (inl h) =
    form_halts l c p form (λ c'. each_member (add_member (read_open deep l c')) l.octets l c' []) k s f h
open_members_halt deep l c p form k s f one dp z (inr (i, j, u, op, (m, h))) =
    let oc : i.open_containers ≡ c.open_containers + 1 = opens_count c i j op.1 op.3 in
    let le = opens_later l c form k s i j u op in
    opened_on l c p form (λ c'. each_member (add_member (read_open deep l c')) l.octets l c' []) k s i j u op
    ∙ members_halt {A = Unit {0}} (add_member (read_open deep l i)) (λ s. tt) (MemberStands l OpenType i)
    (λ b. OpenStops deep l i) (λ m s. Unit {0}) l i f
    (open_gives deep l i (proper_inside c i j op.1 op.3) (omega arith))
    (λ number s1 k' s' t form' j' u' ok st g.
    halt_bind _ _ j' u' f (one i k' t form' j' u' (omega arith) (stands_later l i k' s' t form' j' u' st) g))
    m l.octets 0 [] j u (opens_within l c form k s i j u op) (omega arith) tt h

pub open_halts : (deep : ℕ) (l : Limits) (f : Fault) → BackOpen deep l f
unfolding read_open OpenStops
open_halts zero l f i k t form j u dp z h = absurd h
open_halts (suc deep) l f i k t form j u dp z h =
    go (open_form t) refl form h
    (λ form' g. open_members_halt deep l i k form' j u f (open_halts deep l f) (omega arith) z g)
  where
    go : (o : OpenForm) → open_form t ≡ o → (form' : Bool) → OpenStops (suc deep) l i k t form' j u f
        → ((form'' : Bool) → OpenMembersStop deep l i k form'' j u f
        → run (all_members l i k form'' (λ c'. read_open deep l c')) j u ≡ Halted f)
        → run {A = Value} (elim o [
          | OpenRefused ↦ Fail (fault k LeftOut)
          | OpenLeaf kind ↦ read_leaf l i kind k t form'
          | OpenPlain ↦ elim form' [
            | false ↦ primitive_contents l i k >>= λ o. Done (Leaf t o)
            | true ↦ all_members l i k true (λ c'. read_open deep l c') >>= λ e. Done (Sequence t (values_of e.all))
          ]
          | OpenSequence ↦
              all_members l i k form' (λ c'. read_open deep l c') >>= λ e. Done (Sequence t (values_of e.all))
          | OpenSetOf ↦ all_members l i k form' (λ c'. read_open deep l c') >>= λ e. Done (SetOf t (values_of e.all))
        ]) j u ≡ Halted f
    go OpenRefused e form' (inl h) ih = fail_on Value (fault k LeftOut) j u ∙ ap Halted (sym h.1)
    go OpenRefused e form' (inr (inl h)) ih = let w : OpenRefused ≡ OpenLeaf h.0 = sym e ∙ h.1 in cc
    go OpenRefused e form' (inr (inr (inl h))) ih = let w : OpenRefused ≡ OpenPlain = sym e ∙ h.0 in cc
    go OpenRefused e form' (inr (inr (inr (inl h, g)))) ih = let w : OpenRefused ≡ OpenPlain = sym e ∙ h.0 in cc
    go OpenRefused e form' (inr (inr (inr (inr (inl h), g)))) ih = let w : OpenRefused ≡ OpenSequence = sym e ∙ h in cc
    go OpenRefused e form' (inr (inr (inr (inr (inr h), g)))) ih = let w : OpenRefused ≡ OpenSetOf = sym e ∙ h in cc
    go (OpenLeaf kind) e form' (inl h) ih = let w : OpenLeaf kind ≡ OpenRefused = sym e ∙ h.0 in cc
    go (OpenLeaf kind) e form' (inr (inl h)) ih =
        let w : OpenLeaf kind ≡ OpenLeaf h.0 = sym e ∙ h.1 in
        let y : h.0 ≡ kind = cc in
        subst (λ v. run (read_leaf l i v k t form') j u ≡ Halted f) y (leaf_halts l i h.0 k t form' j u f z h.2)
    go (OpenLeaf kind) e form' (inr (inr (inl h))) ih = let w : OpenLeaf kind ≡ OpenPlain = sym e ∙ h.0 in cc
    go (OpenLeaf kind) e form' (inr (inr (inr (inl h, g)))) ih = let w : OpenLeaf kind ≡ OpenPlain = sym e ∙ h.0 in cc
    go (OpenLeaf kind) e form' (inr (inr (inr (inr (inl h), g)))) ih =
        let w : OpenLeaf kind ≡ OpenSequence = sym e ∙ h in cc
    go (OpenLeaf kind) e form' (inr (inr (inr (inr (inr h), g)))) ih =
        let w : OpenLeaf kind ≡ OpenSetOf = sym e ∙ h in cc
    go OpenPlain e form' (inl h) ih = let w : OpenPlain ≡ OpenRefused = sym e ∙ h.0 in cc
    go OpenPlain e form' (inr (inl h)) ih = let w : OpenPlain ≡ OpenLeaf h.0 = sym e ∙ h.1 in cc
    go OpenPlain e false (inr (inr (inl h))) ih = primitive_halt l i k j u f _ _ (λ o q r b. absurd b) h.2
    go OpenPlain e true (inr (inr (inl h))) ih = let w : true ≡ false = h.1 in cc
    go OpenPlain e false (inr (inr (inr (inl h, g)))) ih = let w : false ≡ true = h.1 in cc
    go OpenPlain e true (inr (inr (inr (inl h, g)))) ih = halt_bind _ _ j u f (ih true g)
    go OpenPlain e form' (inr (inr (inr (inr (inl h), g)))) ih = let w : OpenPlain ≡ OpenSequence = sym e ∙ h in cc
    go OpenPlain e form' (inr (inr (inr (inr (inr h), g)))) ih = let w : OpenPlain ≡ OpenSetOf = sym e ∙ h in cc
    go OpenSequence e form' (inl h) ih = let w : OpenSequence ≡ OpenRefused = sym e ∙ h.0 in cc
    go OpenSequence e form' (inr (inl h)) ih = let w : OpenSequence ≡ OpenLeaf h.0 = sym e ∙ h.1 in cc
    go OpenSequence e form' (inr (inr (inl h))) ih = let w : OpenSequence ≡ OpenPlain = sym e ∙ h.0 in cc
    go OpenSequence e form' (inr (inr (inr (inl h, g)))) ih = let w : OpenSequence ≡ OpenPlain = sym e ∙ h.0 in cc
    go OpenSequence e form' (inr (inr (inr (inr (inl h), g)))) ih = halt_bind _ _ j u f (ih form' g)
    go OpenSequence e form' (inr (inr (inr (inr (inr h), g)))) ih = let w : OpenSequence ≡ OpenSetOf = sym e ∙ h in cc
    go OpenSetOf e form' (inl h) ih = let w : OpenSetOf ≡ OpenRefused = sym e ∙ h.0 in cc
    go OpenSetOf e form' (inr (inl h)) ih = let w : OpenSetOf ≡ OpenLeaf h.0 = sym e ∙ h.1 in cc
    go OpenSetOf e form' (inr (inr (inl h))) ih = let w : OpenSetOf ≡ OpenPlain = sym e ∙ h.0 in cc
    go OpenSetOf e form' (inr (inr (inr (inl h, g)))) ih = let w : OpenSetOf ≡ OpenPlain = sym e ∙ h.0 in cc
    go OpenSetOf e form' (inr (inr (inr (inr (inl h), g)))) ih = let w : OpenSetOf ≡ OpenSequence = sym e ∙ h in cc
    go OpenSetOf e form' (inr (inr (inr (inr (inr h), g)))) ih = halt_bind _ _ j u f (ih form' g)
