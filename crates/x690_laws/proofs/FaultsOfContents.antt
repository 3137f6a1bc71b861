-- The faults of contents: the plain reading of primitive elements, strings and open values halts as the fault
-- grammar says, and where it says.
use Rattle.std.proofs.Common.{◌≡◌, ℕ, zero, suc, ◌+◌, ◌<◌, ◌≤◌, ◌≢◌, ◌⊎◌, inl, inr, ⊎_elim, ◌==◌, ◌||◌, not, Bool, true, false, Option, Some, None, List, [], ◌∷◌, ◌++◌, length, refl, sym, ◌∙◌, ap, subst, arith, append_assoc, append-nil, IsUtf8}
use Rattle.std.proofs.lemmas.Bool.Decides.{nat_tests}
use Rattle.std.proofs.lemmas.List.{length-append}
use Rattle.std.proofs.lemmas.Str.{IsUtf8-from_is_utf8, is_utf8-from_IsUtf8}
use Rattle.std.specs.Str.{is_utf8}
use Rattle.tlv_core.specs.Identifier.{Tag, identifier}
use Rattle.tlv_core.specs.Limits.{Limits}
use Rattle.tlv_core.specs.declared.fault.Fault.{Fault}
use Rattle.tlv_core.specs.declared.reason.Reason.TheVariants.{BadText, Truncated, WrongForm}
use Rattle.x690.specs.Contents.{AreBitSegments, BitString, Boolean, Integer, LeafContents, LeafKind, Null, ObjectIdentifier, OctetString, Utf8String, segments}
use Rattle.x690.specs.ContentsFaults.{After, LeafStops, PrimitiveStops, SegmentStands, SegmentStops, SegmentsStop}
use Rattle.x690.specs.HeaderFaults.{EndsHere, LengthStands, Opens, OpensThen, Stands}
use Rattle.x690.specs.Layouts.{Primitive, RawTree, same_tag, tree_depth, tree_tag, universal}
use Rattle.x690.specs.Lists.{join}
use Rattle.x690.specs.Points.{Enclosing, EndsAt, EndsWithZeros, fault, past_end}
use Rattle.x690.specs.ReadContents.{der_contents, is_contents, is_joined_contents, is_next_segment, joined_contents, read_leaf, read_segment, segment_tag}
use Rattle.x690.specs.ReadHeaders.{DefiniteLength, Ended, IndefiniteLength, LengthForm, each_member, entered, in_container, next_octets, primitive_contents, read_definite_length}
use Rattle.x690.specs.Reading.{Done, Fail, Halted, Reading, Took, require, run, ◌>>=◌}
use Rattle.x690.specs.Takes.{Proper}
use Rattle.x690.specs.Values.{Leaf, Value}
use Rattle.x690_laws.proofs.ReadingComplete.{next_ok, segment_on}
use Rattle.x690_laws.proofs.ReadingOfLayouts.{contents_on, depth_some, form_of, id_some, split_lay}
use Rattle.x690_laws.proofs.FaultsOfHeaders.{all_may, fail_on, require_off}
use Rattle.x690_laws.proofs.FaultsOfLengths.{definite_halts, definite_run, definite_stands, definite_stops}
use Rattle.x690_laws.proofs.ReadingOfHeaders.{done_on, require_on, octets_on, within_less}
use Rattle.x690_laws.proofs.ReadingHeadersSound.{Within, octets_took}
use Rattle.x690_laws.proofs.ReadingOfElements.{not_ended}
use Rattle.x690_laws.proofs.ReadingLeavesSound.{contents_fit}
use Rattle.x690_laws.proofs.ReadingMembers.{GivesOne, TakesOne, container_halts, container_takes, form_halts, members_end, members_ended, members_halt, members_stop, opened_on}
use Rattle.x690.proofs.Runs.{halt_bind, halted_bind, halted_done, halted_fail, halted_require, run_bind, took_bind, took_done, took_require}
use Rattle.x690_laws.proofs.ReadingLayoutsSound.{Fine, Laid, Segs, next_fine, same_tag_is, segment_took}
use Rattle.x690_laws.proofs.ReadingSound.{equal_tag}
use Rattle.x690_laws.specs.StepLaws.{BadSegment, read_all_segments, read_only_segment}

-- primitive elements

octets_halt : (n k : ℕ) (s : List ℕ) (f : Fault) → run (next_octets n) k s ≡ Halted f
    → (length s < n) × (f ≡ fault (k + length s) Truncated)
unfolding next_octets run
octets_halt zero k s f h = cc
octets_halt (suc n) k [] f h =
    let e : fault k Truncated ≡ f = cc in
    let q : k ≡ k + 0 = omega arith in
    (omega arith, sym e ∙ ap (λ w. fault w Truncated) q)
octets_halt (suc n) k (x ∷ s) f h = ⊎_elim
    (λ a.
    let i = octets_halt n (k + 1) s f a in
    let lt : length s < n = i.0 in
    let q : k + 1 + length s ≡ k + length (x ∷ s) = omega arith in
    (omega arith, i.1 ∙ ap (λ w. fault w Truncated) q))
    (λ a. absurd (halted_done _ _ _ f a.4))
    (halted_bind (next_octets n) (λ o. Done (x ∷ o)) (k + 1) s f h)

octets_short : (n k : ℕ) (s : List ℕ) → length s < n → run (next_octets n) k s ≡ Halted (fault (k + length s) Truncated)
unfolding next_octets run
octets_short zero k s lt = absurd (omega arith)
octets_short (suc n) k [] lt = let q : k ≡ k + 0 = omega arith in ap (λ w. Halted (fault w Truncated)) q
octets_short (suc n) k (x ∷ s) lt =
    let q : k + 1 + length s ≡ k + length (x ∷ s) = omega arith in
    halt_bind (next_octets n) (λ o. Done (x ∷ o)) (k + 1) s (fault (k + 1 + length s) Truncated)
    (octets_short n (k + 1) s (omega arith))
    ∙ ap (λ w. Halted (fault w Truncated)) q

pub primitive_stop : {A : Type 0} (l : Limits) (c : Enclosing) (p k : ℕ) (s : List ℕ) (f : Fault)
    (g : List ℕ → Reading A) (Bad : List ℕ → Type 0)
    → ((o : List ℕ) (q : ℕ) (r : List ℕ) → run (g o) q r ≡ Halted f → Bad o)
    → run (primitive_contents l c p >>= g) k s ≡ Halted f → PrimitiveStops l c p k s Bad f
unfolding primitive_contents
primitive_stop l c p k s f g Bad bad h = ⊎_elim
    (λ a. ⊎_elim
    (λ b. inl (definite_stops l c.nearest_end p k s f b))
    (λ b.
    let o = octets_halt b.0 b.1 b.2 f b.4 in
    inr (inl (b.0, b.1, b.2, definite_stands l c.nearest_end p k s b.0 b.1 b.2 b.3, o.0, o.1)))
    (halted_bind _ _ k s f a))
    (λ a. let b = took_bind _ _ _ _ _ _ _ a.3 in
    let d = definite_stands l c.nearest_end p k s b.value b.place b.rest b.first in
    let o = octets_took b.value b.place b.rest a.0 a.1 a.2 b.next_tag in
    inr (inr (
      a.0,
      b.place,
      a.2,
      subst (λ w. LengthStands l c.nearest_end k s w b.place (a.0 ++ a.2)) (sym o.1)
          (subst (λ w. LengthStands l c.nearest_end k s b.value b.place w) o.0 d),
      bad a.0 a.1 a.2 a.4,
    )))
    (halted_bind _ _ k s f h)

pub primitive_halt : {A : Type 0} (l : Limits) (c : Enclosing) (p k : ℕ) (s : List ℕ) (f : Fault)
    (g : List ℕ → Reading A) (Bad : List ℕ → Type 0)
    → ((o : List ℕ) (q : ℕ) (r : List ℕ) → Bad o → run (g o) q r ≡ Halted f)
    → PrimitiveStops l c p k s Bad f → run (primitive_contents l c p >>= g) k s ≡ Halted f
unfolding primitive_contents
primitive_halt l c p k s f g Bad bad (inl h) =
    halt_bind (read_definite_length l c.nearest_end p >>= λ n. next_octets n) g k s f
    (halt_bind (read_definite_length l c.nearest_end p) _ k s f (definite_halts l c.nearest_end p k s f h))
primitive_halt l c p k s f g Bad bad (inr (inl (n, j, r, d, lt, e))) =
    halt_bind (read_definite_length l c.nearest_end p >>= λ n. next_octets n) g k s f
    (run_bind _ _ k s n j r (definite_run l c.nearest_end p k s n j r d) ∙ octets_short n j r lt ∙ ap Halted (sym e))
primitive_halt l c p k s f g Bad bad (inr (inr (o, j, r, d, b))) =
    run_bind (read_definite_length l c.nearest_end p >>= λ n. next_octets n) g k s o (j + length o) r
    (run_bind _ _ k s (length o) j (o ++ r) (definite_run l c.nearest_end p k s (length o) j (o ++ r) d)
    ∙ octets_on o r j)
    ∙ bad o (j + length o) r b

-- segments

next_bad : (n : ℕ) (s : List (List ℕ)) (o : List ℕ) → is_next_segment n s o ≡ false
    → (n ≡ 3) × (AreBitSegments (s ++ (o ∷ [])) → ⊥)
next_bad n s o h = (three (n == 3) refl h, λ a. let t = next_ok n s o [] (λ e. a) in cc)
  where
    three : (b : Bool) → (n == 3) ≡ b → is_next_segment n s o ≡ false → n ≡ 3
    three true e g = grind (arith, nat_tests)
    three false e g = let t : is_next_segment n s o ≡ true = either_first _ _ (ap not e) in cc
      where
        either_first : (a b : Bool) → a ≡ true → a || b ≡ true
        either_first true b e = refl
        either_first false b e = cc

bad_next : (n : ℕ) (s : List (List ℕ)) (o : List ℕ) → n ≡ 3 → Fine n s → (AreBitSegments (s ++ (o ∷ [])) → ⊥)
    → is_next_segment n s o ≡ false
bad_next n s o e fn wrong = go (is_next_segment n s o) refl
  where
    go : (b : Bool) → is_next_segment n s o ≡ b → is_next_segment n s o ≡ false
    go true h = absurd (wrong (next_fine n s o h fn e))
    go false h = h

tags_differ : (t u : Tag) → same_tag t u ≡ false → t ≢ u
tags_differ t u h e = let z = equal_tag t u e in cc

differ_tags : (t u : Tag) → t ≢ u → same_tag t u ≡ false
differ_tags t u n = go (same_tag t u) refl
  where
    go : (b : Bool) → same_tag t u ≡ b → same_tag t u ≡ false
    go true h = absurd (n (same_tag_is t u h))
    go false h = h

-- what is taken after an identifier, with the identifier
pub laid_whole : (l : Limits) (c : Enclosing) (k : ℕ) (s : List ℕ) (t : Tag) (form : Bool) (j : ℕ) (u : List ℕ)
    (P : RawTree → Type 0) (q : ℕ) (r : List ℕ)
    → Stands l c k s t form j u → (m : Laid l c j u t form P q r)
    → (s ≡ (identifier t form ++ m.octets) ++ r) × (q ≡ k + length (identifier t form ++ m.octets)) × (k < q)
    × (q ≤ l.octets) × (past_end c.nearest_end q ≡ false)
laid_whole l c k s t form j u P q r st m =
    let a : j ≡ k + length (identifier t form) = st.behind_is in
    let b : q ≡ j + length m.octets = m.place in
    let z = length-append (identifier t form) m.octets in
    let some = id_some t form st.is_tag in
    let w = m.within in (
      st.begins.is ∙ ap (λ v. identifier t form ++ v) m.is ∙ sym (append_assoc (identifier t form) m.octets r),
      omega arith,
      omega arith,
      w.limit,
      w.nearest_end,
    )

segment_takes : (deep : ℕ) (l : Limits) (n : ℕ) (i : Enclosing)
    → TakesOne l i (read_segment deep l n i) (λ s. s) (SegmentStands l i n) (λ m s. Fine n s)
segment_takes deep l n i number s0 s1 k s t form j u q r ok st h =
    let m = segment_took deep l n i s0 s1 k t form j u q r st.is_tag st.depth_fits h in
    let w = laid_whole l i k s t form j u (λ x. Segs n s0 x s1) q r st m in
    let e : k + length (identifier t form ++ m.octets) ≡ q = sym w.1 in
    record {
      count = length (identifier t form ++ m.octets);
      place = w.1;
      stand = record {
        tree = m.tree;
        octets = identifier t form ++ m.octets;
        is = w.0;
        count = refl;
        laid_out = m.laid_out;
        in_bound = subst (λ v. past_end i.nearest_end v ≡ false) w.1 w.4;
        in_limit = let z : q ≤ l.octets = w.3 in omega arith;
        depth_fits = m.deep;
        tagged = m.fact.tagged;
        segmented = m.fact.segmented;
        after_is = m.fact.is;
        bits = m.fact.fine ok;
      };
      ok = m.fact.fine ok;
      longer = w.2;
      limit = w.3;
    }

pub opens_count : (c i : Enclosing) (j : ℕ) (x : LengthForm) → i ≡ entered c j x
    → i.open_containers ≡ c.open_containers + 1
opens_count c i j (DefiniteLength m) e = ap (λ w. w.open_containers) e
opens_count c i j IndefiniteLength e = ap (λ w. w.open_containers) e

pub opens_within : (l : Limits) (c : Enclosing) (form : Bool) (k : ℕ) (s : List ℕ) (i : Enclosing) (j : ℕ) (u : List ℕ)
    → Opens l c form k s i j u → j ≤ l.octets
opens_within l c form k s i j u (e, DefiniteLength m, h, g) = let z : j + m ≤ l.octets = h.in_limit in omega arith
opens_within l c form k s i j u (e, IndefiniteLength, h, g) =
    let z = h.0.stand.0 in let y : k < l.octets = z.in_limit in let w : j ≡ k + 1 = h.1 in omega arith

abbrev OneSegment : ℕ → Limits → ℕ → Fault → Type 0
OneSegment deep l n f =
    (i : Enclosing) (s0 : List (List ℕ)) (k : ℕ) (s : List ℕ) (t : Tag) (form : Bool) (j : ℕ) (u : List ℕ)
    → l.depth ≤ deep + i.open_containers → Fine n s0 → 0 < j → Stands l i k s t form j u
    → run (read_segment deep l n i s0 k t form) j u ≡ Halted f → SegmentStops deep l n i s0 k t form j u f

string_stops : (deep : ℕ) (l : Limits) (n : ℕ) (c : Enclosing) (s0 : List (List ℕ)) (p k : ℕ) (s : List ℕ) (f : Fault)
    → OneSegment deep l n f → l.depth ≤ deep + c.open_containers + 1 → Fine n s0 → 0 < k
    → run (in_container l c p true (λ c'. each_member (read_segment deep l n c') l.octets l c' s0)) k s ≡ Halted f
    → SegmentsStop (λ inside before'. SegmentStops deep l n inside before') l n c s0 p k s f
string_stops deep l n c s0 p k s f one dp fn z h = ⊎_elim
    (λ a. ⊎_elim (λ b. let y : true ≡ false = b.0 in cc) (λ b. inl b.1) a)
    (λ a. let op = a.3 in
    let oc : a.0.open_containers ≡ c.open_containers + 1 = opens_count c a.0 a.1 op.1 op.3 in
    let le : k ≤ a.1 = a.4 in
    inr (
      a.0,
      a.1,
      a.2,
      op,
      members_stop (read_segment deep l n a.0) (λ s. s) (SegmentStands l a.0 n) (SegmentStops deep l n a.0)
          (λ m s. Fine n s) l a.0 f (segment_takes deep l n a.0)
          (λ number s1 k' s' t form j u ok st g.
          one a.0 s1 k' s' t form j u (omega arith) ok (later l a.0 k' s' t form j u st) st g)
          l.octets 0 s0 a.1 a.2 (opens_within l c true k s a.0 a.1 a.2 op) (omega arith) fn a.5,
    ))
    (container_halts l c p true (λ c'. each_member (read_segment deep l n c') l.octets l c' s0) k s f h)
  where
    later : (l : Limits) (c : Enclosing) (k : ℕ) (s : List ℕ) (t : Tag) (form : Bool) (j : ℕ) (u : List ℕ)
        → Stands l c k s t form j u → 0 < j
    later l c k s t form j u st =
        let z = id_some t form st.is_tag in let e : j ≡ k + length (identifier t form) = st.behind_is in omega arith

segment_stops : (deep : ℕ) (l : Limits) (n : ℕ) (f : Fault) → OneSegment deep l n f
unfolding read_segment SegmentStops
segment_stops zero l n f i s0 k s t form j u dp fn z st h =
    let lt : i.open_containers < l.depth = st.depth_fits in absurd (omega arith)
segment_stops (suc deep) l n f i s0 k s t false j u dp fn z st h = ⊎_elim
    (λ a. inl (tags_differ t (universal n) a.0, a.1))
    (λ a. inr (inl (
      same_tag_is t (universal n) a.0,
      refl,
      primitive_stop l i k j u f _ _
          (λ o q r g.
          ⊎_elim (λ b. let y = next_bad n s0 o b.0 in (y.0, y.1, b.1)) (λ b. absurd (halted_done _ q r f b.1))
          (halted_require _ _ _ q r f g)) a.1,
    )))
    (halted_require _ _ _ j u f h)
segment_stops (suc deep) l n f i s0 k s t true j u dp fn z st h = ⊎_elim
    (λ a. inl (tags_differ t (universal n) a.0, a.1))
    (λ a. ⊎_elim
    (λ b.
    inr (inr (
      same_tag_is t (universal n) a.0,
      refl,
      string_stops deep l n i s0 k j u f (segment_stops deep l n f) (omega arith) fn z b,
    )))
    (λ b. absurd (halted_done _ _ _ f b.4))
    (halted_bind _ _ j u f a.1))
    (halted_require _ _ _ j u f h)

-- leaves

not_contents : (kind : LeafKind) (t : Tag) (o : List ℕ) → is_contents kind o ≡ false → (d : List ℕ)
    → LeafContents kind (Primitive t o) d → ⊥
not_contents kind t o h d c = let e = contents_on kind t o d c in clash (is_contents kind o) e h
  where
    clash : (b : Bool) → b ≡ true → b ≡ false → ⊥
    clash b e g = cc

contents_not : (kind : LeafKind) (t : Tag) (o : List ℕ) → ((d : List ℕ) → LeafContents kind (Primitive t o) d → ⊥)
    → is_contents kind o ≡ false
contents_not kind t o h = go (is_contents kind o) refl
  where
    go : (b : Bool) → is_contents kind o ≡ b → is_contents kind o ≡ false
    go true e = absurd (h (der_contents kind o) (contents_fit kind t o e))
    go false e = e

not_joined : (kind : LeafKind) (n : ℕ) (s : List (List ℕ)) → segment_tag kind ≡ Some n
    → is_joined_contents kind s ≡ false → (kind ≡ Utf8String) × (IsUtf8 (join s) → ⊥)
not_joined Boolean n s e h = cc
not_joined Integer n s e h = cc
not_joined Null n s e h = cc
not_joined ObjectIdentifier n s e h = cc
not_joined BitString n s e h = cc
not_joined OctetString n s e h = cc
not_joined Utf8String n s e h = (refl, λ u. let t = is_utf8-from_IsUtf8 (join s) u in clash (is_utf8 (join s)) t h)
  where
    clash : (b : Bool) → b ≡ true → b ≡ false → ⊥
    clash b e g = cc

joined_not : (kind : LeafKind) (s : List (List ℕ)) → kind ≡ Utf8String → (IsUtf8 (join s) → ⊥)
    → is_joined_contents kind s ≡ false
joined_not kind s e h = subst (λ w. is_joined_contents w s ≡ false) (sym e) (go (is_utf8 (join s)) refl)
  where
    go : (b : Bool) → is_utf8 (join s) ≡ b → is_utf8 (join s) ≡ false
    go true g = absurd (h (IsUtf8-from_is_utf8 (join s) g))
    go false g = g

no_segments : (n : ℕ) → Fine n []
no_segments n e = tt

pub leaf_stops : (l : Limits) (c : Enclosing) (kind : LeafKind) (p : ℕ) (t : Tag) (form : Bool) (k : ℕ) (s : List ℕ)
    (f : Fault)
    → 0 < k → run (read_leaf l c kind p t form) k s ≡ Halted f → LeafStops l c kind p t form k s f
unfolding read_leaf
leaf_stops l c kind p t false k s f z h = inl (
  refl,
  primitive_stop l c p k s f _ _
      (λ o q r g.
      ⊎_elim (λ b. (not_contents kind t o b.0, b.1)) (λ b. absurd (halted_done _ q r f b.1))
      (halted_require _ _ _ q r f g)) h,
)
leaf_stops l c kind p t true k s f z h = go (segment_tag kind) refl h
  where
    go : (o : Option ℕ) → segment_tag kind ≡ o
        → run (elim o [
          | None ↦ Fail (fault p WrongForm)
          | Some n ↦ in_container l c p true (λ c'. each_member (read_segment l.depth l n c') l.octets l c' [])
              >>= λ e.
              require (is_joined_contents kind e.all) (fault p BadText) (Done (Leaf t (joined_contents kind e.all)))
        ]) k s ≡ Halted f → LeafStops l c kind p t true k s f
    go None e h = inr (inl (refl, e, halted_fail Value _ k s f h))
    go (Some n) e h = ⊎_elim
        (λ a.
        inr (inr (
          refl,
          n,
          e,
          inl (string_stops l.depth l n c [] p k s f (segment_stops l.depth l n f) (omega arith) (no_segments n) z a),
        )))
        (λ a. ⊎_elim
        (λ b. let y = not_joined kind n a.0.all e b.0 in
        let x = container_takes l c p true
        (λ c'. each_member (read_segment l.depth l n c') l.octets l c' []) k s a.0 a.1 a.2 a.3 in
        let m = members_end (read_segment l.depth l n x.0) (λ s. s) (SegmentStands l x.0 n) (λ m s. Fine n s)
        (λ all k' s'. EndsHere l x.0 k' s' × (IsUtf8 (join all) → ⊥)) l x.0 a.0
        (segment_takes l.depth l n x.0) (λ k' s' g w. (w, y.1)) l.octets 0 [] x.1 x.2 a.1 a.2 (no_segments n) x.5 in
        inr (inr (refl, n, e, inr (y.0, (x.0, x.1, x.2, x.3, ((m.0, m.2), b.1))))))
        (λ b. absurd (halted_done _ _ _ f b.1))
        (halted_require _ _ _ a.1 a.2 f a.4))
        (halted_bind _ _ k s f h)

-- a segment that stands is read

segment_gives : (deep : ℕ) (l : Limits) (n : ℕ) (i : Enclosing) → Proper i → l.depth ≤ deep + i.open_containers
    → GivesOne l i (read_segment deep l n i) (λ s. s) (SegmentStands l i n) (λ m s. Fine n s)
segment_gives deep l n i pr dp number s0 k s a m r ok h =
    let sp = split_lay h.tree h.octets h.laid_out in
    let t = tree_tag h.tree in
    let form = form_of h.tree in
    let some = id_some t form sp.tag in
    let z : length h.octets ≡ length (identifier t form ++ sp.octets) = ap length sp.is in
    let z' = length-append (identifier t form) sp.octets in
    let cnt : length h.octets ≡ m = h.count in
    let lim : k + m ≤ l.octets = h.in_limit in
    let w : Within l i.nearest_end (k + m) = record { nearest_end = h.in_bound; limit = h.in_limit } in
    let q : k + length (identifier t form) + length sp.octets ≡ k + m = omega arith in
    let d : i.open_containers + tree_depth h.tree ≤ l.depth = h.depth_fits in
    let one = depth_some h.tree in
    let fine : n ≡ 3 → AreBitSegments (s0 ++ (segments h.tree ++ [])) =
    λ e. subst AreBitSegments (h.after_is ∙ ap (λ v. s0 ++ v) (sym (append-nil (segments h.tree)))) (h.bits e) in
    record {
      tag = t;
      form = form;
      behind = k + length (identifier t form);
      rest = sp.octets ++ r;
      value = s0 ++ segments h.tree;
      stands = record {
        not_ended = not_ended i k m pr (omega arith) h.in_bound;
        is_tag = sp.tag;
        begins = record {
          is = h.is ∙ ap (λ v. v ++ r) sp.is ∙ append_assoc (identifier t form) sp.octets r;
          stand =
              all_may l i.nearest_end k (identifier t form)
              (within_less l i.nearest_end (k + length (identifier t form)) (k + m) (omega arith) w);
        };
        behind_is = refl;
        depth_fits = omega arith;
      };
      takes =
          segment_on h.tree deep l n i s0 [] (omega arith) h.tagged h.segmented fine k
          (k + length (identifier t form)) sp.octets r sp.behind d (subst (Within l i.nearest_end) (sym q) w)
          (omega arith)
          ∙ ap (λ v. Took (s0 ++ segments h.tree) v r) q;
      viewed = sym h.after_is;
      ok = λ e. subst AreBitSegments h.after_is (h.bits e);
      longer = omega arith;
      limit = h.in_limit;
    }

pub proper_inside : (c i : Enclosing) (j : ℕ) (x : LengthForm) → i ≡ entered c j x → Proper i
proper_inside c i j (DefiniteLength m) h e z =
    let a : EndsAt (j + m) ≡ EndsAt e = sym (ap (λ w. w.innermost) h) ∙ z in
    let b : j + m ≡ e = cc in
    ap (λ w. w.nearest_end) h ∙ ap Some b
proper_inside c i j IndefiniteLength h e z =
    absurd (let a : EndsWithZeros ≡ EndsAt e = sym (ap (λ w. w.innermost) h) ∙ z in cc)

pub opens_later : (l : Limits) (c : Enclosing) (form : Bool) (k : ℕ) (s : List ℕ) (i : Enclosing) (j : ℕ) (u : List ℕ)
    → Opens l c form k s i j u → k ≤ j
opens_later l c form k s i j u (e, DefiniteLength m, h, g) =
    let z : j ≡ k + length h.header = h.behind_is in omega arith
opens_later l c form k s i j u (e, IndefiniteLength, h, g) = let w : j ≡ k + 1 = h.1 in omega arith

abbrev BackSegment : ℕ → Limits → ℕ → Fault → Type 0
BackSegment deep l n f =
    (i : Enclosing) (s0 : List (List ℕ)) (k : ℕ) (s : List ℕ) (t : Tag) (form : Bool) (j : ℕ) (u : List ℕ)
    → l.depth ≤ deep + i.open_containers → Fine n s0 → 0 < j → Stands l i k s t form j u
    → SegmentStops deep l n i s0 k t form j u f → run (read_segment deep l n i s0 k t form) j u ≡ Halted f

string_halts : (deep : ℕ) (l : Limits) (n : ℕ) (c : Enclosing) (s0 : List (List ℕ)) (p k : ℕ) (s : List ℕ) (f : Fault)
    → BackSegment deep l n f → l.depth ≤ deep + c.open_containers + 1 → Fine n s0 → 0 < k
    → SegmentsStop (λ inside before'. SegmentStops deep l n inside before') l n c s0 p k s f
    → run (in_container l c p true (λ c'. each_member (read_segment deep l n c') l.octets l c' s0)) k s ≡ Halted f
string_halts deep l n c s0 p k s f one dp fn z (inl h) =
    form_halts l c p true (λ c'. each_member (read_segment deep l n c') l.octets l c' s0) k s f (inr (refl, h))
string_halts deep l n c s0 p k s f one dp fn z (inr (i, j, u, op, (m, h))) =
    let oc : i.open_containers ≡ c.open_containers + 1 = opens_count c i j op.1 op.3 in
    let le = opens_later l c true k s i j u op in
    opened_on l c p true (λ c'. each_member (read_segment deep l n c') l.octets l c' s0) k s i j u op
    ∙ members_halt (read_segment deep l n i) (λ s. s) (SegmentStands l i n) (SegmentStops deep l n i)
    (λ m s. Fine n s) l i f (segment_gives deep l n i (proper_inside c i j op.1 op.3) (omega arith))
    (λ number s1 k' s' t form j' u' ok st g.
    one i s1 k' s' t form j' u' (omega arith) ok
    (let z' = id_some t form st.is_tag in let e : j' ≡ k' + length (identifier t form) = st.behind_is in omega arith)
    st g)
    m l.octets 0 s0 j u (opens_within l c true k s i j u op) (omega arith) fn h

segment_halts : (deep : ℕ) (l : Limits) (n : ℕ) (f : Fault) → BackSegment deep l n f
unfolding read_segment SegmentStops
segment_halts zero l n f i s0 k s t form j u dp fn z st h = absurd h
segment_halts (suc deep) l n f i s0 k s t form j u dp fn z st (inl h) =
    require_off _ _ _ j u f (differ_tags t (universal n) h.0) h.1
segment_halts (suc deep) l n f i s0 k s t true j u dp fn z st (inr (inl h)) = let w : true ≡ false = h.1 in cc
segment_halts (suc deep) l n f i s0 k s t false j u dp fn z st (inr (inl h)) =
    require_on _ _ _ j u (equal_tag t (universal n) h.0)
    ∙ primitive_halt l i k j u f _ _ (λ o q r b. require_off _ _ _ q r f (bad_next n s0 o b.0 fn b.1) b.2) h.2
segment_halts (suc deep) l n f i s0 k s t false j u dp fn z st (inr (inr h)) = let w : false ≡ true = h.1 in cc
segment_halts (suc deep) l n f i s0 k s t true j u dp fn z st (inr (inr h)) =
    require_on _ _ _ j u (equal_tag t (universal n) h.0)
    ∙ halt_bind _ _ j u f (string_halts deep l n i s0 k j u f (segment_halts deep l n f) (omega arith) fn z h.2)

pub leaf_halts : (l : Limits) (c : Enclosing) (kind : LeafKind) (p : ℕ) (t : Tag) (form : Bool) (k : ℕ) (s : List ℕ)
    (f : Fault)
    → 0 < k → LeafStops l c kind p t form k s f → run (read_leaf l c kind p t form) k s ≡ Halted f
unfolding read_leaf
leaf_halts l c kind p t true k s f z (inl h) = let w : true ≡ false = h.0 in cc
leaf_halts l c kind p t false k s f z (inl h) =
    primitive_halt l c p k s f _ _ (λ o q r b. require_off _ _ _ q r f (contents_not kind t o b.0) b.1) h.1
leaf_halts l c kind p t false k s f z (inr (inl h)) = let w : false ≡ true = h.0 in cc
leaf_halts l c kind p t true k s f z (inr (inl h)) = go (segment_tag kind) h.1
  where
    go : (o : Option ℕ) → o ≡ None
        → run (elim o [
          | None ↦ Fail (fault p WrongForm)
          | Some n ↦ in_container l c p true (λ c'. each_member (read_segment l.depth l n c') l.octets l c' [])
              >>= λ e.
              require (is_joined_contents kind e.all) (fault p BadText) (Done (Leaf t (joined_contents kind e.all)))
        ]) k s ≡ Halted f
    go None e = fail_on Value (fault p WrongForm) k s ∙ ap Halted (sym h.2)
    go (Some n) e = cc
leaf_halts l c kind p t false k s f z (inr (inr h)) = let w : false ≡ true = h.0 in cc
leaf_halts l c kind p t true k s f z (inr (inr (w, n, e, h))) = go (segment_tag kind) e h
  where
    from_end : (i : Enclosing) (j : ℕ) (u : List ℕ) → Opens l c true k s i j u → (m : ℕ) → kind ≡ Utf8String
        → f ≡ fault p BadText
        → After (SegmentStands l i n)
        (λ all place' octets'. EndsHere l i place' octets' × (IsUtf8 (join all) → ⊥)) m [] j u
        → run (in_container l c p true (λ c'. each_member (read_segment l.depth l n c') l.octets l c' [])
        >>= λ e. require (is_joined_contents kind e.all) (fault p BadText) (Done (Leaf t (joined_contents kind e.all))))
        k s
        ≡ Halted f
    from_end i j u op m y g a =
        let oc : i.open_containers ≡ c.open_containers + 1 = opens_count c i j op.1 op.3 in
        let le = opens_later l c true k s i j u op in
        let x = members_ended (read_segment l.depth l n i) (λ s. s) (SegmentStands l i n) (λ m s. Fine n s)
        (λ all k' s'. EndsHere l i k' s' × (IsUtf8 (join all) → ⊥)) (λ all k'. IsUtf8 (join all) → ⊥) l i
        (segment_gives l.depth l n i (proper_inside c i j op.1 op.3) (omega arith)) (λ a k' s' b. b) m l.octets 0 [] j u
        (opens_within l c true k s i j u op) (omega arith) (no_segments n) a in
        run_bind _ _ k s (record { all = x.all; at = x.at }) x.place x.rest
        (opened_on l c p true (λ c'. each_member (read_segment l.depth l n c') l.octets l c' []) k s i j u op ∙ x.is)
        ∙ require_off _ _ _ x.place x.rest f (joined_not kind x.all y x.holds) g

    go : (o : Option ℕ) → o ≡ Some n
        → (SegmentsStop (λ inside before. SegmentStops l.depth l n inside before) l n c [] p k s f
        ⊎ ((kind ≡ Utf8String) × OpensThen l c true k s (λ inside behind rest.
        ((many : ℕ)
        × After (SegmentStands l inside n)
        (λ all place' octets'. EndsHere l inside place' octets' × (IsUtf8 (join all) → ⊥)) many [] behind rest)
        × (f ≡ fault p BadText))))
        → run (elim o [
          | None ↦ Fail (fault p WrongForm)
          | Some n ↦ in_container l c p true (λ c'. each_member (read_segment l.depth l n c') l.octets l c' [])
              >>= λ e.
              require (is_joined_contents kind e.all) (fault p BadText) (Done (Leaf t (joined_contents kind e.all)))
        ]) k s ≡ Halted f
    go None e h = cc
    go (Some n') e (inl h) =
        let e' : n ≡ n' = cc in
        subst (λ v.
        run (in_container l c p true (λ c'. each_member (read_segment l.depth l v c') l.octets l c' [])
        >>= λ e. require (is_joined_contents kind e.all) (fault p BadText) (Done (Leaf t (joined_contents kind e.all))))
        k s
        ≡ Halted f) e'
        (halt_bind _ _ k s f
        (string_halts l.depth l n c [] p k s f (segment_halts l.depth l n f) (omega arith) (no_segments n) z h))
    go (Some n') e (inr (y, (i, j, u, op, ((m, a), g)))) =
        let e' : n ≡ n' = cc in
        subst (λ v.
        run (in_container l c p true (λ c'. each_member (read_segment l.depth l v c') l.octets l c' [])
        >>= λ e. require (is_joined_contents kind e.all) (fault p BadText) (Done (Leaf t (joined_contents kind e.all))))
        k s
        ≡ Halted f) e'
        (from_end i j u op m y g a)

-- a primitive element by itself

pub primitive_stands : (l : Limits) (c : Enclosing) (p k : ℕ) (s o : List ℕ) (q : ℕ) (r : List ℕ)
    → run (primitive_contents l c p) k s ≡ Took o q r
    → (j : ℕ) × (q ≡ j + length o) × LengthStands l c.nearest_end k s (length o) j (o ++ r)
unfolding primitive_contents
primitive_stands l c p k s o q r h =
    let b = took_bind _ _ _ _ _ _ _ h in
    let d = definite_stands l c.nearest_end p k s b.value b.place b.rest b.first in
    let x = octets_took b.value b.place b.rest o q r b.next_tag in (
      b.place,
      x.2 ∙ ap (λ n. b.place + n) (sym x.1),
      subst (λ w. LengthStands l c.nearest_end k s w b.place (o ++ r)) (sym x.1)
          (subst (λ w. LengthStands l c.nearest_end k s b.value b.place w) x.0 d),
    )

pub primitive_run : (l : Limits) (c : Enclosing) (p k : ℕ) (s o : List ℕ) (j : ℕ) (r : List ℕ)
    → LengthStands l c.nearest_end k s (length o) j (o ++ r)
    → run (primitive_contents l c p) k s ≡ Took o (j + length o) r
unfolding primitive_contents
primitive_run l c p k s o j r d =
    run_bind _ _ k s (length o) j (o ++ r) (definite_run l c.nearest_end p k s (length o) j (o ++ r) d)
    ∙ octets_on o r j

-- a string by itself

pub one_stands : (n : ℕ) (l : Limits) (c : Enclosing) (p k : ℕ) (s : List ℕ) (all : List (List ℕ)) (q : ℕ) (r : List ℕ)
    → run (read_only_segment n l c p) k s ≡ Took all q r
    → (o : List ℕ)
    × (j : ℕ)
    × (all ≡ o ∷ [])
    × (n ≡ 3 → AreBitSegments (o ∷ []))
    × (q ≡ j + length o)
    × LengthStands l c.nearest_end k s (length o) j (o ++ r)
one_stands n l c p k s all q r h =
    let b = took_bind _ _ _ _ _ _ _ h in
    let g = took_require _ _ _ _ _ _ _ _ b.next_tag in
    let d = took_done _ _ _ _ _ _ g.1 in
    let t = primitive_stands l c p k s b.value b.place b.rest b.first in (
      b.value,
      t.0,
      sym d.0,
      next_fine n [] b.value g.0 (no_segments n),
      sym d.1 ∙ t.1,
      subst (λ w. LengthStands l c.nearest_end k s (length b.value) t.0 (b.value ++ w)) d.2 t.2,
    )

pub one_run : (n : ℕ) (l : Limits) (c : Enclosing) (p k : ℕ) (s o : List ℕ) (j : ℕ) (r : List ℕ)
    → (n ≡ 3 → AreBitSegments (o ∷ [])) → LengthStands l c.nearest_end k s (length o) j (o ++ r)
    → run (read_only_segment n l c p) k s ≡ Took (o ∷ []) (j + length o) r
one_run n l c p k s o j r bits d =
    run_bind _ _ k s o (j + length o) r (primitive_run l c p k s o j r d)
    ∙ require_on _ _ _ (j + length o) r (next_ok n [] o [] bits)
    ∙ done_on (o ∷ []) (j + length o) r

pub one_stops : (n : ℕ) (l : Limits) (c : Enclosing) (p k : ℕ) (s : List ℕ) (f : Fault)
    → run (read_only_segment n l c p) k s ≡ Halted f → PrimitiveStops l c p k s (BadSegment n p f) f
one_stops n l c p k s f h =
    primitive_stop l c p k s f _ (BadSegment n p f)
    (λ o q r g.
    ⊎_elim (λ b. let y = next_bad n [] o b.0 in (y.0, y.1, b.1)) (λ b. absurd (halted_done _ q r f b.1))
    (halted_require _ _ _ q r f g)) h

pub one_halts : (n : ℕ) (l : Limits) (c : Enclosing) (p k : ℕ) (s : List ℕ) (f : Fault)
    → PrimitiveStops l c p k s (BadSegment n p f) f → run (read_only_segment n l c p) k s ≡ Halted f
one_halts n l c p k s f h =
    primitive_halt l c p k s f _ (BadSegment n p f)
    (λ o q r b. require_off _ _ _ q r f (bad_next n [] o b.0 (no_segments n) b.1) b.2) h

pub all_stand : (n : ℕ) (l : Limits) (c : Enclosing) (p k : ℕ) (s : List ℕ) (e : Ended (List (List ℕ))) (q : ℕ)
    (r : List ℕ)
    → run (read_all_segments n l c p) k s ≡ Took e q r
    → (n ≡ 3 → AreBitSegments e.all)
    × OpensThen l c true k s (λ inside start contents.
    (many : ℕ)
    × After (SegmentStands l inside n)
    (λ all place' octets'. EndsHere l inside place' octets' × (all ≡ e.all)) many [] start contents)
all_stand n l c p k s e q r h =
    let x = container_takes l c p true (λ c'. each_member (read_segment l.depth l n c') l.octets l c' []) k s e q r h in
    let m = members_end (read_segment l.depth l n x.0) (λ s. s) (SegmentStands l x.0 n) (λ m s. Fine n s)
    (λ all k' s'. EndsHere l x.0 k' s' × (all ≡ e.all)) l x.0 e
    (segment_takes l.depth l n x.0) (λ k' s' g w. (w, refl)) l.octets 0 [] x.1 x.2 q r (no_segments n) x.5 in
    (m.1, (x.0, x.1, x.2, x.3, (m.0, m.2)))

pub all_run : (n : ℕ) (l : Limits) (c : Enclosing) (p k : ℕ) (s : List ℕ) (segments : List (List ℕ)) → 0 < k
    → OpensThen l c true k s (λ inside start contents.
    (many : ℕ)
    × After (SegmentStands l inside n)
    (λ all place' octets'. EndsHere l inside place' octets' × (all ≡ segments)) many [] start contents)
    → (e : Ended (List (List ℕ))) × (q : ℕ) × (r : List ℕ) × (e.all ≡ segments)
    × (run (read_all_segments n l c p) k s ≡ Took e q r)
all_run n l c p k s segments z (i, j, u, op, (m, a)) =
    let oc : i.open_containers ≡ c.open_containers + 1 = opens_count c i j op.1 op.3 in
    let le = opens_later l c true k s i j u op in
    let x = members_ended (read_segment l.depth l n i) (λ s. s) (SegmentStands l i n) (λ m s. Fine n s)
    (λ all k' s'. EndsHere l i k' s' × (all ≡ segments)) (λ all k'. all ≡ segments) l i
    (segment_gives l.depth l n i (proper_inside c i j op.1 op.3) (omega arith)) (λ a k' s' b. b) m l.octets 0 [] j u
    (opens_within l c true k s i j u op) (omega arith) (no_segments n) a in (
      record { all = x.all; at = x.at },
      x.place,
      x.rest,
      x.holds,
      opened_on l c p true (λ c'. each_member (read_segment l.depth l n c') l.octets l c' []) k s i j u op ∙ x.is,
    )

pub all_stop : (n : ℕ) (l : Limits) (c : Enclosing) (p k : ℕ) (s : List ℕ) (f : Fault) → 0 < k
    → run (read_all_segments n l c p) k s ≡ Halted f
    → SegmentsStop (λ inside before. SegmentStops l.depth l n inside before) l n c [] p k s f
all_stop n l c p k s f z h =
    string_stops l.depth l n c [] p k s f (segment_stops l.depth l n f) (omega arith) (no_segments n) z h

pub all_halt : (n : ℕ) (l : Limits) (c : Enclosing) (p k : ℕ) (s : List ℕ) (f : Fault) → 0 < k
    → SegmentsStop (λ inside before. SegmentStops l.depth l n inside before) l n c [] p k s f
    → run (read_all_segments n l c p) k s ≡ Halted f
all_halt n l c p k s f z h =
    string_halts l.depth l n c [] p k s f (segment_halts l.depth l n f) (omega arith) (no_segments n) z h
