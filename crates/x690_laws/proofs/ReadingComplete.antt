-- What fits is taken, by induction on the type.
use Rattle.std.proofs.Common.{◌≡◌, ℕ, zero, suc, ◌+◌, ◌<◌, ◌≤◌, ◌⊎◌, inl, inr, ⊎_elim, ◌==◌, ◌&&◌, ◌||◌, nat_le, not, Bool, true, false, List, [], ◌∷◌, ◌++◌, length, Option, Some, None, refl, sym, ◌∙◌, ap, ap₂, subst, append_assoc, append-nil, arith}
use Rattle.std.proofs.lemmas.Bool.Decides.{nat_tests}
use Rattle.std.proofs.lemmas.List.{length-append}
use Rattle.std.specs.Str.{IsUtf8}
use Rattle.std.proofs.lemmas.Str.{is_utf8-from_IsUtf8}
use Rattle.x690_laws.proofs.LengthsOfContents.{segments_within}
use Rattle.x690.proofs.Runs.{run_bind}
use Rattle.x690_laws.proofs.ValuesOfTrees.{leaf_one}
use Rattle.x690_laws.proofs.ReadingHeadersSound.{Within}
use Rattle.x690_laws.proofs.ReadingLeavesSound.{contents_fit}
use Rattle.x690_laws.proofs.ReadingLayoutsSound.{Steps}
use Rattle.x690_laws.proofs.ReadingSound.{equal_tag}
use Rattle.x690_laws.proofs.ReadingOfHeaders.{require_on, choose_first, choose_second, done_on, at_place, both, within_less, next_on, primitive_on}
use Rattle.x690_laws.proofs.ListsPaired.{paired_add}
use Rattle.x690_laws.proofs.ValuesSame.{same_refl, same_sym, same_trans}
use Rattle.x690_laws.proofs.ValuesOfTrees.{same_of, same_sequence, same_set, leaf_at_same, each_snoc}
use Rattle.x690_laws.proofs.TextsAsLayouts.{same_der}
use Rattle.x690_laws.proofs.TextsSpell.{begins_fits}
use Rattle.x690_laws.proofs.ReadingSound.{items_values, equal_octets, octets_equal}
use Rattle.x690_laws.proofs.ReadingLayoutsSound.{same_tag_is}
use Rattle.x690_laws.proofs.ReadingOfLayouts.{form_of, Behind, split_lay, Gives, EndsSo, container_on, at_end, member_on, each_on_members, contents_on, segment_ok, id_some, depth_some}
use Rattle.tlv_core.specs.Identifier.{Tag, identifier}
use Rattle.tlv_core.specs.Limits.{Limits}
use Rattle.tlv_core.specs.declared.reason.Reason.{Reason}
use Rattle.x690.specs.Contents.{AllSegmented, AreBitSegments, BitString, Boolean, Integer, IsBitSegment, LeafContents, LeafKind, Null, ObjectIdentifier, OctetString, Segmented, Utf8String, all_segments, segments, unused_bits}
use Rattle.x690.specs.DerTexts.{der}
use Rattle.x690.specs.Fitting.{Fits, FitsFields}
use Rattle.x690.specs.Layouts.{AllLaidOut, Constructed, FirstTree, LaidOut, NoTrees, Primitive, RawTree, RawTrees, member_trees, same_tag, tree_depth, tree_tag, trees_depth, universal}
use Rattle.x690.specs.Lists.{Each, Paired, Picked, join, one_of, same_octets}
use Rattle.x690.specs.OpenValues.{FitOpenInPlace, FitOpenPaired, FitsOpen, OpenLeaf, OpenPlain, OpenSequence, OpenSetOf, open_form}
use Rattle.x690.specs.Points.{Enclosing, outermost, stands_at_end}
use Rattle.x690.specs.Premises.{Fair, FairFields}
use Rattle.x690.specs.ReadContents.{add_member, all_members, der_contents, is_bit_segment, is_next_segment, read_leaf, read_open, read_segment}
use Rattle.x690.specs.ReadHeaders.{ContainerEnds, ElementStands, Next, each_member, in_container, next_tag, primitive_contents}
use Rattle.x690.specs.ReadTypes.{apply_rule, due_element, from_inside, is_this_leaf, read_fields, read_type}
use Rattle.x690.specs.Reading.{Done, Halted, Outcome, Reading, Took, choose, run, ◌>>=◌}
use Rattle.x690.specs.TypeTerms.{ChoiceType, ContainingType, Default, DefinedByType, EndOfFields, Fields, LeafType, OpenType, Optional, RefusedType, Required, RuledType, SequenceOfType, SequenceType, SetOfType, TypeTerm}
use Rattle.x690.specs.Values.{Leaf, Same, Sequence, SetOf, Value, Values, members, values_of}

-- strings

bits_part : (s : List (List ℕ)) (o : List ℕ) (rest : List (List ℕ)) → AreBitSegments (s ++ (o ∷ rest))
    → IsBitSegment o × (unused_bits s ≡ 0)
bits_part [] o [] h = (h, refl)
bits_part [] o (x ∷ rest) h = (h.0, refl)
bits_part (a ∷ []) o [] h = (h.2, h.1)
bits_part (a ∷ []) o (x ∷ rest) h = (h.2.0, h.1)
bits_part (a ∷ b ∷ s) o rest h = bits_part (b ∷ s) o rest h.2

pub next_ok : (n : ℕ) (s : List (List ℕ)) (o : List ℕ) (rest : List (List ℕ))
    → (n ≡ 3 → AreBitSegments (s ++ (o ∷ rest))) → is_next_segment n s o ≡ true
next_ok n s o rest f = go (n == 3) refl
  where
    go : (b : Bool) → (n == 3) ≡ b → not b || (is_bit_segment o && (unused_bits s == 0)) ≡ true
    go true e =
        let z : n ≡ 3 = grind (arith, nat_tests) in
        let a = bits_part s o rest (f z) in
        let a1 : unused_bits s ≡ 0 = a.1 in
        let t : (unused_bits s == 0) ≡ true = grind (arith, nat_tests) in
        both _ _ (segment_ok o a.0) t
    go false e = refl

fuel_enough : (l : Limits) (c : Enclosing) (k q : ℕ) (o tail : List ℕ) → 0 < k → EndsSo c k o tail q
    → Within l c.nearest_end q → length o < l.octets
fuel_enough l c k q o tail h e w =
    let z : q ≤ l.octets = w.limit in
    ⊎_elim (λ a. let a2 : q ≡ k + length o = a.2 in omega arith)
    (λ a. let a2 : q ≡ k + length o + 2 = a.2 in omega arith) e

pub no_depth : (x : RawTree) → tree_depth x ≤ 0 → ⊥
no_depth (Primitive t o) h = omega arith
no_depth (Constructed t rs) h = omega arith

mutual
  unfolding read_segment segments Segmented Behind

  pub segment_on : (x : RawTree) (deep : ℕ) (l : Limits) (n : ℕ) (c : Enclosing) (s0 rest : List (List ℕ))
      → tree_depth x ≤ deep → tree_tag x ≡ universal n → Segmented n x
      → (n ≡ 3 → AreBitSegments (s0 ++ (segments x ++ rest)))
      → Gives l c (read_segment deep l n c s0) x (s0 ++ segments x)
  segment_on x zero l n c s0 rest dp tg sg bs p k y r h d w z = absurd (no_depth x dp)
  segment_on (Primitive t o) (suc deep) l n c s0 rest dp tg sg bs p k y r h d w z =
      let e : length y ≡ length (h.0 ++ o) = ap length h.2 in
      let la = length-append h.0 o in
      let q : k + length h.0 + length o ≡ k + length y = omega arith in
      ap (λ v. run (read_segment (suc deep) l n c s0 p t false) k (v ++ r)) h.2
      ∙ ap (λ v. run (read_segment (suc deep) l n c s0 p t false) k v) (append_assoc h.0 o r)
      ∙ require_on _ _ _ k (h.0 ++ (o ++ r)) (equal_tag t (universal n) tg)
      ∙ run_bind _ _ k (h.0 ++ (o ++ r)) o (k + length h.0 + length o) r
      (primitive_on l c p k h.0 o r h.1 (subst (Within l c.nearest_end) (sym q) w))
      ∙ require_on _ _ _ (k + length h.0 + length o) r (next_ok n s0 o rest bs) ∙ done_on _ _ r ∙ at_place _ _ _ r q
  segment_on (Constructed t rs) (suc deep) l n c s0 rest dp tg sg bs p k y r h d w z =
      let m = container_on l c p t rs (λ c'. each_member (read_segment deep l n c') l.octets l c' s0)
      (λ e. record { all = s0 ++ all_segments rs; at = e }) k y r h d w
      (λ c' k' q' o tail r' g d' z' e w'.
      each_on_members (read_segment deep l n c') l c' l.octets s0 rs (s0 ++ all_segments rs) k' q' o tail r'
      (segments_on rs deep l n c' s0 rest (omega arith) sg bs) g (fuel_enough l c' k' q' o tail z' e w') d' e w') in
      require_on _ _ _ k (y ++ r) (equal_tag t (universal n) tg)
      ∙ run_bind _ _ k (y ++ r) (record { all = s0 ++ all_segments rs; at = m.0 }) (k + length y) r m.1 ∙ done_on _ _ r

  segments_on : (rs : RawTrees) (deep : ℕ) (l : Limits) (n : ℕ) (c : Enclosing) (s0 rest : List (List ℕ))
      → trees_depth rs ≤ deep → AllSegmented n rs → (n ≡ 3 → AreBitSegments (s0 ++ (all_segments rs ++ rest)))
      → Steps (λ s x s'. Gives l c (read_segment deep l n c s) x s') s0 rs (s0 ++ all_segments rs)
  segments_on NoTrees deep l n c s0 rest dp sg bs = sym (append-nil s0)
  segments_on (FirstTree x xs) deep l n c s0 rest dp sg bs =
      let e : s0 ++ ((segments x ++ all_segments xs) ++ rest) ≡ s0 ++ (segments x ++ (all_segments xs ++ rest)) =
      ap (λ v. s0 ++ v) (append_assoc (segments x) (all_segments xs) rest) in
      let e' : s0 ++ (segments x ++ (all_segments xs ++ rest)) ≡ (s0 ++ segments x) ++ (all_segments xs ++ rest) =
      sym (append_assoc s0 (segments x) (all_segments xs ++ rest)) in (
        s0 ++ segments x,
        segment_on x deep l n c s0 (all_segments xs ++ rest) (omega arith) sg.0 sg.1
            (λ z. subst AreBitSegments e (bs z)),
        subst (λ v. Steps (λ s x s'. Gives l c (read_segment deep l n c s) x s') (s0 ++ segments x) xs v)
            (append_assoc s0 (segments x) (all_segments xs))
            (segments_on xs deep l n c (s0 ++ segments x) rest (omega arith) sg.2
            (λ z. subst AreBitSegments (e ∙ e') (bs z))),
      )

string_on : (l : Limits) (c : Enclosing) (n : ℕ) (t : Tag) (rs : RawTrees) (p k : ℕ) (y r : List ℕ) → AllSegmented n rs
    → (n ≡ 3 → AreBitSegments (all_segments rs)) → Behind (Constructed t rs) y
    → c.open_containers + tree_depth (Constructed t rs) ≤ l.depth → Within l c.nearest_end (k + length y)
    → (e : ℕ)
    × (run (in_container l c p true (λ c'. each_member (read_segment l.depth l n c') l.octets l c' [])) k (y ++ r)
    ≡ Took (record { all = all_segments rs; at = e }) (k + length y) r)
string_on l c n t rs p k y r sg bs h d w =
    container_on l c p t rs (λ c'. each_member (read_segment l.depth l n c') l.octets l c' [])
    (λ e. record { all = all_segments rs; at = e }) k y r h d w
    (λ c' k' q' o tail r' g d' z' e w'.
    each_on_members (read_segment l.depth l n c') l c' l.octets [] rs (all_segments rs) k' q' o tail r'
    (segments_on rs l.depth l n c' [] [] (omega arith) sg
    (λ z. subst AreBitSegments (sym (append-nil (all_segments rs))) (bs z))) g
    (fuel_enough l c' k' q' o tail z' e w') d' e w')

pub leaf_on : (kind : LeafKind) (x : RawTree) (o : List ℕ) (l : Limits) (c : Enclosing) → LeafContents kind x o
    → Gives l c (read_leaf l c kind) x (Leaf (tree_tag x) o)
unfolding read_leaf LeafContents Behind segments Segmented
leaf_on kind (Primitive t c') o l c h p k y r g d w z =
    let ok = contents_on kind t c' o h in
    let e : length y ≡ length (g.0 ++ c') = ap length g.2 in
    let la = length-append g.0 c' in
    let q : k + length g.0 + length c' ≡ k + length y = omega arith in
    ap (λ v. run (read_leaf l c kind p t false) k (v ++ r)) g.2
    ∙ ap (λ v. run (read_leaf l c kind p t false) k v) (append_assoc g.0 c' r)
    ∙ run_bind _ _ k (g.0 ++ (c' ++ r)) c' (k + length g.0 + length c') r
    (primitive_on l c p k g.0 c' r g.1 (subst (Within l c.nearest_end) (sym q) w))
    ∙ require_on _ _ _ _ r ok
    ∙ done_on _ _ r
    ∙ ap₂ (λ u v. Took (Leaf t u) v r)
    (leaf_one kind (Primitive t c') (der_contents kind c') o (contents_fit kind t c' ok) h) q
leaf_on Boolean (Constructed t rs) o l c h p k y r g d w z = absurd h
leaf_on Integer (Constructed t rs) o l c h p k y r g d w z = absurd h
leaf_on Null (Constructed t rs) o l c h p k y r g d w z = absurd h
leaf_on ObjectIdentifier (Constructed t rs) o l c h p k y r g d w z = absurd h
leaf_on BitString (Constructed t rs) o l c h p k y r g d w z =
    let m = string_on l c 3 t rs p k y r h.segmented (λ e. h.each) g d w in
    run_bind _ _ k (y ++ r) (record { all = all_segments rs; at = m.0 }) (k + length y) r m.1
    ∙ require_on _ _ _ _ r refl
    ∙ done_on _ _ r
    ∙ ap (λ u. Took (Leaf t u) (k + length y) r) (sym h.is)
leaf_on OctetString (Constructed t rs) o l c h p k y r g d w z =
    let m = string_on l c 4 t rs p k y r h.segmented (λ e. absurd (omega arith)) g d w in
    run_bind _ _ k (y ++ r) (record { all = all_segments rs; at = m.0 }) (k + length y) r m.1
    ∙ require_on _ _ _ _ r refl
    ∙ done_on _ _ r
    ∙ ap (λ u. Took (Leaf t u) (k + length y) r) (sym h.is)
leaf_on Utf8String (Constructed t rs) o l c h p k y r g d w z =
    let m = string_on l c 4 t rs p k y r h.0.segmented (λ e. absurd (omega arith)) g d w in
    run_bind _ _ k (y ++ r) (record { all = all_segments rs; at = m.0 }) (k + length y) r m.1
    ∙ require_on _ _ _ _ r (is_utf8-from_IsUtf8 (join (all_segments rs)) (subst IsUtf8 h.0.is h.1))
    ∙ done_on _ _ r
    ∙ ap (λ u. Took (Leaf t u) (k + length y) r) (sym h.0.is)

-- values

-- the value that the reading makes of a tree, the same as one that it says
abbrev pub Made : Limits → (Enclosing → ℕ → Tag → Bool → Reading Value) → RawTree → Value → Type 0
Made l one x v = (w : Value) × Same v w × ((c : Enclosing) → Gives l c (one c) x w)

abbrev MemberSteps : Limits → (Enclosing → ℕ → Tag → Bool → Reading Value) → RawTrees → List Value → Type 0
MemberSteps l one rs ws =
    (c : Enclosing) (s0 : List Value) → Steps (λ s x s'. Gives l c (add_member (one c) s) x s') s0 rs (s0 ++ ws)

member_gives : (l : Limits) (c : Enclosing) (one : Enclosing → ℕ → Tag → Bool → Reading Value) (x : RawTree) (w : Value)
    (s0 : List Value)
    → Gives l c (one c) x w → Gives l c (add_member (one c) s0) x (s0 ++ (w ∷ []))
unfolding add_member
member_gives l c one x w s0 f p k y r h d i z =
    run_bind _ _ k (y ++ r) w (k + length y) r (f p k y r h d i z) ∙ done_on _ _ r

steps_none : (l : Limits) (one : Enclosing → ℕ → Tag → Bool → Reading Value) → MemberSteps l one NoTrees []
steps_none l one c s0 = sym (append-nil s0)

steps_more : (l : Limits) (one : Enclosing → ℕ → Tag → Bool → Reading Value) (x : RawTree) (xs : RawTrees) (w : Value)
    (ws : List Value)
    → ((c : Enclosing) → Gives l c (one c) x w) → MemberSteps l one xs ws → MemberSteps l one (FirstTree x xs) (w ∷ ws)
steps_more l one x xs w ws f g c s0 = (
  s0 ++ (w ∷ []),
  member_gives l c one x w s0 (f c),
  subst (λ v. Steps (λ s x s'. Gives l c (add_member (one c) s) x s') (s0 ++ (w ∷ [])) xs v)
      (append_assoc s0 (w ∷ []) ws) (g c (s0 ++ (w ∷ []))),
)

all_on : (l : Limits) (c : Enclosing) (p : ℕ) (t : Tag) (rs : RawTrees)
    (one : Enclosing → ℕ → Tag → Bool → Reading Value) (ws : List Value) (k : ℕ) (y r : List ℕ)
    → MemberSteps l one rs ws → Behind (Constructed t rs) y
    → c.open_containers + tree_depth (Constructed t rs) ≤ l.depth → Within l c.nearest_end (k + length y)
    → (e : ℕ) × (run (all_members l c p true one) k (y ++ r) ≡ Took (record { all = ws; at = e }) (k + length y) r)
unfolding all_members
all_on l c p t rs one ws k y r f h d w =
    container_on l c p t rs (λ c'. each_member (add_member (one c')) l.octets l c' [])
    (λ e. record { all = ws; at = e }) k y r h d w
    (λ c' k' q' o tail r' g d' z' e w'.
    each_on_members (add_member (one c')) l c' l.octets [] rs ws k' q' o tail r' (f c' []) g
    (fuel_enough l c' k' q' o tail z' e w') d' e w')

each_on : (l : Limits) (one : Enclosing → ℕ → Tag → Bool → Reading Value) (R : RawTree → Value → Type 0)
    (f : (x : RawTree) (v : Value) → R x v → Made l one x v) (rs : RawTrees) (vs : List Value)
    → Each R (member_trees rs) vs → (ws : List Value) × Each Same vs ws × MemberSteps l one rs ws
each_on l one R f NoTrees [] h = ([], tt, steps_none l one)
each_on l one R f NoTrees (v ∷ vs) h = absurd h
each_on l one R f (FirstTree x xs) [] h = absurd h
each_on l one R f (FirstTree x xs) (v ∷ vs) h =
    let a = f x v h.0 in let i = each_on l one R f xs vs h.1 in
    (a.0 ∷ i.0, (a.1, i.1), steps_more l one x xs a.0 i.0 a.2 i.2)

paired_on : (l : Limits) (one : Enclosing → ℕ → Tag → Bool → Reading Value) (R : RawTree → Value → Type 0)
    (f : (x : RawTree) (v : Value) → R x v → Made l one x v) (rs : RawTrees) (vs : List Value)
    → Paired R (member_trees rs) vs → (ws : List Value) × Paired Same vs ws × MemberSteps l one rs ws
paired_on l one R f NoTrees vs h = ([], subst (λ v. Paired Same v []) (sym h) refl, steps_none l one)
paired_on l one R f (FirstTree x xs) vs h =
    let a = f x h.0 h.3 in let i = paired_on l one R f xs h.1 h.4 in (
      a.0 ∷ i.0,
      paired_add Same h.0 a.0 vs h.1 (a.0 ∷ i.0) i.0 h.2 (inl (refl, refl)) a.1 i.1,
      steps_more l one x xs a.0 i.0 a.2 i.2,
    )

-- open values

open_as : (deep : ℕ) (l : Limits) (c : Enclosing) (p : ℕ) (t : Tag) (form : Bool) (kind : LeafKind)
    → open_form t ≡ OpenLeaf kind → read_open (suc deep) l c p t form ≡ read_leaf l c kind p t form
unfolding read_open
open_as deep l c p t form kind e = rw (e, read_open) refl

open_plain : (deep : ℕ) (l : Limits) (c : Enclosing) (p : ℕ) (t : Tag) → open_form t ≡ OpenPlain
    → read_open (suc deep) l c p t false ≡ (primitive_contents l c p >>= λ o. Done (Leaf t o))
unfolding read_open
open_plain deep l c p t e = rw (e, read_open) refl

open_sequences : (deep : ℕ) (l : Limits) (c : Enclosing) (p : ℕ) (t : Tag)
    → (open_form t ≡ OpenSequence) ⊎ (open_form t ≡ OpenPlain)
    → read_open (suc deep) l c p t true
    ≡ (all_members l c p true (λ c'. read_open deep l c') >>= λ e. Done (Sequence t (values_of e.all)))
unfolding read_open
open_sequences deep l c p t (inl a) = rw (a, read_open) refl
open_sequences deep l c p t (inr a) = rw (a, read_open) refl

open_sets : (deep : ℕ) (l : Limits) (c : Enclosing) (p : ℕ) (t : Tag) → open_form t ≡ OpenSetOf
    → read_open (suc deep) l c p t true
    ≡ (all_members l c p true (λ c'. read_open deep l c') >>= λ e. Done (SetOf t (values_of e.all)))
unfolding read_open
open_sets deep l c p t e = rw (e, read_open) refl

sequence_from : (t : Tag) (v : Value) (vs : Values) (ws : List Value) → v ≡ Sequence t vs → Each Same (members vs) ws
    → Same v (Sequence t (values_of ws))
sequence_from t v vs ws e h =
    same_trans v (Sequence t vs) (Sequence t (values_of ws)) (same_of v (Sequence t vs) e)
    (same_sequence t vs (values_of ws) (subst (λ x. Each Same (members vs) x) (sym (items_values ws)) h))

set_from : (t : Tag) (v : Value) (vs : Values) (ws : List Value) → v ≡ SetOf t vs → Paired Same (members vs) ws
    → Same v (SetOf t (values_of ws))
set_from t v vs ws e h =
    same_trans v (SetOf t vs) (SetOf t (values_of ws)) (same_of v (SetOf t vs) e)
    (same_set t vs (values_of ws) (subst (λ x. Paired Same (members vs) x) (sym (items_values ws)) h))

mutual
  unfolding FitsOpen Behind

  pub open_on : (x : RawTree) (v : Value) (deep : ℕ) (l : Limits) → tree_depth x ≤ deep → FitsOpen x v
      → Made l (λ c. read_open deep l c) x v
  open_on x v zero l dp h = absurd (no_depth x dp)
  open_on (Primitive t o) v (suc deep) l dp h = ⊎_elim
      (λ a. (
        Leaf t a.octets,
        same_of v (Leaf t a.octets) a.is,
        λ c p k y r g d w z.
            ap (λ m. run m k (y ++ r)) (open_as deep l c p t false a.kind a.taken)
            ∙ leaf_on a.kind (Primitive t o) a.octets l c a.contents p k y r g d w z,
      ))
      (λ a. (
        Leaf t o,
        same_of v (Leaf t o) a.1,
        λ c p k y r g d w z.
            let e : length y ≡ length (g.0 ++ o) = ap length g.2 in
            let la = length-append g.0 o in
            let q : k + length g.0 + length o ≡ k + length y = omega arith in
            ap (λ m. run m k (y ++ r)) (open_plain deep l c p t a.0)
            ∙ run_bind _ _ k (y ++ r) o (k + length y) r
            (ap (λ u. run (primitive_contents l c p) k (u ++ r)) g.2
            ∙ ap (λ u. run (primitive_contents l c p) k u) (append_assoc g.0 o r)
            ∙ primitive_on l c p k g.0 o r g.1 (subst (Within l c.nearest_end) (sym q) w) ∙ at_place o _ _ r q)
            ∙ done_on _ _ r,
      ))
      h
  open_on (Constructed t rs) v (suc deep) l dp h = ⊎_elim
      (λ a. (
        Leaf t a.octets,
        same_of v (Leaf t a.octets) a.is,
        λ c p k y r g d w z.
            ap (λ m. run m k (y ++ r)) (open_as deep l c p t true a.kind a.taken)
            ∙ leaf_on a.kind (Constructed t rs) a.octets l c a.contents p k y r g d w z,
      ))
      (λ b. ⊎_elim
      (λ a. let i = open_sequence_on rs (members a.0) deep l (omega arith) a.3 in (
        Sequence t (values_of i.0),
        sequence_from t v a.0 i.0 a.2 i.1,
        λ c p k y r g d w z. let m = all_on l c p t rs (λ c. read_open deep l c) i.0 k y r i.2 g d w in
            ap (λ m. run m k (y ++ r)) (open_sequences deep l c p t a.1)
            ∙ run_bind _ _ k (y ++ r) (record { all = i.0; at = m.0 }) (k + length y) r m.1
            ∙ done_on _ _ r,
      ))
      (λ a. let i = open_set_on rs (members a.0) deep l (omega arith) a.3 in (
        SetOf t (values_of i.0),
        set_from t v a.0 i.0 a.2 i.1,
        λ c p k y r g d w z. let m = all_on l c p t rs (λ c. read_open deep l c) i.0 k y r i.2 g d w in
            ap (λ m. run m k (y ++ r)) (open_sets deep l c p t a.1)
            ∙ run_bind _ _ k (y ++ r) (record { all = i.0; at = m.0 }) (k + length y) r m.1
            ∙ done_on _ _ r,
      ))
      b)
      h

  open_sequence_on : (rs : RawTrees) (vs : List Value) (deep : ℕ) (l : Limits) → trees_depth rs ≤ deep
      → FitOpenInPlace rs vs → (ws : List Value) × Each Same vs ws × MemberSteps l (λ c. read_open deep l c) rs ws
  open_sequence_on NoTrees vs deep l dp h =
      ([], subst (λ x. Each Same x []) (sym h) tt, steps_none l (λ c. read_open deep l c))
  open_sequence_on (FirstTree x xs) vs deep l dp h =
      let a = open_on x h.0 deep l (omega arith) h.3 in
      let i = open_sequence_on xs h.1 deep l (omega arith) h.4 in (
        a.0 ∷ i.0,
        subst (λ u. Each Same u (a.0 ∷ i.0)) (sym h.2) (a.1, i.1),
        steps_more l (λ c. read_open deep l c) x xs a.0 i.0 a.2 i.2,
      )

  open_set_on : (rs : RawTrees) (vs : List Value) (deep : ℕ) (l : Limits) → trees_depth rs ≤ deep → FitOpenPaired rs vs
      → (ws : List Value) × Paired Same vs ws × MemberSteps l (λ c. read_open deep l c) rs ws
  open_set_on NoTrees vs deep l dp h =
      ([], subst (λ v. Paired Same v []) (sym h) refl, steps_none l (λ c. read_open deep l c))
  open_set_on (FirstTree x xs) vs deep l dp h =
      let a = open_on x h.0 deep l (omega arith) h.3 in
      let i = open_set_on xs h.1 deep l (omega arith) h.4 in (
        a.0 ∷ i.0,
        paired_add Same h.0 a.0 vs h.1 (a.0 ∷ i.0) i.0 h.2 (inl (refl, refl)) a.1 i.1,
        steps_more l (λ c. read_open deep l c) x xs a.0 i.0 a.2 i.2,
      )

-- what stands at the first place of the members
abbrev due_of : RawTrees → ℕ → Next
due_of NoTrees k = ContainerEnds k
due_of (FirstTree x xs) k = ElementStands k (tree_tag x) (form_of x)

abbrev FieldsGive : Limits → Fields → List Value → RawTrees → List Value → Type 0
FieldsGive l fs earlier rs ws =
    (c : Enclosing) (k q : ℕ) (o tail r : List ℕ) (j : ℕ) (u : List ℕ) → AllLaidOut rs o
    → c.open_containers + trees_depth rs ≤ l.depth → EndsSo c k o tail q → Within l c.nearest_end q
    → run (next_tag l c) k (o ++ (tail ++ r)) ≡ Took (due_of rs k) j u
    → run (read_fields l fs earlier c (due_of rs k)) j u ≡ Took ws q r

record NextDue (l : Limits) (c : Enclosing) (k : ℕ) (s : List ℕ) (d : Next) : Type 0 where
  behind : ℕ
  rest : List ℕ
  is : run (next_tag l c) k s ≡ Took d behind rest

due_on : (l : Limits) (c : Enclosing) (rs : RawTrees) (k q : ℕ) (o tail r : List ℕ) → AllLaidOut rs o
    → c.open_containers + trees_depth rs ≤ l.depth → EndsSo c k o tail q → Within l c.nearest_end q
    → NextDue l c k (o ++ (tail ++ r)) (due_of rs k)
unfolding LaidOut
due_on l c NoTrees k q o tail r g d e w = record { behind = q; rest = r; is = at_end c k q o tail r l g e w }
due_on l c (FirstTree x xs) k q o tail r g d e w =
    let m = member_on l c k q x g.0 g.1 tail r g.2 (omega arith) (subst (λ v. EndsSo c k v tail q) g.4 e) w in
    record {
      behind = m.behind;
      rest = m.octets ++ (g.1 ++ (tail ++ r));
      is = ap (λ v. run (next_tag l c) k (v ++ (tail ++ r))) g.4 ∙ m.taken;
    }

same_took : {A : Type 0} (o : Outcome A) (a b : A) (j i : ℕ) (u v : List ℕ) → o ≡ Took a j u → o ≡ Took b i v
    → (a ≡ b) × (j ≡ i) × (u ≡ v)
same_took o a b j i u v h g = let e : Took a j u ≡ Took b i v = sym h ∙ g in (cc, cc, cc)

-- an element read, and then the fields after it
took_field : (l : Limits) (c : Enclosing) (T : TypeTerm) (fs : Fields) (earlier : List Value) (x : RawTree)
    (xs : RawTrees) (w : Value) (ws : List Value)
    → ((c : Enclosing) → Gives l c (read_type l T earlier c) x w) → FieldsGive l fs (earlier ++ (w ∷ [])) xs ws
    → (k q : ℕ) (o tail r : List ℕ) (j : ℕ) (u : List ℕ) → AllLaidOut (FirstTree x xs) o
    → c.open_containers + trees_depth (FirstTree x xs) ≤ l.depth → EndsSo c k o tail q → Within l c.nearest_end q
    → run (next_tag l c) k (o ++ (tail ++ r)) ≡ Took (due_of (FirstTree x xs) k) j u
    → run (read_type l T earlier c k (tree_tag x) (form_of x)
    >>= λ v. next_tag l c >>= λ d. read_fields l fs (earlier ++ (v ∷ [])) c d >>= λ vs. Done (v ∷ vs)) j u
    ≡ Took (w ∷ ws) q r
unfolding LaidOut
took_field l c T fs earlier x xs w ws f g k q o tail r j u ly d e wi n =
    let m = member_on l c k q x ly.0 ly.1 tail r ly.2 (omega arith) (subst (λ v. EndsSo c k v tail q) ly.4 e) wi in
    let s = same_took _ _ _ _ _ _ _ n (ap (λ v. run (next_tag l c) k (v ++ (tail ++ r))) ly.4 ∙ m.taken) in
    let dd = due_on l c xs (m.behind + length m.octets) q ly.1 tail r ly.3 (omega arith) m.ending wi in
    ap₂ (λ a b.
    run (read_type l T earlier c k (tree_tag x) (form_of x)
    >>= λ v. next_tag l c >>= λ d. read_fields l fs (earlier ++ (v ∷ [])) c d >>= λ vs. Done (v ∷ vs)) a b) s.1 s.2
    ∙ run_bind _ _ m.behind (m.octets ++ (ly.1 ++ (tail ++ r))) w (m.behind + length m.octets) (ly.1 ++ (tail ++ r))
    (f c k m.behind m.octets (ly.1 ++ (tail ++ r)) m.laid_out (omega arith) m.within m.positive)
    ∙ run_bind _ _ (m.behind + length m.octets) (ly.1 ++ (tail ++ r))
    (due_of xs (m.behind + length m.octets)) dd.behind dd.rest dd.is
    ∙ run_bind _ _ dd.behind dd.rest ws q r
    (g c (m.behind + length m.octets) q ly.1 tail r dd.behind dd.rest ly.3 (omega arith) m.ending wi dd.is)
    ∙ done_on _ q r

-- an element with its identifier
pub whole_on : (l : Limits) (c : Enclosing) (one : ℕ → Tag → Bool → Reading Value) (x : RawTree) (w : Value) (k : ℕ)
    (b r : List ℕ)
    → Gives l c one x w → LaidOut x b → c.open_containers + tree_depth x ≤ l.depth
    → Within l c.nearest_end (k + length b) → stands_at_end c.innermost k ≡ false
    → run (due_element l c one) k (b ++ r) ≡ Took w (k + length b) r
unfolding due_element
whole_on l c one x w k b r f h d wi ne =
    let s = split_lay x b h in
    let a = identifier (tree_tag x) (form_of x) in
    let n : length b ≡ length (a ++ s.octets) = ap length s.is in
    let z = length-append a s.octets in
    let some = id_some (tree_tag x) (form_of x) s.tag in
    let dp = no_depth x in
    let one' : 1 ≤ tree_depth x = depth_some x in
    let q : k + length a + length s.octets ≡ k + length b = omega arith in
    ap (λ v. run (due_element l c one) k (v ++ r)) s.is
    ∙ ap (λ v. run (due_element l c one) k v) (append_assoc a s.octets r)
    ∙ run_bind _ _ k (a ++ (s.octets ++ r)) (ElementStands k (tree_tag x) (form_of x)) (k + length a) (s.octets ++ r)
    (next_on l c k (tree_tag x) (form_of x) (s.octets ++ r) ne s.tag (omega arith)
    (within_less l c.nearest_end (k + length a) (k + length b) (omega arith) wi))
    ∙ f k (k + length a) s.octets r s.behind d (subst (Within l c.nearest_end) (sym q) wi) (omega arith)
    ∙ at_place w _ _ r q

pub rule_on : (p : ℕ) (why : Option Reason) (w : Value) (k : ℕ) (s : List ℕ) → why ≡ None
    → run (apply_rule p why w) k s ≡ Took w k s
unfolding apply_rule
rule_on p None w k s h = done_on w k s
rule_on p (Some x) w k s h = cc

inside_whole : (p : ℕ) (o : Outcome Value) (w : Value) (e k : ℕ) (s : List ℕ) → o ≡ Took w e []
    → run (from_inside p o) k s ≡ Took w k s
unfolding from_inside
inside_whole p (Halted g) w e k s h = cc
inside_whole p (Took v e' []) w e k s h = let x : v ≡ w = cc in done_on v k s ∙ ap (λ u. Took u k s) x
inside_whole p (Took v e' (b ∷ bs)) w e k s h = cc

pub leaf_test : (t : Tag) (o : List ℕ) (v : Value) → Same v (Leaf t o) → is_this_leaf t o v ≡ true
unfolding Same
leaf_test t o (Leaf u p) h = both _ _ (equal_tag u t h.0) (subst (λ w. same_octets p w ≡ true) h.1 (equal_octets p))
leaf_test t o (Sequence u vs) h = absurd h
leaf_test t o (SetOf u vs) h = absurd h

pub leaf_untest : (t : Tag) (o : List ℕ) (v : Value) → (Same v (Leaf t o) → ⊥) → is_this_leaf t o v ≡ false
unfolding Same
leaf_untest t o (Leaf u p) h = go (same_tag u t) refl (same_octets p o) refl
  where
    go : (a : Bool) → same_tag u t ≡ a → (b : Bool) → same_octets p o ≡ b → (a && b) ≡ false
    go true x true y = absurd (h (same_tag_is u t x, octets_equal p o y))
    go true x false y = refl
    go false x b y = refl
leaf_untest t o (Sequence u vs) h = refl
leaf_untest t o (SetOf u vs) h = refl

open_limit : (l : Limits) (x : RawTree) (v : Value) → FitsOpen x v → Made l (read_open l.depth l) x v
open_limit l x v h = go (nat_le (tree_depth x) l.depth) refl
  where
    go : (b : Bool) → nat_le (tree_depth x) l.depth ≡ b → Made l (read_open l.depth l) x v
    go true e = open_on x v l.depth l (let z : tree_depth x ≤ l.depth = grind (arith, nat_tests) in z) h
    go false e = (
      v,
      same_refl v,
      λ c p k y r g d w z. absurd (let s : l.depth < tree_depth x = grind (arith, nat_tests) in omega arith),
    )

-- the octets of a string are no more than those that lay it out

append-length : (o : List ℕ) → length (o ++ []) ≡ length o
append-length o = ap length (append-nil o)

behind_length : (x : RawTree) (y c : List ℕ) → Behind x y → LeafContents OctetString x c → length c ≤ length y
unfolding LaidOut segments Behind LeafContents
behind_length (Primitive t o) y c h g =
    let e = ap length h.2 in let e' = ap length g.is in omega (arith, e, e', append-length o, length-append h.0 o)
behind_length (Constructed t rs) y c h g =
    let i = segments_within rs h.0 h.1 in
    let e' = ap length g.is in
    ⊎_elim
    (λ a. let e = ap length a.2 in omega (arith, e, e', length-append a.0 h.0))
    (λ a. let e = ap length a in omega (arith, e, e', length-append h.0 (0 ∷ 0 ∷ [])))
    h.2

inner_within : (l : Limits) (c : Enclosing) (k : ℕ) (x : RawTree) (y o : List ℕ) → Behind x y
    → LeafContents OctetString x o → Within l c.nearest_end (k + length y) → Within l None (0 + length o)
inner_within l c k x y o h g w =
    let a = behind_length x y o h g in let z = w.limit in record { nearest_end = refl; limit = omega arith }

pub each_length : (vs ws : List Value) → Each Same vs ws → length vs ≡ length ws
each_length [] [] h = refl
each_length [] (w ∷ ws) h = absurd h
each_length (v ∷ vs) [] h = absurd h
each_length (v ∷ vs) (w ∷ ws) h = let i = each_length vs ws h.1 in omega arith

pick_length : (v : Value) (vs ws : List Value) → Picked v vs ws → length vs ≡ length ws + 1
pick_length v [] ws h = absurd h
pick_length v (x ∷ vs) ws h = ⊎_elim
    (λ a. let e : length ws ≡ length vs = ap length a.1 in omega arith)
    (λ a. let i = pick_length v vs a.0 a.2 in let e : length ws ≡ length (x ∷ a.0) = ap length a.1 in omega arith)
    h

paired_length : (vs ws : List Value) → Paired Same vs ws → length vs ≡ length ws
paired_length [] ws h = sym (ap length h)
paired_length (v ∷ vs) ws h = let i = paired_length vs h.1 h.4 in let e = pick_length h.0 ws h.1 h.2 in omega arith

-- no field is left, and no member
done_give : (l : Limits) (earlier : List Value) (rs : RawTrees) → member_trees rs ≡ []
    → FieldsGive l EndOfFields earlier rs []
unfolding read_type LaidOut
done_give l earlier NoTrees h c k q o tail r j u ly d e w n =
    let s = same_took _ _ _ _ _ _ _ n (at_end c k q o tail r l ly e w) in
    done_on [] j u ∙ ap₂ (λ a b. Took [] a b) s.1 s.2
done_give l earlier (FirstTree x xs) h c k q o tail r j u ly d e w n = absurd (let e = h in cc)

-- the same, where the element is a default
took_default : (l : Limits) (c : Enclosing) (T : TypeTerm) (fs : Fields) (earlier : List Value) (x : RawTree)
    (xs : RawTrees) (w : Value) (t : Tag) (i : List ℕ) (ws : List Value)
    → ((c : Enclosing) → Gives l c (read_type l T earlier c) x w) → FieldsGive l fs earlier xs ws
    → is_this_leaf t i w ≡ true
    → (k q : ℕ) (o tail r : List ℕ) (j : ℕ) (u : List ℕ) → AllLaidOut (FirstTree x xs) o
    → c.open_containers + trees_depth (FirstTree x xs) ≤ l.depth → EndsSo c k o tail q → Within l c.nearest_end q
    → run (next_tag l c) k (o ++ (tail ++ r)) ≡ Took (due_of (FirstTree x xs) k) j u
    → run (read_type l T earlier c k (tree_tag x) (form_of x)
    >>= λ v. next_tag l c
    >>= λ d.
    choose (is_this_leaf t i v) (read_fields l fs earlier c d)
    (read_fields l fs (earlier ++ (v ∷ [])) c d >>= λ vs. Done (v ∷ vs))) j u
    ≡ Took ws q r
unfolding LaidOut
took_default l c T fs earlier x xs w t i ws f g tt' k q o tail r j u ly d e wi n =
    let m = member_on l c k q x ly.0 ly.1 tail r ly.2 (omega arith) (subst (λ v. EndsSo c k v tail q) ly.4 e) wi in
    let s = same_took _ _ _ _ _ _ _ n (ap (λ v. run (next_tag l c) k (v ++ (tail ++ r))) ly.4 ∙ m.taken) in
    let dd = due_on l c xs (m.behind + length m.octets) q ly.1 tail r ly.3 (omega arith) m.ending wi in
    ap₂ (λ a b.
    run (read_type l T earlier c k (tree_tag x) (form_of x)
    >>= λ v. next_tag l c
    >>= λ d.
    choose (is_this_leaf t i v) (read_fields l fs earlier c d)
    (read_fields l fs (earlier ++ (v ∷ [])) c d >>= λ vs. Done (v ∷ vs))) a b) s.1 s.2
    ∙ run_bind _ _ m.behind (m.octets ++ (ly.1 ++ (tail ++ r))) w (m.behind + length m.octets) (ly.1 ++ (tail ++ r))
    (f c k m.behind m.octets (ly.1 ++ (tail ++ r)) m.laid_out (omega arith) m.within m.positive)
    ∙ run_bind _ _ (m.behind + length m.octets) (ly.1 ++ (tail ++ r))
    (due_of xs (m.behind + length m.octets)) dd.behind dd.rest dd.is
    ∙ choose_first _ _ _ dd.behind dd.rest tt'
    ∙ g c (m.behind + length m.octets) q ly.1 tail r dd.behind dd.rest ly.3 (omega arith) m.ending wi dd.is

took_other : (l : Limits) (c : Enclosing) (T : TypeTerm) (fs : Fields) (earlier : List Value) (x : RawTree)
    (xs : RawTrees) (w : Value) (t : Tag) (i : List ℕ) (ws : List Value)
    → ((c : Enclosing) → Gives l c (read_type l T earlier c) x w) → FieldsGive l fs (earlier ++ (w ∷ [])) xs ws
    → is_this_leaf t i w ≡ false
    → (k q : ℕ) (o tail r : List ℕ) (j : ℕ) (u : List ℕ) → AllLaidOut (FirstTree x xs) o
    → c.open_containers + trees_depth (FirstTree x xs) ≤ l.depth → EndsSo c k o tail q → Within l c.nearest_end q
    → run (next_tag l c) k (o ++ (tail ++ r)) ≡ Took (due_of (FirstTree x xs) k) j u
    → run (read_type l T earlier c k (tree_tag x) (form_of x)
    >>= λ v. next_tag l c
    >>= λ d.
    choose (is_this_leaf t i v) (read_fields l fs earlier c d)
    (read_fields l fs (earlier ++ (v ∷ [])) c d >>= λ vs. Done (v ∷ vs))) j u
    ≡ Took (w ∷ ws) q r
unfolding LaidOut
took_other l c T fs earlier x xs w t i ws f g tt' k q o tail r j u ly d e wi n =
    let m = member_on l c k q x ly.0 ly.1 tail r ly.2 (omega arith) (subst (λ v. EndsSo c k v tail q) ly.4 e) wi in
    let s = same_took _ _ _ _ _ _ _ n (ap (λ v. run (next_tag l c) k (v ++ (tail ++ r))) ly.4 ∙ m.taken) in
    let dd = due_on l c xs (m.behind + length m.octets) q ly.1 tail r ly.3 (omega arith) m.ending wi in
    ap₂ (λ a b.
    run (read_type l T earlier c k (tree_tag x) (form_of x)
    >>= λ v. next_tag l c
    >>= λ d.
    choose (is_this_leaf t i v) (read_fields l fs earlier c d)
    (read_fields l fs (earlier ++ (v ∷ [])) c d >>= λ vs. Done (v ∷ vs))) a b) s.1 s.2
    ∙ run_bind _ _ m.behind (m.octets ++ (ly.1 ++ (tail ++ r))) w (m.behind + length m.octets) (ly.1 ++ (tail ++ r))
    (f c k m.behind m.octets (ly.1 ++ (tail ++ r)) m.laid_out (omega arith) m.within m.positive)
    ∙ run_bind _ _ (m.behind + length m.octets) (ly.1 ++ (tail ++ r))
    (due_of xs (m.behind + length m.octets)) dd.behind dd.rest dd.is
    ∙ choose_second _ _ _ dd.behind dd.rest tt'
    ∙ run_bind _ _ dd.behind dd.rest ws q r
    (g c (m.behind + length m.octets) q ly.1 tail r dd.behind dd.rest ly.3 (omega arith) m.ending wi dd.is)
    ∙ done_on _ q r

mutual
  unfolding read_type Fits Fair

  pub type_on : (l : Limits) (T : TypeTerm) (earlier earlier' : List Value) (x : RawTree) (v : Value) → Fair T
      → Each Same earlier earlier' → Fits l.depth T earlier x v → Made l (read_type l T earlier') x v
  type_on l (LeafType u kind) earlier earlier' x v fr es h = (
    Leaf u h.1,
    same_of v (Leaf u h.1) h.3,
    λ c p k y r g d w z.
        require_on _ _ _ k (y ++ r) (equal_tag u (tree_tag x) (sym h.0))
        ∙ ap (λ t. run (read_leaf l c kind p t (form_of x)) k (y ++ r)) (sym h.0)
        ∙ leaf_on kind x h.1 l c h.2 p k y r g d w z ∙ ap (λ t. Took (Leaf t h.1) (k + length y) r) h.0,
  )
  type_on l OpenType earlier earlier' x v fr es h =
      open_limit l x v h
  type_on l (SequenceOfType u n T) earlier earlier' x v fr es h =
      let i = each_on l (read_type l T []) (Fits l.depth T []) (λ a b f. type_on l T [] [] a b fr tt f) h.0
      (members h.1) h.5 in (
        Sequence u (values_of i.0),
        sequence_from u v h.1 i.0 h.3 i.1,
        λ c.
            subst (λ a. Gives l c (read_type l (SequenceOfType u n T) earlier' c) a (Sequence u (values_of i.0)))
            (sym h.2)
            (λ p k y r g d w z. let m = all_on l c p u h.0 (read_type l T []) i.0 k y r i.2 g d w in
            let le : n ≤ length i.0 = subst (λ a. n ≤ a) (each_length (members h.1) i.0 i.1) h.4 in
            let t : nat_le n (length i.0) ≡ true = grind (arith, nat_tests) in
            require_on _ _ _ k (y ++ r) (equal_tag u u refl)
            ∙ run_bind _ _ k (y ++ r) (record { all = i.0; at = m.0 }) (k + length y) r m.1
            ∙ require_on _ _ _ _ r t
            ∙ done_on _ _ r),
      )
  type_on l (SetOfType u n T) earlier earlier' x v fr es h =
      let i = paired_on l (read_type l T []) (Fits l.depth T []) (λ a b f. type_on l T [] [] a b fr tt f) h.0
      (members h.1) h.5 in (
        SetOf u (values_of i.0),
        set_from u v h.1 i.0 h.3 i.1,
        λ c. subst (λ a. Gives l c (read_type l (SetOfType u n T) earlier' c) a (SetOf u (values_of i.0))) (sym h.2)
            (λ p k y r g d w z. let m = all_on l c p u h.0 (read_type l T []) i.0 k y r i.2 g d w in
            let le : n ≤ length i.0 = subst (λ a. n ≤ a) (paired_length (members h.1) i.0 i.1) h.4 in
            let t : nat_le n (length i.0) ≡ true = grind (arith, nat_tests) in
            require_on _ _ _ k (y ++ r) (equal_tag u u refl)
            ∙ run_bind _ _ k (y ++ r) (record { all = i.0; at = m.0 }) (k + length y) r m.1
            ∙ require_on _ _ _ _ r t
            ∙ done_on _ _ r),
      )
  type_on l (SequenceType u fs) earlier earlier' x v fr es h =
      let i = fields_on l fs [] [] h.0 (members h.1) fr tt h.4 in (
        Sequence u (values_of i.0),
        sequence_from u v h.1 i.0 h.3 i.1,
        λ c.
            subst (λ a. Gives l c (read_type l (SequenceType u fs) earlier' c) a (Sequence u (values_of i.0))) (sym h.2)
            (λ p k y r g d w z.
            let m =
            container_on l c p u h.0 (λ c'. next_tag l c' >>= λ d. read_fields l fs [] c' d) (λ e. i.0) k y r g d w
            (λ c' k' q' o tail r' ly d' z' e w'. let n = due_on l c' h.0 k' q' o tail r' ly d' e w' in
            run_bind _ _ k' (o ++ (tail ++ r')) (due_of h.0 k') n.behind n.rest n.is
            ∙ i.2 c' k' q' o tail r' n.behind n.rest ly d' e w' n.is) in
            require_on _ _ _ k (y ++ r) (equal_tag u u refl)
            ∙ run_bind _ _ k (y ++ r) i.0 (k + length y) r m.1
            ∙ done_on _ _ r),
      )
  type_on l (ContainingType u q T) earlier earlier' x v fr es h =
      let i = type_on l T earlier earlier' h.3 h.4 fr.1 es h.7 in (
        Leaf u (der i.0),
        same_of v (Leaf u (der i.0)) (h.8 ∙ ap (Leaf u) (same_der h.4 i.0 i.1)),
        λ c p k y r g d w z.
            require_on _ _ _ k (y ++ r) (equal_tag u (tree_tag x) (sym h.0))
            ∙ run_bind _ _ k (y ++ r) (Leaf u h.1) (k + length y) r
            (ap (λ t. run (read_leaf l c OctetString p t (form_of x)) k (y ++ r)) (sym h.0)
            ∙ leaf_on OctetString x h.1 l c h.2 p k y r g d w z ∙ ap (λ t. Took (Leaf t h.1) (k + length y) r) h.0)
            ∙ run_bind _ _ (k + length y) r i.0 (k + length y) r
            (inside_whole p _ i.0 (0 + length h.1) (k + length y) r
            (ap (λ b. run (due_element l outermost (read_type l T earlier' outermost)) 0 b) (sym (append-nil h.1))
            ∙ whole_on l outermost (read_type l T earlier' outermost) h.3 i.0 0 h.1 [] (i.2 outermost) h.6 (omega arith)
            (inner_within l c k x y h.1 g h.2 w) refl))
            ∙ rule_on p (q earlier' i.0) (Leaf u (der i.0)) (k + length y) r
            (sym (fr.0 earlier earlier' h.4 i.0 es i.1) ∙ h.9),
      )
  type_on l (RuledType q T) earlier earlier' x v fr es h =
      let i = type_on l T earlier earlier' x v fr.1 es h.1 in (
        i.0,
        i.1,
        λ c p k y r g d w z.
            run_bind _ _ k (y ++ r) i.0 (k + length y) r (i.2 c p k y r g d w z)
            ∙ rule_on p (q earlier' i.0) i.0 (k + length y) r (sym (fr.0 earlier earlier' v i.0 es i.1) ∙ h.0),
      )
  type_on l (RefusedType u w) earlier earlier' x v fr es h = absurd h
  type_on l (DefinedByType path os A B) earlier earlier' x v fr es h = ⊎_elim
      (λ a. let i = type_on l A earlier earlier' x v fr.0 es a.1 in (
        i.0,
        i.1,
        λ c p k y r g d w z.
            choose_first _ _ _ k (y ++ r) (ap (λ b. one_of b os) (sym (leaf_at_same path earlier earlier' es)) ∙ a.0)
            ∙ i.2 c p k y r g d w z,
      ))
      (λ a. let i = type_on l B earlier earlier' x v fr.1 es a.1 in (
        i.0,
        i.1,
        λ c p k y r g d w z.
            choose_second _ _ _ k (y ++ r) (ap (λ b. one_of b os) (sym (leaf_at_same path earlier earlier' es)) ∙ a.0)
            ∙ i.2 c p k y r g d w z,
      ))
      h
  type_on l (ChoiceType A B) earlier earlier' x v fr es h = ⊎_elim
      (λ a.
      let i = type_on l A earlier earlier' x v fr.0 es a.1 in
      (i.0, i.1, λ c p k y r g d w z. choose_first _ _ _ k (y ++ r) a.0 ∙ i.2 c p k y r g d w z))
      (λ a.
      let i = type_on l B earlier earlier' x v fr.1 es a.1 in
      (i.0, i.1, λ c p k y r g d w z. choose_second _ _ _ k (y ++ r) a.0 ∙ i.2 c p k y r g d w z))
      h

  pub fields_on : (l : Limits) (fs : Fields) (earlier earlier' : List Value) (rs : RawTrees) (vs : List Value)
      → FairFields fs → Each Same earlier earlier' → FitsFields l.depth fs earlier (member_trees rs) vs
      → (ws : List Value) × Each Same vs ws × FieldsGive l fs earlier' rs ws
  fields_on l EndOfFields earlier earlier' rs vs fr es h =
      ([], subst (λ a. Each Same a []) (sym h.1) tt, done_give l earlier' rs h.0)
  fields_on l (Required T fs) earlier earlier' NoTrees vs fr es h = absurd (let e = h.4 in cc)
  fields_on l (Required T fs) earlier earlier' (FirstTree x xs) vs fr es h =
      let e0 : h.0 ≡ x = let e = h.4 in cc in
      let e1 : h.1 ≡ member_trees xs = let e = h.4 in cc in
      let f = subst (λ a. Fits l.depth T earlier a h.2) e0 h.6 in
      let a = type_on l T earlier earlier' x h.2 fr.0 es f in
      let i = fields_on l fs (earlier ++ (h.2 ∷ [])) (earlier' ++ (a.0 ∷ [])) xs h.3 fr.1
      (each_snoc earlier earlier' h.2 a.0 es a.1)
      (subst (λ b. FitsFields l.depth fs (earlier ++ (h.2 ∷ [])) b h.3) e1 h.7) in (
        a.0 ∷ i.0,
        subst (λ b. Each Same b (a.0 ∷ i.0)) (sym h.5) (a.1, i.1),
        λ c k q o tail r j u ly d e w n.
            require_on _ _ _ j u (begins_fits l.depth T earlier x h.2 f)
            ∙ took_field l c T fs earlier' x xs a.0 i.0 a.2 i.2 k q o tail r j u ly d e w n,
      )
  fields_on l (Optional T fs) earlier earlier' NoTrees vs fr es h = ⊎_elim
      (λ b.
      let i = fields_on l fs earlier earlier' NoTrees vs fr.1 es b.1 in
      (i.0, i.1, λ c k q o tail r j u ly d e w n. i.2 c k q o tail r j u ly d e w n))
      (λ b. absurd (let e = b.4 in cc))
      h
  fields_on l (Optional T fs) earlier earlier' (FirstTree x xs) vs fr es h = ⊎_elim
      (λ b.
      let i = fields_on l fs earlier earlier' (FirstTree x xs) vs fr.1 es b.1 in
      (i.0, i.1, λ c k q o tail r j u ly d e w n. choose_second _ _ _ j u b.0 ∙ i.2 c k q o tail r j u ly d e w n))
      (λ b. let e0 : b.0 ≡ x = let e = b.4 in cc in
      let e1 : b.1 ≡ member_trees xs = let e = b.4 in cc in
      let f = subst (λ a. Fits l.depth T earlier a b.2) e0 b.7 in
      let a = type_on l T earlier earlier' x b.2 fr.0 es f in
      let i = fields_on l fs (earlier ++ (b.2 ∷ [])) (earlier' ++ (a.0 ∷ [])) xs b.3 fr.1
      (each_snoc earlier earlier' b.2 a.0 es a.1)
      (subst (λ m. FitsFields l.depth fs (earlier ++ (b.2 ∷ [])) m b.3) e1 b.8) in (
        a.0 ∷ i.0,
        subst (λ m. Each Same m (a.0 ∷ i.0)) (sym b.5) (a.1, i.1),
        λ c k q o tail r j u ly d e w n.
            choose_first _ _ _ j u (begins_fits l.depth T earlier x b.2 f)
            ∙ took_field l c T fs earlier' x xs a.0 i.0 a.2 i.2 k q o tail r j u ly d e w n,
      ))
      h
  fields_on l (Default t o T fs) earlier earlier' NoTrees vs fr es h = ⊎_elim
      (λ b.
      let i = fields_on l fs earlier earlier' NoTrees vs fr.1 es b.1 in
      (i.0, i.1, λ c k q o tail r j u ly d e w n. i.2 c k q o tail r j u ly d e w n))
      (λ b. absurd (let e = b.3 in cc))
      h
  fields_on l (Default t o T fs) earlier earlier' (FirstTree x xs) vs fr es h = ⊎_elim
      (λ b.
      let i = fields_on l fs earlier earlier' (FirstTree x xs) vs fr.1 es b.1 in
      (i.0, i.1, λ c k q o tail r j u ly d e w n. choose_second _ _ _ j u b.0 ∙ i.2 c k q o tail r j u ly d e w n))
      (λ b. let e0 : b.0 ≡ x = let e = b.3 in cc in
      let e1 : b.1 ≡ member_trees xs = let e = b.3 in cc in
      let f = subst (λ a. Fits l.depth T earlier a b.2) e0 b.5 in
      let a = type_on l T earlier earlier' x b.2 fr.0 es f in
      ⊎_elim
      (λ m.
      let i =
      fields_on l fs earlier earlier' xs vs fr.1 es (subst (λ s. FitsFields l.depth fs earlier s vs) e1 m.1) in (
        i.0,
        i.1,
        λ c k q oo tail r j u ly d e w n. choose_first _ _ _ j u (begins_fits l.depth T earlier x b.2 f)
            ∙ took_default l c T fs earlier' x xs a.0 t o i.0 a.2 i.2
            (leaf_test t o a.0 (same_trans a.0 b.2 (Leaf t o) (same_sym b.2 a.0 a.1) m.0))
            k q oo tail r j u ly d e w n,
      ))
      (λ m.
      let i = fields_on l fs (earlier ++ (b.2 ∷ [])) (earlier' ++ (a.0 ∷ [])) xs m.0 fr.1
      (each_snoc earlier earlier' b.2 a.0 es a.1)
      (subst (λ s. FitsFields l.depth fs (earlier ++ (b.2 ∷ [])) s m.0) e1 m.3) in (
        a.0 ∷ i.0,
        subst (λ s. Each Same s (a.0 ∷ i.0)) (sym m.1) (a.1, i.1),
        λ c k q oo tail r j u ly d e w n. choose_first _ _ _ j u (begins_fits l.depth T earlier x b.2 f)
            ∙ took_other l c T fs earlier' x xs a.0 t o i.0 a.2 i.2
            (leaf_untest t o a.0 (λ s. m.2 (same_trans b.2 a.0 (Leaf t o) a.1 s))) k q oo tail r j u ly d e w n,
      ))
      b.6)
      h
