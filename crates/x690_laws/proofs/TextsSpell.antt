-- The DER text of a value spells it.
use Rattle.std.proofs.Common.{◌≡◌, ℕ, ◌+◌, ◌*◌, ◌/◌, ◌^◌, ◌<◌, ◌≤◌, ◌==◌, true, false, inl, inr, ⊎_elim, List, [], ◌∷◌, ◌++◌, map, length, refl, sym, ◌∙◌, ap, ap₂, subst, arith, append-nil, mul-div_cancel}
use Rattle.std.proofs.lemmas.List.{length-append}
use Rattle.std.proofs.lemmas.Nat.{pow_pos}
use Rattle.std.proofs.lemmas.Bool.Decides.{nat_tests}
use Rattle.x690_laws.proofs.TextsAsLayouts.{ders_map, element_alone}
use Rattle.x690_laws.proofs.TextsAsLayouts as plain
use Rattle.x690_laws.proofs.LengthsOfContents.{arranged_length}
use Rattle.x690_laws.proofs.ValuesOfTrees.{fits_same}
use Rattle.x690_laws.proofs.TextsAsTrees.{text, Tagged, raws_of, depth_list, TaggedList, members_raws, texts_raws, depths_raws, depths_members, tagged_raws, tagged_members, lay_tagged, lay_text, text_alone, element_long, arrange_trees, arrange_texts, arrange_depth, arrange_tagged, arrange_paired}
use Rattle.tlv_core.specs.Identifier.{IsTag, Tag}
use Rattle.x690.specs.Contents.{AreBitSegments, BitString, BitStringContents, Boolean, Integer, IsBitSegment, IsInteger, LeafContents, LeafKind, Null, ObjectIdentifier, OctetString, Segmented, Utf8String, bit_contents, bit_octets, boolean_contents, clear_unused, segments, unused_bits}
use Rattle.x690.specs.DerTexts.{arrange, der, der_element, der_texts}
use Rattle.x690.specs.Fitting.{Fits, FitsFields, next_fits}
use Rattle.x690.specs.Layouts.{Constructed, FirstTree, LaidOut, NoTrees, Primitive, RawTree, RawTrees, member_trees, same_tag, tree_depth, tree_tag}
use Rattle.x690.specs.Lists.{Each, Paired, Picked, join}
use Rattle.tlv_core.specs.ObjectIdentifier.{ObjectIdentifierOctets}
use Rattle.x690.specs.OpenValues.{FitOpenInPlace, FitOpenPaired, FitsOpen, IsOpenLeaf}
use Rattle.x690.specs.TypeTerms.{ChoiceType, ContainingType, Default, DefinedByType, Distinct, DistinctFields, EndOfFields, Fields, LeafType, OpenType, Optional, RefusedType, Required, RuledType, SequenceOfType, SequenceType, SetOfType, TypeTerm, fields_fit_tag, fits_tag}
use Rattle.x690.specs.Values.{FirstMember, Leaf, NoMembers, Sequence, SetOf, Value, Values, members}
use Rattle.x690_laws.proofs.ReadingDeeper.{fits_deeper}
use Rattle.x690_laws.specs.TypeLaws.{OneText, OneTextOfTrees, TextSpells}

-- what is short enough for its length to be laid out

unfoldable mutual
  pub Short : Value → Type 0
  Short (Leaf t o) = length o < 18446744073709551616
  Short (Sequence t vs) = Shorts vs
  Short (SetOf t vs) = Shorts vs

  pub Shorts : Values → Type 0
  Shorts NoMembers = Unit {0}
  Shorts (FirstMember v vs) = Short v × Shorts vs

abbrev pub Every : {A : Type 0} → (A → Type 0) → List A → Type 0
Every P [] = Unit {0}
Every P (x ∷ xs) = P x × Every P xs

pick_every : {A : Type 0} (P : A → Type 0) (x : A) (ys rest : List A) → Every P ys → Picked x ys rest
    → P x × Every P rest
pick_every P x [] rest h p = absurd p
pick_every P x (y ∷ ys) rest h p = ⊎_elim
    (λ a. (subst P (sym a.0) h.0, subst (λ v. Every P v) (sym a.1) h.1))
    (λ a. let q = pick_every P x ys a.0 h.1 a.2 in (q.0, subst (λ v. Every P v) (sym a.1) (h.0, q.1)))
    p

every_short : (vs : Values) → Shorts vs → Every Short (members vs)
unfolding Short
every_short NoMembers h = tt
every_short (FirstMember v vs) h = (h.0, every_short vs h.1)

mutual
  unfolding Short der

  pub short : (v : Value) → length (der v) < 18446744073709551616 → Short v
  short (Leaf t o) h = omega (arith, element_long t false o)
  short (Sequence t vs) h = shorts vs (omega (arith, element_long t true (join (der_texts vs))))
  short (SetOf t vs) h =
      shorts vs (omega (arith, element_long t true (join (arrange (der_texts vs))), arranged_length (der_texts vs)))

  shorts : (vs : Values) → length (join (der_texts vs)) < 18446744073709551616 → Shorts vs
  shorts NoMembers h = tt
  shorts (FirstMember v vs) h =
      let e = length-append (der v) (join (der_texts vs)) in (short v (omega arith), shorts vs (omega arith))

-- the contents of a leaf are their own contents

cleared_again : (x m : ℕ) → 0 < m → x / m * m / m * m ≡ x / m * m
cleared_again x m h = ap (λ q. q * m) (mul-div_cancel (x / m) h)

clear_some : (u x : ℕ) (s : List ℕ) → (y : ℕ) × (z : List ℕ) × (clear_unused u (x ∷ s) ≡ y ∷ z)
clear_some u x [] = (x / 2 ^ u * 2 ^ u, [], refl)
clear_some u x (y ∷ s) = (x, clear_unused u (y ∷ s), refl)

clear_more : (u x : ℕ) (s : List ℕ) (y : ℕ) (z : List ℕ) → s ≡ y ∷ z → clear_unused u (x ∷ s) ≡ x ∷ clear_unused u s
clear_more u x [] y z e = absurd cc
clear_more u x (a ∷ s) y z e = refl

clear_clear : (u : ℕ) (o : List ℕ) → clear_unused u (clear_unused u o) ≡ clear_unused u o
clear_clear u [] = refl
clear_clear u (x ∷ []) = ap (λ a. a ∷ []) (cleared_again x (2 ^ u) (pow_pos u))
clear_clear u (x ∷ y ∷ s) =
    let n = clear_some u y s in
    clear_more u x (clear_unused u (y ∷ s)) n.0 n.1 n.2 ∙ ap (λ a. x ∷ a) (clear_clear u (y ∷ s))

clear_none : (u : ℕ) (o : List ℕ) → clear_unused u o ≡ [] → o ≡ []
clear_none u [] e = refl
clear_none u (x ∷ []) e = absurd cc
clear_none u (x ∷ y ∷ s) e = absurd cc

append_none : (a b : List ℕ) → a ++ b ≡ [] → (a ≡ []) × (b ≡ [])
append_none [] b e = (refl, e)
append_none (x ∷ a) b e = absurd cc

unused_small : (s : List (List ℕ)) → AreBitSegments s → (unused_bits s ≤ 7) × ((bit_octets s ≡ []) → unused_bits s ≡ 0)
unused_small [] h = (omega arith, λ e. refl)
unused_small ([] ∷ []) h = absurd h
unused_small ((u ∷ o) ∷ []) h = (h.0, λ e. h.1 (append_none o [] e).0)
unused_small ([] ∷ t ∷ more') h = absurd h.0
unused_small ((u ∷ o) ∷ t ∷ more') h =
    let ih = unused_small (t ∷ more') h.2 in (ih.0, λ e. ih.1 (append_none o (bit_octets (t ∷ more')) e).1)

bits_again : (r : RawTree) (o : List ℕ) (t : Tag) → BitStringContents r o → BitStringContents (Primitive t o) o
unfolding segments Segmented
bits_again r o t h =
    let u = unused_small (segments r) h.each in
    record {
      segmented = tt;
      each = subst IsBitSegment (sym h.is)
          (u.0, λ e. u.1 (clear_none (unused_bits (segments r)) (bit_octets (segments r)) e));
      is =
          h.is
          ∙ sym (ap (λ x. bit_contents (x ∷ [])) h.is
          ∙ ap (λ x. unused_bits (segments r) ∷ x)
          (ap (clear_unused (unused_bits (segments r)))
          (append-nil (clear_unused (unused_bits (segments r)) (bit_octets (segments r))))
          ∙ clear_clear (unused_bits (segments r)) (bit_octets (segments r))));
    }

truth_again : (c : List ℕ) → length c ≡ 1
    → (length (boolean_contents c) ≡ 1) × (boolean_contents (boolean_contents c) ≡ boolean_contents c)
truth_again [] e = absurd (omega arith)
truth_again (x ∷ s) e = elim (x == 0) as
    (λ b. let y : List ℕ = elim b [ true ↦ 0 ∷ [] | false ↦ 255 ∷ [] ] in (length y ≡ 1) × (boolean_contents y ≡ y)) [
      | true ↦ (refl, refl)
      | false ↦ (refl, refl)
    ]

leaf_again : (k : LeafKind) (r : RawTree) (o : List ℕ) (t : Tag) → LeafContents k r o → LeafContents k (Primitive t o) o
unfolding LeafContents segments Segmented
leaf_again Boolean (Primitive u c) o t h =
    let x = truth_again c h.0 in subst (λ y. (length y ≡ 1) × (y ≡ boolean_contents y)) (sym h.1) (x.0, sym x.1)
leaf_again Boolean (Constructed u rs) o t h = absurd h
leaf_again Integer (Primitive u c) o t h = (subst IsInteger (sym h.1) h.0, refl)
leaf_again Integer (Constructed u rs) o t h = absurd h
leaf_again Null (Primitive u c) o t h = (h.1 ∙ h.0, refl)
leaf_again Null (Constructed u rs) o t h = absurd h
leaf_again ObjectIdentifier (Primitive u c) o t h =
    (subst (λ x. (arcs : List ℕ) × ObjectIdentifierOctets arcs x) (sym h.1) h.0, refl)
leaf_again ObjectIdentifier (Constructed u rs) o t h = absurd h
leaf_again BitString r o t h = bits_again r o t h
leaf_again OctetString r o t h = record { segmented = tt; is = sym (append-nil o) }
leaf_again Utf8String r o t h = (record { segmented = tt; is = sym (append-nil o) }, h.1)

-- a tree that fits begins as its type does

tag_begins : (t u : Tag) → u ≡ t → same_tag t u ≡ true
tag_begins t u e = let a = ap (λ x. x.class) e in let b = ap (λ x. x.number) e in grind (arith, nat_tests)

pub begins_fits : (d : ℕ) (T : TypeTerm) (earlier : List Value) (r : RawTree) (v : Value) → Fits d T earlier r v
    → fits_tag T (tree_tag r) ≡ true
unfolding Fits fits_tag
begins_fits d (LeafType t k) earlier r v h = tag_begins t (tree_tag r) h.0
begins_fits d OpenType earlier r v h = refl
begins_fits d (SequenceOfType t n T) earlier r v h = tag_begins t (tree_tag r) (ap tree_tag h.2)
begins_fits d (SetOfType t n T) earlier r v h = tag_begins t (tree_tag r) (ap tree_tag h.2)
begins_fits d (SequenceType t fs) earlier r v h = tag_begins t (tree_tag r) (ap tree_tag h.2)
begins_fits d (ContainingType t q T) earlier r v h = tag_begins t (tree_tag r) h.0
begins_fits d (RuledType p T) earlier r v h = begins_fits d T earlier r v h.1
begins_fits d (RefusedType t w) earlier r v h = absurd h
begins_fits d (DefinedByType p os A B) earlier r v h = ⊎_elim
    (λ a. let x = begins_fits d A earlier r v a.1 in grind (arith, nat_tests))
    (λ a. let x = begins_fits d B earlier r v a.1 in grind (arith, nat_tests))
    h
begins_fits d (ChoiceType A B) earlier r v h = ⊎_elim
    (λ a. let x = a.0 in grind (arith, nat_tests))
    (λ a. let x = begins_fits d B earlier r v a.1 in grind (arith, nat_tests))
    h

starts_fits : (d : ℕ) (fs : Fields) (earlier : List Value) (r : RawTree) (rs : List RawTree) (vs : List Value)
    → FitsFields d fs earlier (r ∷ rs) vs → fields_fit_tag fs (tree_tag r) ≡ true
unfolding Fits fields_fit_tag
starts_fits d EndOfFields earlier r rs vs h = absurd (let x = h.0 in cc)
starts_fits d (Required T fs) earlier r rs vs h =
    let e : h.0 ≡ r = let x = h.4 in cc in
    ap (λ x. fits_tag T (tree_tag x)) (sym e) ∙ begins_fits d T earlier h.0 h.2 h.6
starts_fits d (Optional T fs) earlier r rs vs h = ⊎_elim
    (λ a. let x = starts_fits d fs earlier r rs vs a.1 in grind (arith, nat_tests))
    (λ a. let x : fits_tag T (tree_tag r) ≡ true = a.6 in grind (arith, nat_tests))
    h
starts_fits d (Default ct co T fs) earlier r rs vs h = ⊎_elim
    (λ a. let x = starts_fits d fs earlier r rs vs a.1 in grind (arith, nat_tests))
    (λ a. let x : fits_tag T (tree_tag r) ≡ true = a.4 in grind (arith, nat_tests))
    h

not_due : (d : ℕ) (T : TypeTerm) (fs : Fields) (earlier : List Value) (rs : List RawTree) (vs : List Value)
    → ((u : Tag) → fits_tag T u ≡ true → fields_fit_tag fs u ≡ false) → FitsFields d fs earlier rs vs
    → next_fits T rs ≡ false
not_due d T fs earlier [] vs c h = refl
not_due d T fs earlier (r ∷ rs) vs c h =
    elim (fits_tag T (tree_tag r)) as (λ b. (fits_tag T (tree_tag r) ≡ b) → b ≡ false) [
      | true ↦ λ e. absurd (let x = starts_fits d fs earlier r rs vs h in let y = c (tree_tag r) e in cc)
      | false ↦ λ e. refl
    ] refl

-- a tree of the DER text

pub record Canon (R : RawTree → Value → Type 0) (r : RawTree) (v : Value) : Type 0 where
  pub tree : RawTree
  pub text_is : text tree ≡ der v
  pub fits : R tree v
  pub begins : tree_tag tree ≡ tree_tag r
  pub depth_le : tree_depth tree ≤ tree_depth r
  pub tagged : Tagged r → Tagged tree

pub record Canons (F : List RawTree → List Value → Type 0) (rs : List RawTree) (vs : List Value) : Type 0 where
  pub trees : List RawTree
  pub texts_are : map text trees ≡ map der vs
  pub fits : F trees vs
  pub depth_le : depth_list trees ≤ depth_list rs
  pub tagged : TaggedList rs → TaggedList trees

pub record Pairs (R : RawTree → Value → Type 0) (rs : List RawTree) (vs : List Value) : Type 0 where
  pub trees : List RawTree
  pub texts_are : Paired (λ x y. x ≡ y) (map text trees) (map der vs)
  pub fits : Paired R trees vs
  pub depth_le : depth_list trees ≤ depth_list rs
  pub tagged : TaggedList rs → TaggedList trees

depth_pos : (r : RawTree) → 1 ≤ tree_depth r
depth_pos (Primitive t o) = omega arith
depth_pos (Constructed t rs) = omega arith

top_tagged : (r : RawTree) (t : Tag) (o : List ℕ) → tree_tag r ≡ t → Tagged r → Tagged (Primitive t o)
unfolding Tagged
top_tagged (Primitive u p) t o e h = subst IsTag e h
top_tagged (Constructed u rs) t o e h = subst IsTag e h.0

leaf_text : (t : Tag) (o : List ℕ) → text (Primitive t o) ≡ der (Leaf t o)
unfolding text der
leaf_text t o = refl

row_text : (t : Tag) (ts : List RawTree) (vs : Values) → map text ts ≡ map der (members vs)
    → text (Constructed t (raws_of ts)) ≡ der (Sequence t vs)
unfolding text der
row_text t ts vs e = ap (λ x. der_element t true (join x)) (texts_raws ts ∙ e ∙ sym (ders_map vs))

bag_text : (t : Tag) (ts : List RawTree) (vs : Values) → Paired (λ x y. x ≡ y) (map text ts) (map der (members vs))
    → text (Constructed t (raws_of (arrange_trees ts))) ≡ der (SetOf t vs)
unfolding text der
bag_text t ts vs p =
    let q : Paired (λ x y. x ≡ y) (map text ts) (der_texts vs) =
    subst (λ x. Paired (λ x y. x ≡ y) (map text ts) x) (sym (ders_map vs)) p in
    ap (λ x. der_element t true (join x))
    (texts_raws (arrange_trees ts) ∙ arrange_texts ts
    ∙ plain.arrange_paired (map text ts) (der_texts vs) (plain.ders_texts vs) q)

-- what fits otherwise as well
canon_as : (R S : RawTree → Value → Type 0) (r : RawTree) (v : Value) → (c : Canon R r v) → S c.tree v → Canon S r v
canon_as R S r v c f =
    record { tree = c.tree; text_is = c.text_is; fits = f; begins = c.begins; depth_le = c.depth_le; tagged = c.tagged }

-- a leaf
leaf_canon : (R : RawTree → Value → Type 0) (r : RawTree) (v : Value) (t : Tag) (o : List ℕ) → tree_tag r ≡ t
    → v ≡ Leaf t o → R (Primitive t o) v → Canon R r v
leaf_canon R r v t o e q f =
    record {
      tree = Primitive t o;
      text_is = leaf_text t o ∙ ap der (sym q);
      fits = f;
      begins = sym e;
      depth_le = depth_pos r;
      tagged = top_tagged r t o e;
    }

-- a list
row_canon : (R : RawTree → Value → Type 0) (F : List RawTree → List Value → Type 0) (r : RawTree) (v : Value) (t : Tag)
    (rs : RawTrees) (vs : Values)
    → r ≡ Constructed t rs → v ≡ Sequence t vs → (c : Canons F (member_trees rs) (members vs))
    → R (Constructed t (raws_of c.trees)) v → Canon R r v
unfolding Tagged
row_canon R F r v t rs vs p q c f = record {
  tree = Constructed t (raws_of c.trees);
  text_is = row_text t c.trees vs c.texts_are ∙ ap der (sym q);
  fits = f;
  begins = sym (ap tree_tag p);
  depth_le = omega (arith, ap tree_depth p, depths_raws c.trees, depths_members rs, c.depth_le);
  tagged = λ h. let h' = subst Tagged p h in (h'.0, tagged_raws c.trees (c.tagged (tagged_members rs h'.1)));
}

-- a multiset
bag_canon : (R S : RawTree → Value → Type 0) (r : RawTree) (v : Value) (t : Tag) (rs : RawTrees) (vs : Values)
    → r ≡ Constructed t rs → v ≡ SetOf t vs → (c : Pairs S (member_trees rs) (members vs))
    → R (Constructed t (raws_of (arrange_trees c.trees))) v → Canon R r v
unfolding Tagged
bag_canon R S r v t rs vs p q c f = record {
  tree = Constructed t (raws_of (arrange_trees c.trees));
  text_is = bag_text t c.trees vs c.texts_are ∙ ap der (sym q);
  fits = f;
  begins = sym (ap tree_tag p);
  depth_le = omega (
    arith,
    ap tree_depth p,
    depths_raws (arrange_trees c.trees),
    arrange_depth c.trees,
    depths_members rs,
    c.depth_le,
  );
  tagged = λ h.
      let h' = subst Tagged p h in
      (h'.0, tagged_raws (arrange_trees c.trees) (arrange_tagged c.trees (c.tagged (tagged_members rs h'.1))));
}

each_canon : (R : RawTree → Value → Type 0) → ((r : RawTree) (v : Value) → Short v → R r v → Canon R r v)
    → (rs : List RawTree) (vs : List Value) → Every Short vs → Each R rs vs → Canons (Each R) rs vs
each_canon R f [] [] h k = record { trees = []; texts_are = refl; fits = tt; depth_le = omega arith; tagged = λ x. tt }
each_canon R f [] (v ∷ vs) h k = absurd k
each_canon R f (r ∷ rs) [] h k = absurd k
each_canon R f (r ∷ rs) (v ∷ vs) h k =
    let a = f r v h.0 k.0 in let b = each_canon R f rs vs h.1 k.1 in
    record {
      trees = a.tree ∷ b.trees;
      texts_are = ap₂ (λ x y. x ∷ y) a.text_is b.texts_are;
      fits = (a.fits, b.fits);
      depth_le = omega (arith, a.depth_le, b.depth_le);
      tagged = λ x. (a.tagged x.0, b.tagged x.1);
    }

paired_canon : (R : RawTree → Value → Type 0) → ((r : RawTree) (v : Value) → Short v → R r v → Canon R r v)
    → (rs : List RawTree) (vs : List Value) → Every Short vs → Paired R rs vs → Pairs R rs vs
paired_canon R f [] vs h k =
    record { trees = []; texts_are = ap (map der) k; fits = k; depth_le = omega arith; tagged = λ x. tt }
paired_canon R f (r ∷ rs) vs h k =
    let s = pick_every Short k.0 vs k.1 h k.2 in
    let a = f r k.0 s.0 k.3 in let b = paired_canon R f rs k.1 s.1 k.4 in
    record {
      trees = a.tree ∷ b.trees;
      texts_are = (der k.0, map der k.1, plain.pick_map der k.0 vs k.1 k.2, a.text_is, b.texts_are);
      fits = (k.0, k.1, k.2, a.fits, b.fits);
      depth_le = omega (arith, a.depth_le, b.depth_le);
      tagged = λ x. (a.tagged x.0, b.tagged x.1);
    }

-- a field and those after it
taken_canon : (P : RawTree → Value → Type 0) (F G : List RawTree → List Value → Type 0) (r : RawTree) (v : Value)
    (rs' : List RawTree) (vs' : List Value) (rs : List RawTree) (vs : List Value)
    → rs ≡ r ∷ rs' → vs ≡ v ∷ vs' → (a : Canon P r v) (b : Canons F rs' vs') → G (a.tree ∷ b.trees) vs → Canons G rs vs
taken_canon P F G r v rs' vs' rs vs p q a b g = record {
  trees = a.tree ∷ b.trees;
  texts_are = ap₂ (λ x y. x ∷ y) a.text_is b.texts_are ∙ ap (map der) (sym q);
  fits = g;
  depth_le = omega (arith, a.depth_le, b.depth_le, ap depth_list p);
  tagged = λ x. let x' = subst TaggedList p x in (a.tagged x'.0, b.tagged x'.1);
}

pub octets_prim : (t : Tag) (o : List ℕ) → LeafContents OctetString (Primitive t o) o
unfolding LeafContents segments Segmented
octets_prim t o = record { segmented = tt; is = sym (append-nil o) }

-- open values

pub open_sequence_is : (rs : RawTrees) (vs : List Value) → Each FitsOpen (member_trees rs) vs → FitOpenInPlace rs vs
unfolding FitsOpen
open_sequence_is NoTrees [] h = refl
open_sequence_is NoTrees (v ∷ vs) h = absurd h
open_sequence_is (FirstTree r rs) [] h = absurd h
open_sequence_is (FirstTree r rs) (v ∷ vs) h = (v, vs, refl, h.0, open_sequence_is rs vs h.1)

pub open_set_is : (rs : RawTrees) (vs : List Value) → Paired FitsOpen (member_trees rs) vs → FitOpenPaired rs vs
unfolding FitsOpen
open_set_is NoTrees vs h = h
open_set_is (FirstTree r rs) vs h = (h.0, h.1, h.2, h.3, open_set_is rs h.1 h.4)

open_leaf : (t : Tag) (o : List ℕ) (v : Value) → IsOpenLeaf t (Primitive t o) v → FitsOpen (Primitive t o) v
unfolding FitsOpen
open_leaf t o v h = inl h

open_leaf_canon : (t : Tag) (r : RawTree) (v : Value) → tree_tag r ≡ t → IsOpenLeaf t r v → Canon FitsOpen r v
open_leaf_canon t r v e h =
    leaf_canon FitsOpen r v t h.octets e h.is
    (open_leaf t h.octets v
    (record {
      kind = h.kind;
      octets = h.octets;
      taken = h.taken;
      contents = leaf_again h.kind r h.octets t h.contents;
      is = h.is;
    }))

mutual
  unfolding FitsOpen Short

  pub open_canon : (r : RawTree) (v : Value) → Short v → FitsOpen r v → Canon FitsOpen r v
  open_canon (Primitive t o) v s h = ⊎_elim
      (λ a. open_leaf_canon t (Primitive t o) v refl a)
      (λ a. leaf_canon FitsOpen (Primitive t o) v t o refl a.1 (inr a))
      h
  open_canon (Constructed t rs) v s h = ⊎_elim
      (λ a. open_leaf_canon t (Constructed t rs) v refl a)
      (λ b. ⊎_elim
      (λ a.
      let c = open_row_canon rs (members a.0) (every_short a.0 (subst Short a.2 s)) a.3 in
      row_canon FitsOpen (Each FitsOpen) (Constructed t rs) v t rs a.0 refl a.2 c
      (inr (inl (
        a.0,
        a.1,
        a.2,
        open_sequence_is (raws_of c.trees) (members a.0)
            (subst (λ x. Each FitsOpen x (members a.0)) (sym (members_raws c.trees)) c.fits),
      ))))
      (λ a.
      let c = open_bag_canon rs (members a.0) (every_short a.0 (subst Short a.2 s)) a.3 in
      bag_canon FitsOpen FitsOpen (Constructed t rs) v t rs a.0 refl a.2 c
      (inr (inr (
        a.0,
        a.1,
        a.2,
        open_set_is (raws_of (arrange_trees c.trees)) (members a.0)
            (subst (λ x. Paired FitsOpen x (members a.0)) (sym (members_raws (arrange_trees c.trees)))
            (arrange_paired FitsOpen c.trees (members a.0) c.fits)),
      ))))
      b)
      h

  open_row_canon : (rs : RawTrees) (vs : List Value) → Every Short vs → FitOpenInPlace rs vs
      → Canons (Each FitsOpen) (member_trees rs) vs
  open_row_canon NoTrees vs s h = record {
    trees = [];
    texts_are = ap (map der) (sym h);
    fits = subst (λ x. Each FitsOpen [] x) (sym h) tt;
    depth_le = omega arith;
    tagged = λ x. tt;
  }
  open_row_canon (FirstTree r rs) vs s h =
      let s' = subst (λ x. Every Short x) h.2 s in
      let a = open_canon r h.0 s'.0 h.3 in let b = open_row_canon rs h.1 s'.1 h.4 in
      record {
        trees = a.tree ∷ b.trees;
        texts_are = ap₂ (λ x y. x ∷ y) a.text_is b.texts_are ∙ ap (map der) (sym h.2);
        fits = subst (λ x. Each FitsOpen (a.tree ∷ b.trees) x) (sym h.2) (a.fits, b.fits);
        depth_le = omega (arith, a.depth_le, b.depth_le);
        tagged = λ x. (a.tagged x.0, b.tagged x.1);
      }

  open_bag_canon : (rs : RawTrees) (vs : List Value) → Every Short vs → FitOpenPaired rs vs
      → Pairs FitsOpen (member_trees rs) vs
  open_bag_canon NoTrees vs s h =
      record { trees = []; texts_are = ap (map der) h; fits = h; depth_le = omega arith; tagged = λ x. tt }
  open_bag_canon (FirstTree r rs) vs s h =
      let s' = pick_every Short h.0 vs h.1 s h.2 in
      let a = open_canon r h.0 s'.0 h.3 in let b = open_bag_canon rs h.1 s'.1 h.4 in
      record {
        trees = a.tree ∷ b.trees;
        texts_are = (der h.0, map der h.1, plain.pick_map der h.0 vs h.1 h.2, a.text_is, b.texts_are);
        fits = (h.0, h.1, h.2, a.fits, b.fits);
        depth_le = omega (arith, a.depth_le, b.depth_le);
        tagged = λ x. (a.tagged x.0, b.tagged x.1);
      }

-- typed values

mutual
  unfolding Fits Distinct Short

  pub refit : (d : ℕ) (T : TypeTerm) (earlier : List Value) (r : RawTree) (v : Value) → Distinct T → Short v
      → Fits d T earlier r v → Canon (Fits d T earlier) r v
  refit d (LeafType t k) earlier r v c s h =
      leaf_canon (Fits d (LeafType t k) earlier) r v t h.1 h.0 h.3 (refl, h.1, leaf_again k r h.1 t h.2, h.3)
  refit d OpenType earlier r v c s h =
      let x = open_canon r v s h in canon_as FitsOpen (Fits d OpenType earlier) r v x x.fits
  refit d (SequenceOfType t n T) earlier r v c s h =
      let x = each_canon (Fits d T []) (λ a b s' k. refit d T [] a b c s' k) (member_trees h.0) (members h.1)
      (every_short h.1 (subst Short h.3 s)) h.5 in
      row_canon (Fits d (SequenceOfType t n T) earlier) (Each (Fits d T [])) r v t h.0 h.1 h.2 h.3 x (
        raws_of x.trees,
        h.1,
        refl,
        h.3,
        h.4,
        subst (λ y. Each (Fits d T []) y (members h.1)) (sym (members_raws x.trees)) x.fits,
      )
  refit d (SetOfType t n T) earlier r v c s h =
      let x = paired_canon (Fits d T []) (λ a b s' k. refit d T [] a b c s' k) (member_trees h.0) (members h.1)
      (every_short h.1 (subst Short h.3 s)) h.5 in
      bag_canon (Fits d (SetOfType t n T) earlier) (Fits d T []) r v t h.0 h.1 h.2 h.3 x (
        raws_of (arrange_trees x.trees),
        h.1,
        refl,
        h.3,
        h.4,
        subst (λ y. Paired (Fits d T []) y (members h.1)) (sym (members_raws (arrange_trees x.trees)))
            (arrange_paired (Fits d T []) x.trees (members h.1) x.fits),
      )
  refit d (SequenceType t fs) earlier r v c s h =
      let x = fields_refit d fs [] (member_trees h.0) (members h.1) c (every_short h.1 (subst Short h.3 s)) h.4 in
      row_canon (Fits d (SequenceType t fs) earlier) (FitsFields d fs []) r v t h.0 h.1 h.2 h.3 x (
        raws_of x.trees,
        h.1,
        refl,
        h.3,
        subst (λ y. FitsFields d fs [] y (members h.1)) (sym (members_raws x.trees)) x.fits,
      )
  refit d (ContainingType t q T) earlier r v c s h =
      let l : length (der h.4) < 18446744073709551616 = subst Short h.8 s in
      let x = refit d T earlier h.3 h.4 c (short h.4 l) h.7 in
      let y = lay_text x.tree (x.tagged (lay_tagged h.3 h.1 h.6))
      (subst (λ z. length z < 18446744073709551616) (sym x.text_is) l) in
      leaf_canon (Fits d (ContainingType t q T) earlier) r v t (der h.4) h.0 h.8 (
        refl,
        der h.4,
        leaf_again OctetString (Primitive t (der h.4)) (der h.4) t (octets_prim t (der h.4)),
        x.tree,
        h.4,
        omega (arith, x.depth_le, h.5),
        subst (LaidOut x.tree) x.text_is y,
        x.fits,
        h.8,
        h.9,
      )
  refit d (RuledType p T) earlier r v c s h =
      let x = refit d T earlier r v c s h.1 in
      canon_as (Fits d T earlier) (Fits d (RuledType p T) earlier) r v x (h.0, x.fits)
  refit d (RefusedType t w) earlier r v c s h = absurd h
  refit d (DefinedByType p os A B) earlier r v c s h = ⊎_elim
      (λ a.
      let x = refit d A earlier r v c.0 s a.1 in
      canon_as (Fits d A earlier) (Fits d (DefinedByType p os A B) earlier) r v x (inl (a.0, x.fits)))
      (λ a.
      let x = refit d B earlier r v c.1 s a.1 in
      canon_as (Fits d B earlier) (Fits d (DefinedByType p os A B) earlier) r v x (inr (a.0, x.fits)))
      h
  refit d (ChoiceType A B) earlier r v c s h = ⊎_elim
      (λ a.
      let x = refit d A earlier r v c.0 s a.1 in
      canon_as (Fits d A earlier) (Fits d (ChoiceType A B) earlier) r v x
      (inl (ap (fits_tag A) x.begins ∙ a.0, x.fits)))
      (λ a.
      let x = refit d B earlier r v c.1 s a.1 in
      canon_as (Fits d B earlier) (Fits d (ChoiceType A B) earlier) r v x
      (inr (ap (fits_tag A) x.begins ∙ a.0, x.fits)))
      h

  pub fields_refit : (d : ℕ) (fs : Fields) (earlier : List Value) (rs : List RawTree) (vs : List Value)
      → DistinctFields fs → Every Short vs → FitsFields d fs earlier rs vs → Canons (FitsFields d fs earlier) rs vs
  fields_refit d EndOfFields earlier rs vs c s h =
      record {
        trees = [];
        texts_are = ap (map der) (sym h.1);
        fits = (refl, h.1);
        depth_le = omega arith;
        tagged = λ x. tt;
      }
  fields_refit d (Required T fs) earlier rs vs c s h =
      let s' = subst (λ x. Every Short x) h.5 s in
      let a = refit d T earlier h.0 h.2 c.0 s'.0 h.6 in
      let b = fields_refit d fs (earlier ++ (h.2 ∷ [])) h.1 h.3 c.1 s'.1 h.7 in
      taken_canon (Fits d T earlier) (FitsFields d fs (earlier ++ (h.2 ∷ [])))
      (FitsFields d (Required T fs) earlier) h.0 h.2 h.1 h.3 rs vs h.4 h.5 a b
      (a.tree, b.trees, h.2, h.3, refl, h.5, a.fits, b.fits)
  fields_refit d (Optional T fs) earlier rs vs c s h = ⊎_elim
      (λ a. let x = fields_refit d fs earlier rs vs c.1 s a.1 in
      record {
        trees = x.trees;
        texts_are = x.texts_are;
        fits = inl (not_due d T fs earlier x.trees vs c.2 x.fits, x.fits);
        depth_le = x.depth_le;
        tagged = x.tagged;
      })
      (λ h.
      let s' = subst (λ x. Every Short x) h.5 s in
      let a = refit d T earlier h.0 h.2 c.0 s'.0 h.7 in
      let b = fields_refit d fs (earlier ++ (h.2 ∷ [])) h.1 h.3 c.1 s'.1 h.8 in
      taken_canon (Fits d T earlier) (FitsFields d fs (earlier ++ (h.2 ∷ [])))
      (FitsFields d (Optional T fs) earlier) h.0 h.2 h.1 h.3 rs vs h.4 h.5 a b
      (inr (a.tree, b.trees, h.2, h.3, refl, h.5, begins_fits d T earlier a.tree h.2 a.fits, a.fits, b.fits)))
      h
  fields_refit d (Default wt wo T fs) earlier rs vs c s h = ⊎_elim
      (λ a. let x = fields_refit d fs earlier rs vs c.1 s a.1 in
      record {
        trees = x.trees;
        texts_are = x.texts_are;
        fits = inl (not_due d T fs earlier x.trees vs c.2 x.fits, x.fits);
        depth_le = x.depth_le;
        tagged = x.tagged;
      })
      (λ h. ⊎_elim
      (λ k.
      let x = fields_refit d fs earlier h.1 vs c.1 s k.1 in
      record {
        trees = x.trees;
        texts_are = x.texts_are;
        fits = inl (not_due d T fs earlier x.trees vs c.2 x.fits, x.fits);
        depth_le = omega (arith, x.depth_le, ap depth_list h.3);
        tagged = λ y. let z : TaggedList (h.0 ∷ h.1) = subst TaggedList h.3 y in x.tagged z.1;
      })
      (λ k.
      let s' = subst (λ x. Every Short x) k.1 s in
      let a = refit d T earlier h.0 h.2 c.0 s'.0 h.5 in
      let b = fields_refit d fs (earlier ++ (h.2 ∷ [])) h.1 k.0 c.1 s'.1 k.3 in
      taken_canon (Fits d T earlier) (FitsFields d fs (earlier ++ (h.2 ∷ [])))
      (FitsFields d (Default wt wo T fs) earlier) h.0 h.2 h.1 k.0 rs vs h.3 k.1 a b
      (inr
      (a.tree, b.trees, h.2, refl, begins_fits d T earlier a.tree h.2 a.fits, a.fits, inr (k.0, k.1, k.2, b.fits))))
      h.6)
      h

pub text_spells : TextSpells
text_spells limits T v b c l h =
    let short_text : length (der v) < 18446744073709551616 = omega (arith, h.text_fits) in
    let x = refit limits.depth T [] h.tree v c (short v short_text) h.fits in
    record {
      tree = x.tree;
      depth_fits = omega (arith, x.depth_le, h.depth_fits);
      laid_out =
          subst (LaidOut x.tree) x.text_is
          (lay_text x.tree (x.tagged (lay_tagged h.tree b h.laid_out))
          (subst (λ z. length z < 18446744073709551616) (sym x.text_is) short_text));
      fits = x.fits;
      octets_fit = h.text_fits;
      text_fits = h.text_fits;
    }

pub one_text_of_trees : OneTextOfTrees
one_text_of_trees depth depth' T r q v w c lt h k e =
    let d = depth + depth' in
    let x = refit d T [] r v c (short v lt) (fits_deeper depth d T [] r v (omega arith) h) in
    let y = refit d T [] q w c (short w (subst (λ z. length z < 18446744073709551616) e lt))
    (fits_deeper depth' d T [] q w (omega arith) k) in
    let same_trees = (text_alone x.tree y.tree [] [] (ap (λ z. z ++ []) (x.text_is ∙ e ∙ sym y.text_is))).0 in
    fits_same d T [] [] y.tree v w tt (subst (λ z. Fits d T [] z v) same_trees x.fits) y.fits

pub one_text : OneText
one_text limits limits' T v w b c cl lt h k e =
    let short_text : length (der v) < 18446744073709551616 = omega (arith, h.text_fits, lt) in
    one_text_of_trees limits.depth limits'.depth T h.tree k.tree v w cl short_text h.fits k.fits e
