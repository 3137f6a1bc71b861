-- What is taken lays out a tree that fits, within the container and the limits.
use Rattle.std.proofs.Common.{◌≡◌, ℕ, zero, suc, ◌+◌, ◌<◌, ◌≤◌, ◌⊎◌, inl, inr, ⊎_elim, ◌==◌, Bool, true, false, List, [], ◌∷◌, ◌++◌, length, Option, Some, None, refl, sym, ◌∙◌, ap, subst, append_assoc, append-nil, arith}
use Rattle.std.proofs.lemmas.Bool.Decides.{nat_tests}
use Rattle.std.proofs.lemmas.List.{length-append}
use Rattle.std.proofs.lemmas.Str.{IsUtf8-from_is_utf8}
use Rattle.x690.proofs.Runs.{took_bind, took_require, took_where, took_done, took_fail}
use Rattle.x690_laws.proofs.ReadingHeadersSound.{both_true, Within, NextElement, NextEnds, NextIs, next_took, Length, ExtentIs, length_took, PrimitiveTaken, primitive_took}
use Rattle.x690_laws.proofs.ReadingLeavesSound.{either_true, segment_fits, contents_fit}
use Rattle.tlv_core.specs.Identifier.{IsTag, Tag, identifier}
use Rattle.tlv_core.specs.Length.{SpellsLength}
use Rattle.tlv_core.specs.Limits.{Limits}
use Rattle.tlv_core.specs.declared.reason.Reason.TheVariants.{BadBits, BadText, WrongForm}
use Rattle.x690.specs.Contents.{AllSegmented, AreBitSegments, BitString, Boolean, Integer, IsBitSegment, LeafContents, LeafKind, Null, ObjectIdentifier, OctetString, Segmented, Utf8String, all_segments, bit_contents, segments, unused_bits}
use Rattle.x690.specs.Layouts.{AllLaidOut, Constructed, FirstTree, LaidOut, NoTrees, Primitive, RawTree, RawTrees, same_tag, tree_depth, tree_tag, trees_depth, universal}
use Rattle.x690.specs.Lists.{join}
use Rattle.x690.specs.Points.{Enclosing, EndsAt, EndsWithZeros, fault}
use Rattle.x690.specs.ReadContents.{der_contents, is_joined_contents, is_next_segment, joined_contents, read_leaf, read_segment, segment_tag}
use Rattle.x690.specs.ReadHeaders.{ContainerEnds, DefiniteLength, ElementStands, Ended, IndefiniteLength, LengthForm, Next, each_member, entered, in_container, primitive_contents}
use Rattle.x690.specs.Reading.{Done, Fail, Reading, Took, require, run, ◌>>=◌}
use Rattle.x690.specs.Values.{Leaf, Value}

-- An element after its identifier: its tree, the octets after the identifier, and a fact about the tree.
pub record Laid (l : Limits) (c : Enclosing) (k : ℕ) (s : List ℕ) (t : Tag) (form : Bool) (P : RawTree → Type 0) (q : ℕ)
    (r : List ℕ) : Type 0 where
  pub tree : RawTree
  pub octets : List ℕ
  pub is : s ≡ octets ++ r
  pub place : q ≡ k + length octets
  pub laid_out : LaidOut tree (identifier t form ++ octets)
  pub tagged : tree_tag tree ≡ t
  pub deep : c.open_containers + tree_depth tree ≤ l.depth
  pub within : Within l c.nearest_end q
  pub fact : P tree

-- The members of a container and its end.
pub record Held (l : Limits) (c : Enclosing) (k : ℕ) (s : List ℕ) (P : RawTrees → Type 0) (q : ℕ)
    (r : List ℕ) : Type 0 where
  pub trees : RawTrees
  pub octets : List ℕ
  pub tail : List ℕ
  pub is : s ≡ octets ++ (tail ++ r)
  pub lays : AllLaidOut trees octets
  pub deep : c.open_containers + trees_depth trees ≤ l.depth
  pub fact : P trees
  pub ending : ((c.innermost ≡ EndsAt (k + length octets)) × (tail ≡ []) × (q ≡ k + length octets))
      ⊎ ((c.innermost ≡ EndsWithZeros) × (tail ≡ 0 ∷ 0 ∷ []) × (q ≡ k + length octets + 2) × Within l c.nearest_end q)

pub prim_laid : (l : Limits) (c : Enclosing) (k : ℕ) (s : List ℕ) (t : Tag) (P : RawTree → Type 0) (o : List ℕ) (q : ℕ)
    (r : List ℕ)
    → IsTag t → c.open_containers < l.depth → PrimitiveTaken l c k s o q r → P (Primitive t o)
    → Laid l c k s t false P q r
unfolding LaidOut
prim_laid l c k s t P o q r g d h f =
    let z = length-append h.length_octets o in
    let z' : q ≡ k + length h.length_octets + length o = h.place in
    record {
      tree = Primitive t o;
      octets = h.length_octets ++ o;
      is = h.is ∙ sym (append_assoc h.length_octets o r);
      place = omega arith;
      laid_out = (g, record { length_octets = h.length_octets; spells = h.spells; is = refl });
      tagged = refl;
      deep = omega arith;
      within = h.within;
      fact = f;
    }

pub fact_along : (l : Limits) (c : Enclosing) (k : ℕ) (s : List ℕ) (t : Tag) (form : Bool) (P Q : RawTree → Type 0)
    (q : ℕ) (r : List ℕ)
    → ((x : RawTree) → tree_tag x ≡ t → P x → Q x) → Laid l c k s t form P q r → Laid l c k s t form Q q r
fact_along l c k s t form P Q q r f h =
    record {
      tree = h.tree;
      octets = h.octets;
      is = h.is;
      place = h.place;
      laid_out = h.laid_out;
      tagged = h.tagged;
      deep = h.deep;
      within = h.within;
      fact = f h.tree h.tagged h.fact;
    }

pub held_none : (l : Limits) (c : Enclosing) (k : ℕ) (s : List ℕ) (p : ℕ) (P : RawTrees → Type 0) (q : ℕ) (r : List ℕ)
    → c.open_containers ≤ l.depth → NextEnds l c k s p q r → P NoTrees → Held l c k s P q r
unfolding LaidOut
held_none l c k s p P q r d h f = ⊎_elim
    (λ a. let z : k + 0 ≡ k = omega arith in let z' : q ≡ k = a.2 in
    record {
      trees = NoTrees;
      octets = [];
      tail = [];
      is = a.1;
      lays = refl;
      deep = omega arith;
      fact = f;
      ending = inl (a.0 ∙ ap EndsAt (sym z), refl, omega arith);
    })
    (λ a. let z' : q ≡ k + 2 = a.2 in
    record {
      trees = NoTrees;
      octets = [];
      tail = 0 ∷ 0 ∷ [];
      is = a.1;
      lays = refl;
      deep = omega arith;
      fact = f;
      ending = inr (a.0, refl, omega arith, a.3);
    })
    h.ends

pub held_more : (l : Limits) (c : Enclosing) (k : ℕ) (s : List ℕ) (p : ℕ) (t : Tag) (form : Bool) (P : RawTree → Type 0)
    (R Q : RawTrees → Type 0) (q : ℕ) (r : List ℕ) (j i : ℕ) (u v : List ℕ)
    → NextElement l c k s p t form j u → Laid l c j u t form P i v → Held l c i v R q r
    → ((x : RawTree) (xs : RawTrees) → tree_tag x ≡ t → P x → R xs → Q (FirstTree x xs)) → Held l c k s Q q r
unfolding LaidOut
held_more l c k s p t form P R Q q r j i u v n h m f =
    let a = identifier t form in
    let z = length-append a h.octets in
    let z1 = length-append (a ++ h.octets) m.octets in
    let n1 : j ≡ k + length a = n.place in
    let h1 : i ≡ j + length h.octets = h.place in
    let all : i + length m.octets ≡ k + length ((a ++ h.octets) ++ m.octets) = omega arith in
    record {
      trees = FirstTree h.tree m.trees;
      octets = (a ++ h.octets) ++ m.octets;
      tail = m.tail;
      is =
          n.is
          ∙ ap (λ w. a ++ w) (h.is ∙ ap (λ w. h.octets ++ w) m.is)
          ∙ sym (append_assoc a h.octets (m.octets ++ (m.tail ++ r)))
          ∙ sym (append_assoc (a ++ h.octets) m.octets (m.tail ++ r));
      lays = (a ++ h.octets, m.octets, h.laid_out, m.lays, refl);
      deep = let x = h.deep in let y = m.deep in omega arith;
      fact = f h.tree m.trees h.tagged h.fact m.fact;
      ending = ⊎_elim
          (λ e. let e2 : q ≡ i + length m.octets = e.2 in inl (e.0 ∙ ap EndsAt all, e.1, omega arith))
          (λ e. let e2 : q ≡ i + length m.octets + 2 = e.2 in inr (e.0, e.1, omega arith, e.3))
          m.ending;
    }

-- what a body reads in a container
abbrev pub BodySound : {A : Type 0} → Limits → (Enclosing → Reading A) → A → (RawTrees → Type 0) → Type 0
BodySound l body a P =
    (c' : Enclosing) (k' : ℕ) (s' : List ℕ) (q' : ℕ) (r' : List ℕ) → c'.open_containers ≤ l.depth
    → run (body c') k' s' ≡ Took a q' r' → Held l c' k' s' P q' r'

abbrev pub Of : Tag → (RawTrees → Type 0) → RawTree → Type 0
Of t P x = (rs : RawTrees) × (x ≡ Constructed t rs) × P rs

pub definite_laid : (l : Limits) (c : Enclosing) (k : ℕ) (s : List ℕ) (t : Tag) (P : RawTrees → Type 0) (m j : ℕ)
    (u : List ℕ) (q : ℕ) (r : List ℕ)
    → IsTag t → Length l c.nearest_end k s m j u → Held l (entered c j (DefiniteLength m)) j u P q r
    → Laid l c k s t true (Of t P) q r
unfolding LaidOut
definite_laid l c k s t P m j u q r g n h = ⊎_elim
    (λ e. let e0 : j + m ≡ j + length h.octets = let w = e.0 in cc in
    let e2 : q ≡ j + length h.octets = e.2 in
    let z = length-append n.octets h.octets in
    let z' : m ≡ length h.octets = omega arith in
    let n1 : j ≡ k + length n.octets = n.place in
    let d : c.open_containers + 1 + trees_depth h.trees ≤ l.depth = h.deep in
    record {
      tree = Constructed t h.trees;
      octets = n.octets ++ h.octets;
      is =
          n.is
          ∙ ap (λ w. n.octets ++ w) (h.is ∙ ap (λ w. h.octets ++ (w ++ r)) e.1)
          ∙ sym (append_assoc n.octets h.octets r);
      place = omega arith;
      laid_out = (
        g,
        (
          h.octets,
          h.lays,
          inl (record {
            length_octets = n.octets;
            spells = subst (λ w. SpellsLength w n.octets) z' n.spells;
            is = refl;
          }),
        ),
      );
      tagged = refl;
      deep = omega arith;
      within = let x : j + m ≡ q = omega arith in subst (λ w. Within l c.nearest_end w) x n.within;
      fact = (h.trees, refl, h.fact);
    })
    (λ e. absurd (let w = e.0 in cc))
    h.ending

pub indefinite_laid : (l : Limits) (c : Enclosing) (k : ℕ) (s : List ℕ) (t : Tag) (P : RawTrees → Type 0) (j : ℕ)
    (u : List ℕ) (q : ℕ) (r : List ℕ)
    → IsTag t → s ≡ 128 ∷ u → j ≡ k + 1 → Held l (entered c j IndefiniteLength) j u P q r
    → Laid l c k s t true (Of t P) q r
unfolding LaidOut
indefinite_laid l c k s t P j u q r g n n1 h = ⊎_elim
    (λ e. absurd (let w = e.0 in cc))
    (λ e. let e2 : q ≡ j + length h.octets + 2 = e.2 in
    let z = length-append h.octets (0 ∷ 0 ∷ []) in
    let d : c.open_containers + 1 + trees_depth h.trees ≤ l.depth = h.deep in
    record {
      tree = Constructed t h.trees;
      octets = 128 ∷ (h.octets ++ (0 ∷ 0 ∷ []));
      is =
          n
          ∙ ap (λ w. 128 ∷ w) (h.is ∙ ap (λ w. h.octets ++ (w ++ r)) e.1 ∙ sym (append_assoc h.octets (0 ∷ 0 ∷ []) r));
      place = omega arith;
      laid_out = (g, (h.octets, h.lays, inr (record { is = refl })));
      tagged = refl;
      deep = omega arith;
      within = e.3;
      fact = (h.trees, refl, h.fact);
    })
    h.ending

pub container_took : {A : Type 0} (l : Limits) (c : Enclosing) (p : ℕ) (t : Tag) (form : Bool)
    (body : Enclosing → Reading A) (P : RawTrees → Type 0) (k : ℕ) (s : List ℕ) (a : A) (q : ℕ) (r : List ℕ)
    → IsTag t → c.open_containers < l.depth → BodySound l body a P → run (in_container l c p form body) k s ≡ Took a q r
    → Laid l c k s t form (Of t P) q r
unfolding in_container
container_took l c p t form body P k s a q r g d f h =
    let x = took_require _ _ _ _ _ _ _ _ h in
    let y = took_bind _ _ _ _ _ _ _ x.1 in
    let e = length_took l c.nearest_end p k s y.value y.place y.rest y.first in
    let b = took_where _ _ _ _ _ _ y.next_tag in
    subst (λ w. Laid l c k s t w (Of t P) q r) (sym x.0) (go y.value y.place y.rest e b)
  where
    go : (x : LengthForm) (j : ℕ) (u : List ℕ) → ExtentIs l c.nearest_end k s x j u
        → run (body (entered c j x)) j u ≡ Took a q r → Laid l c k s t true (Of t P) q r
    go (DefiniteLength m) j u e b =
        definite_laid l c k s t P m j u q r g e (f (entered c j (DefiniteLength m)) j u q r (omega arith) b)
    go IndefiniteLength j u e b =
        indefinite_laid l c k s t P j u q r g e.0 e.1 (f (entered c j IndefiniteLength) j u q r (omega arith) b)

-- members one after another

abbrev pub Steps : {S : Type 0} → (S → RawTree → S → Type 0) → S → RawTrees → S → Type 0
Steps R s NoTrees s' = s ≡ s'
Steps {S} R s (FirstTree r rs) s' = (m : S) × R s r m × Steps R m rs s'

abbrev pub OneSound : {S : Type 0} → Limits → Enclosing → (S → ℕ → Tag → Bool → Reading S) → (S → RawTree → S → Type 0)
    → Type 0
OneSound {S} l c one R =
    (s0 s1 : S) (p : ℕ) (t : Tag) (form : Bool) (k : ℕ) (s : List ℕ) (q : ℕ) (r : List ℕ) → IsTag t
    → c.open_containers < l.depth → run (one s0 p t form) k s ≡ Took s1 q r → Laid l c k s t form (λ x. R s0 x s1) q r

pub each_took : {S : Type 0} (one : S → ℕ → Tag → Bool → Reading S) (R : S → RawTree → S → Type 0) (fuel : ℕ)
    (l : Limits) (c : Enclosing) (s0 : S) (k : ℕ) (s : List ℕ) (e : Ended S) (q : ℕ) (r : List ℕ)
    → c.open_containers ≤ l.depth → OneSound l c one R → run (each_member one fuel l c s0) k s ≡ Took e q r
    → Held l c k s (λ rs. Steps R s0 rs e.all) q r
unfolding each_member
each_took one R zero l c s0 k s e q r d f h = absurd (took_fail _ _ _ _ _ _ h)
each_took {S} one R (suc fuel) l c s0 k s e q r d f h =
    let x = took_bind _ _ _ _ _ _ _ h in
    go x.value x.place x.rest (next_took l c k s x.value x.place x.rest x.first) x.next_tag
    (λ s1 j u w. each_took one R fuel l c s1 j u e q r d f w)
  where
    go : (x : Next) (j : ℕ) (u : List ℕ) → NextIs l c k s x j u
        → run (elim x [
          | ContainerEnds p ↦ Done (record { all = s0; at = p })
          | ElementStands p t form ↦ one s0 p t form >>= λ s'. each_member one fuel l c s'
        ]) j u
        ≡ Took e q r
        → ((s1 : S) (j : ℕ) (u : List ℕ) → run (each_member one fuel l c s1) j u ≡ Took e q r
        → Held l c j u (λ rs. Steps R s1 rs e.all) q r)
        → Held l c k s (λ rs. Steps R s0 rs e.all) q r
    go (ContainerEnds p) j u n b ih =
        let y = took_done _ _ _ _ _ _ b in
        held_none l c k s p (λ rs. Steps R s0 rs e.all) q r d
        (subst (λ w. NextEnds l c k s p q w) y.2 (subst (λ w. NextEnds l c k s p w u) y.1 n)) (ap (λ w. w.all) y.0)
    go (ElementStands p t form) j u n b ih =
        let y = took_bind _ _ _ _ _ _ _ b in
        held_more l c k s p t form (λ x. R s0 x y.value) (λ rs. Steps R y.value rs e.all)
        (λ rs. Steps R s0 rs e.all) q r j y.place u y.rest n
        (f s0 y.value p t form j u y.place y.rest n.tag n.deep y.first) (ih y.value y.place y.rest y.next_tag)
        (λ x xs z a b. (y.value, a, b))

-- segments

pub tag_path : (t u : Tag) → t.class ≡ u.class → t.number ≡ u.number → t ≡ u
tag_path t u p q = λ i. record { class = p i; number = q i }

pub same_tag_is : (t u : Tag) → same_tag t u ≡ true → t ≡ u
same_tag_is t u h =
    let a = both_true _ _ h in
    let a0 : (t.class == u.class) ≡ true = a.0 in
    let a1 : (t.number == u.number) ≡ true = a.1 in
    tag_path t u (grind (arith, nat_tests)) (grind (arith, nat_tests))

abbrev pub Fine : ℕ → List (List ℕ) → Type 0
Fine n s = n ≡ 3 → AreBitSegments s

pub record Segs (n : ℕ) (s0 : List (List ℕ)) (x : RawTree) (s1 : List (List ℕ)) : Type 0 where
  pub tagged : tree_tag x ≡ universal n
  pub segmented : Segmented n x
  pub is : s1 ≡ s0 ++ segments x
  pub fine : Fine n s0 → Fine n s1

one_segment : (s : List (List ℕ)) (o : List ℕ) → AreBitSegments s → unused_bits s ≡ 0 → IsBitSegment o
    → AreBitSegments (s ++ (o ∷ []))
one_segment [] o h z g = g
one_segment (a ∷ []) o h z g = (h, z, g)
one_segment (a ∷ b ∷ s) o h z g = (h.0, h.1, one_segment (b ∷ s) o h.2 z g)

pub next_fine : (n : ℕ) (s : List (List ℕ)) (o : List ℕ) → is_next_segment n s o ≡ true → Fine n s
    → Fine n (s ++ (o ∷ []))
next_fine n s o h f e =
    let t : (n == 3) ≡ true = grind (arith, nat_tests) in
    let a = both_true _ _ (either_true _ _ h t) in
    let a1 : (unused_bits s == 0) ≡ true = a.1 in
    let z : unused_bits s ≡ 0 = grind (arith, nat_tests) in
    one_segment s o (f e) z (segment_fits o a.0)

pub record AllSegs (n : ℕ) (s0 : List (List ℕ)) (rs : RawTrees) (s1 : List (List ℕ)) : Type 0 where
  pub segmented : AllSegmented n rs
  pub is : s1 ≡ s0 ++ all_segments rs
  pub fine : Fine n s0 → Fine n s1

pub steps_segments : (n : ℕ) (s0 : List (List ℕ)) (rs : RawTrees) (s1 : List (List ℕ)) → Steps (Segs n) s0 rs s1
    → AllSegs n s0 rs s1
unfolding segments Segmented
steps_segments n s0 NoTrees s1 h =
    record { segmented = tt; is = sym h ∙ sym (append-nil s0); fine = λ f. subst (λ w. Fine n w) h f }
steps_segments n s0 (FirstTree r rs) s1 h =
    let i = steps_segments n h.0 rs s1 h.2 in
    record {
      segmented = (h.1.tagged, h.1.segmented, i.segmented);
      is = i.is ∙ ap (λ w. w ++ all_segments rs) h.1.is ∙ append_assoc s0 (segments r) (all_segments rs);
      fine = λ f. i.fine (h.1.fine f);
    }

pub segment_took : (deep : ℕ) (l : Limits) (n : ℕ) (c : Enclosing) → OneSound l c (read_segment deep l n c) (Segs n)
unfolding read_segment segments Segmented
segment_took zero l n c s0 s1 p t form k s q r g d h = absurd (took_fail _ _ _ _ _ _ h)
segment_took (suc deep) l n c s0 s1 p t form k s q r g d h =
    let x = took_require _ _ _ _ _ _ _ _ h in
    go form x.1 (same_tag_is t (universal n) x.0) (λ c'. segment_took deep l n c')
  where
    go : (form : Bool)
        → run (elim form [
          | true ↦
              in_container l c p true (λ c'. each_member (read_segment deep l n c') l.octets l c' s0)
              >>= λ e. Done e.all
          | false ↦
              primitive_contents l c p
              >>= λ o. require (is_next_segment n s0 o) (fault p BadBits) (Done (s0 ++ (o ∷ [])))
        ]) k s ≡ Took s1 q r
        → t ≡ universal n → ((c' : Enclosing) → OneSound l c' (read_segment deep l n c') (Segs n))
        → Laid l c k s t form (λ x. Segs n s0 x s1) q r
    go true h e ih =
        let x = took_bind _ _ _ _ _ _ _ h in
        let y = took_done _ _ _ _ _ _ x.next_tag in
        let z = container_took l c p t true (λ c'. each_member (read_segment deep l n c') l.octets l c' s0)
        (λ rs. Steps (Segs n) s0 rs x.value.all) k s x.value x.place x.rest g d
        (λ c' k' s' q' r' o w.
        each_took (read_segment deep l n c') (Segs n) l.octets l c' s0 k' s' x.value q' r' o (ih c') w) x.first in
        subst (λ w. Laid l c k s t true (λ x. Segs n s0 x s1) q w) y.2
        (subst (λ w. Laid l c k s t true (λ x. Segs n s0 x s1) w x.rest) y.1
        (fact_along l c k s t true (Of t (λ rs. Steps (Segs n) s0 rs x.value.all)) (λ x. Segs n s0 x s1) x.place x.rest
        (λ a b f. let all = steps_segments n s0 f.0 x.value.all f.2 in
        subst (λ w. Segs n s0 w s1) (sym f.1)
        (record {
          tagged = e;
          segmented = all.segmented;
          is = sym y.0 ∙ all.is;
          fine = λ v. subst (λ w. Fine n w) y.0 (all.fine v);
        }))
        z))
    go false h e ih =
        let x = took_bind _ _ _ _ _ _ _ h in
        let v = primitive_took l c p k s x.value x.place x.rest x.first in
        let u = took_require _ _ _ _ _ _ _ _ x.next_tag in
        let y = took_done _ _ _ _ _ _ u.1 in
        subst (λ w. Laid l c k s t false (λ x. Segs n s0 x s1) q w) y.2
        (subst (λ w. Laid l c k s t false (λ x. Segs n s0 x s1) w x.rest) y.1
        (prim_laid l c k s t (λ x. Segs n s0 x s1) x.value x.place x.rest g d v
        (record {
          tagged = e;
          segmented = tt;
          is = sym y.0;
          fine = λ f. subst (λ w. Fine n w) y.0 (next_fine n s0 x.value u.0 f);
        })))

-- leaves

abbrev pub LeafSays : LeafKind → Tag → Value → RawTree → Type 0
LeafSays kind t v x = (o : List ℕ) × LeafContents kind x o × (v ≡ Leaf t o)

-- the segments of a string are a leaf's contents
pub string_fits : (kind : LeafKind) (n : ℕ) (t : Tag) (rs : RawTrees) (all : List (List ℕ)) → segment_tag kind ≡ Some n
    → is_joined_contents kind all ≡ true → Steps (Segs n) [] rs all
    → LeafContents kind (Constructed t rs) (joined_contents kind all)
unfolding LeafContents segments Segmented
string_fits Boolean n t rs all e j h = cc
string_fits Integer n t rs all e j h = cc
string_fits Null n t rs all e j h = cc
string_fits ObjectIdentifier n t rs all e j h = cc
string_fits BitString n t rs all e j h =
    let a = steps_segments n [] rs all h in
    let m : 3 ≡ n = cc in
    record {
      segmented = subst (λ w. AllSegmented w rs) (sym m) a.segmented;
      each = subst AreBitSegments a.is (a.fine (λ z. tt) (sym m));
      is = ap bit_contents a.is;
    }
string_fits OctetString n t rs all e j h =
    let a = steps_segments n [] rs all h in
    let m : 4 ≡ n = cc in
    record { segmented = subst (λ w. AllSegmented w rs) (sym m) a.segmented; is = ap join a.is }
string_fits Utf8String n t rs all e j h =
    let a = steps_segments n [] rs all h in
    let m : 4 ≡ n = cc in (
      record { segmented = subst (λ w. AllSegmented w rs) (sym m) a.segmented; is = ap join a.is },
      IsUtf8-from_is_utf8 (join all) j,
    )

pub leaf_took : (l : Limits) (c : Enclosing) (kind : LeafKind) (p : ℕ) (t : Tag) (form : Bool) (k : ℕ) (s : List ℕ)
    (v : Value) (q : ℕ) (r : List ℕ)
    → IsTag t → c.open_containers < l.depth → run (read_leaf l c kind p t form) k s ≡ Took v q r
    → Laid l c k s t form (LeafSays kind t v) q r
unfolding read_leaf
leaf_took l c kind p t false k s v q r g d h =
    let x = took_bind _ _ _ _ _ _ _ h in
    let m = primitive_took l c p k s x.value x.place x.rest x.first in
    let u = took_require _ _ _ _ _ _ _ _ x.next_tag in
    let y = took_done _ _ _ _ _ _ u.1 in
    subst (λ w. Laid l c k s t false (LeafSays kind t v) q w) y.2
    (subst (λ w. Laid l c k s t false (LeafSays kind t v) w x.rest) y.1
    (prim_laid l c k s t (LeafSays kind t v) x.value x.place x.rest g d m
    (der_contents kind x.value, contents_fit kind t x.value u.0, sym y.0)))
leaf_took l c kind p t true k s v q r g d h = go (segment_tag kind) refl h
  where
    go : (o : Option ℕ) → segment_tag kind ≡ o
        → run (elim o [
          | None ↦ Fail (fault p WrongForm)
          | Some n ↦ in_container l c p true (λ c'. each_member (read_segment l.depth l n c') l.octets l c' [])
              >>= λ e.
              require (is_joined_contents kind e.all) (fault p BadText) (Done (Leaf t (joined_contents kind e.all)))
        ]) k s ≡ Took v q r
        → Laid l c k s t true (LeafSays kind t v) q r
    go None e h = absurd (took_fail _ _ _ _ _ _ h)
    go (Some n) e h =
        let x = took_bind _ _ _ _ _ _ _ h in
        let u = took_require _ _ _ _ _ _ _ _ x.next_tag in
        let y = took_done _ _ _ _ _ _ u.1 in
        let z = container_took l c p t true (λ c'. each_member (read_segment l.depth l n c') l.octets l c' [])
        (λ rs. Steps (Segs n) [] rs x.value.all) k s x.value x.place x.rest g d
        (λ c' k' s' q' r' o w.
        each_took (read_segment l.depth l n c') (Segs n) l.octets l c' [] k' s' x.value q' r' o
        (segment_took l.depth l n c') w) x.first in
        subst (λ w. Laid l c k s t true (LeafSays kind t v) q w) y.2
        (subst (λ w. Laid l c k s t true (LeafSays kind t v) w x.rest) y.1
        (fact_along l c k s t true (Of t (λ rs. Steps (Segs n) [] rs x.value.all)) (LeafSays kind t v) x.place x.rest
        (λ a b f. (
          joined_contents kind x.value.all,
          subst (λ w. LeafContents kind w (joined_contents kind x.value.all)) (sym f.1)
              (string_fits kind n t f.0 x.value.all e u.0 f.2),
          sym y.0,
        ))
        z))
