-- A tree of a type says one value.
use Rattle.std.proofs.Common.{◌≡◌, ℕ, zero, suc, ◌⊎◌, ⊎_elim, List, [], ◌∷◌, ◌++◌, refl, sym, ◌∙◌, ap, subst, append-nil}
use Rattle.x690_laws.proofs.ListsPaired.{paired_add}
use Rattle.x690_laws.proofs.LayoutsApart.{prefix}
use Rattle.x690_laws.proofs.ValuesSame.{same_refl, same_sym, same_trans, paired_bag}
use Rattle.x690_laws.proofs.TextsAsLayouts.{same_der}
use Rattle.tlv_core.specs.Identifier.{Tag}
use Rattle.x690.specs.Contents.{BitString, Boolean, Integer, LeafContents, LeafKind, Null, ObjectIdentifier, OctetString, Utf8String}
use Rattle.x690.specs.Fitting.{Fits, FitsFields}
use Rattle.x690.specs.Layouts.{Constructed, FirstTree, NoTrees, Primitive, RawTree, RawTrees, member_trees}
use Rattle.x690.specs.Lists.{Each, Paired}
use Rattle.x690.specs.OpenValues.{FitOpenInPlace, FitOpenPaired, FitsOpen, IsOpenLeaf, OpenLeaf, OpenPlain, OpenSequence, OpenSetOf, open_form}
use Rattle.x690.specs.TypeTerms.{ChoiceType, ContainingType, Default, DefinedByType, EndOfFields, Fields, LeafType, OpenType, Optional, RefusedType, Required, RuledType, SequenceOfType, SequenceType, SetOfType, TypeTerm}
use Rattle.x690.specs.Values.{FirstMember, Leaf, NoMembers, Same, SameInPlace, Sequence, SetOf, Value, Values, leaf_at, leaf_contents, members, sequence_members}
use Rattle.x690_laws.specs.TypeLaws.{OneValue}

pub leaf_one : (k : LeafKind) (r : RawTree) (o p : List ℕ) → LeafContents k r o → LeafContents k r p → o ≡ p
unfolding LeafContents
leaf_one Boolean (Primitive t c) o p h k = h.1 ∙ sym k.1
leaf_one Boolean (Constructed t rs) o p h k = absurd h
leaf_one Integer (Primitive t c) o p h k = h.1 ∙ sym k.1
leaf_one Integer (Constructed t rs) o p h k = absurd h
leaf_one Null (Primitive t c) o p h k = h.1 ∙ sym k.1
leaf_one Null (Constructed t rs) o p h k = absurd h
leaf_one ObjectIdentifier (Primitive t c) o p h k = h.1 ∙ sym k.1
leaf_one ObjectIdentifier (Constructed t rs) o p h k = absurd h
leaf_one BitString r o p h k = h.is ∙ sym k.is
leaf_one OctetString r o p h k = h.is ∙ sym k.is
leaf_one Utf8String r o p h k = h.0.is ∙ sym k.0.is

pub same_of : (v w : Value) → v ≡ w → Same v w
same_of v w e = subst (λ x. Same v x) e (same_refl v)

-- from a value of each side to what is the same
same_along : (v w v' w' : Value) → v ≡ v' → w ≡ w' → Same v' w' → Same v w
same_along v w v' w' p q h = same_trans v v' w (same_of v v' p) (same_trans v' w' w h (same_of w' w (sym q)))

pub each_row : (vs ws : Values) → Each Same (members vs) (members ws) → SameInPlace vs ws
unfolding Same
each_row NoMembers NoMembers h = tt
each_row NoMembers (FirstMember w ws) h = absurd h
each_row (FirstMember v vs) NoMembers h = absurd h
each_row (FirstMember v vs) (FirstMember w ws) h = (h.0, each_row vs ws h.1)

pub row_each : (vs ws : Values) → SameInPlace vs ws → Each Same (members vs) (members ws)
unfolding Same
row_each NoMembers NoMembers h = tt
row_each NoMembers (FirstMember w ws) h = absurd h
row_each (FirstMember v vs) NoMembers h = absurd h
row_each (FirstMember v vs) (FirstMember w ws) h = (h.0, row_each vs ws h.1)

pub same_sequence : (t : Tag) (vs ws : Values) → Each Same (members vs) (members ws)
    → Same (Sequence t vs) (Sequence t ws)
unfolding Same
same_sequence t vs ws h = (refl, each_row vs ws h)

pub same_set : (t : Tag) (vs ws : Values) → Paired Same (members vs) (members ws) → Same (SetOf t vs) (SetOf t ws)
unfolding Same
same_set t vs ws h = (refl, paired_bag vs (members ws) h)

-- two lists related to one, in place and paired

pub each_same : {A B : Type 0} (R : A → B → Type 0) (S : B → B → Type 0) (f : (a : A) (b c : B) → R a b → R a c → S b c)
    (xs : List A) (bs cs : List B)
    → Each R xs bs → Each R xs cs → Each S bs cs
each_same R S f [] [] [] h k = tt
each_same R S f [] [] (c ∷ cs) h k = absurd k
each_same R S f [] (b ∷ bs) cs h k = absurd h
each_same R S f (x ∷ xs) [] cs h k = absurd h
each_same R S f (x ∷ xs) (b ∷ bs) [] h k = absurd k
each_same R S f (x ∷ xs) (b ∷ bs) (c ∷ cs) h k = (f x b c h.0 k.0, each_same R S f xs bs cs h.1 k.1)

pub paired_same : {A B : Type 0} (R : A → B → Type 0) (S : B → B → Type 0)
    (f : (a : A) (b c : B) → R a b → R a c → S b c) (xs : List A) (bs cs : List B)
    → Paired R xs bs → Paired R xs cs → Paired S bs cs
paired_same R S f [] bs cs h k = subst (λ v. Paired S v cs) (sym h) k
paired_same R S f (x ∷ xs) bs cs h k =
    paired_add S h.0 k.0 bs h.1 cs k.1 h.2 k.2 (f x h.0 k.0 h.3 k.3) (paired_same R S f xs h.1 k.1 h.4 k.4)

each_none : (vs ws : List Value) → vs ≡ [] → ws ≡ [] → Each Same vs ws
each_none vs ws p q = subst (λ x. Each Same x ws) (sym p) (subst (λ x. Each Same [] x) (sym q) tt)

each_cons : (vs vs' ws ws' : List Value) (v w : Value) → vs ≡ v ∷ vs' → ws ≡ w ∷ ws' → Same v w → Each Same vs' ws'
    → Each Same vs ws
each_cons vs vs' ws ws' v w p q h k =
    subst (λ x. Each Same x ws) (sym p) (subst (λ x. Each Same (v ∷ vs') x) (sym q) (h, k))

-- open values

open_leaf_same : (t : Tag) (r : RawTree) (v w : Value) → IsOpenLeaf t r v → IsOpenLeaf t r w → Same v w
open_leaf_same t r v w h k =
    let e : h.kind ≡ k.kind = let p = h.taken in let q = k.taken in cc in
    let o = leaf_one k.kind r h.octets k.octets (subst (λ x. LeafContents x r h.octets) e h.contents) k.contents in
    same_of v w (h.is ∙ ap (Leaf t) o ∙ sym k.is)

clash_plain : (t : Tag) (k : LeafKind) → open_form t ≡ OpenLeaf k → open_form t ≡ OpenPlain → ⊥
clash_plain t k h l = cc

clash_row : (t : Tag) (k : LeafKind) → open_form t ≡ OpenLeaf k
    → (open_form t ≡ OpenSequence) ⊎ (open_form t ≡ OpenPlain) → ⊥
clash_row t k h l = ⊎_elim (λ m. cc) (λ m. cc) l

clash_bag : (t : Tag) (k : LeafKind) → open_form t ≡ OpenLeaf k → open_form t ≡ OpenSetOf → ⊥
clash_bag t k h l = cc

clash_both : (t : Tag) → open_form t ≡ OpenSetOf → (open_form t ≡ OpenSequence) ⊎ (open_form t ≡ OpenPlain) → ⊥
clash_both t h l = ⊎_elim (λ m. cc) (λ m. cc) l

mutual
  unfolding FitsOpen

  pub open_same : (r : RawTree) (v w : Value) → FitsOpen r v → FitsOpen r w → Same v w
  open_same (Primitive t o) v w h k = ⊎_elim
      (λ a. ⊎_elim (λ b. open_leaf_same t (Primitive t o) v w a b) (λ b. absurd (clash_plain t a.kind a.taken b.0)) k)
      (λ a. ⊎_elim (λ b. absurd (clash_plain t b.kind b.taken a.0)) (λ b. same_of v w (a.1 ∙ sym b.1)) k)
      h
  open_same (Constructed t rs) v w h k = ⊎_elim
      (λ a. ⊎_elim
      (λ b. open_leaf_same t (Constructed t rs) v w a b)
      (λ b. ⊎_elim (λ b'. absurd (clash_row t a.kind a.taken b'.1)) (λ b'. absurd (clash_bag t a.kind a.taken b'.1)) b)
      k)
      (λ a. ⊎_elim
      (λ a'. ⊎_elim
      (λ b. absurd (clash_row t b.kind b.taken a'.1))
      (λ b. ⊎_elim
      (λ b'.
      same_along v w (Sequence t a'.0) (Sequence t b'.0) a'.2 b'.2
      (same_sequence t a'.0 b'.0 (open_row_same rs (members a'.0) (members b'.0) a'.3 b'.3)))
      (λ b'. absurd (clash_both t b'.1 a'.1))
      b)
      k)
      (λ a'. ⊎_elim
      (λ b. absurd (clash_bag t b.kind b.taken a'.1))
      (λ b. ⊎_elim
      (λ b'. absurd (clash_both t a'.1 b'.1))
      (λ b'.
      same_along v w (SetOf t a'.0) (SetOf t b'.0) a'.2 b'.2
      (same_set t a'.0 b'.0 (open_bag_same rs (members a'.0) (members b'.0) a'.3 b'.3)))
      b)
      k)
      a)
      h

  pub open_row_same : (rs : RawTrees) (vs ws : List Value) → FitOpenInPlace rs vs → FitOpenInPlace rs ws
      → Each Same vs ws
  open_row_same NoTrees vs ws h k = each_none vs ws h k
  open_row_same (FirstTree r rs) vs ws h k =
      each_cons vs h.1 ws k.1 h.0 k.0 h.2 k.2 (open_same r h.0 k.0 h.3 k.3) (open_row_same rs h.1 k.1 h.4 k.4)

  pub open_bag_same : (rs : RawTrees) (vs ws : List Value) → FitOpenPaired rs vs → FitOpenPaired rs ws
      → Paired Same vs ws
  open_bag_same NoTrees vs ws h k = subst (λ x. Paired Same x ws) (sym h) k
  open_bag_same (FirstTree r rs) vs ws h k =
      paired_add Same h.0 k.0 vs h.1 ws k.1 h.2 k.2 (open_same r h.0 k.0 h.3 k.3) (open_bag_same rs h.1 k.1 h.4 k.4)

-- what a choice reads

pub octets_same : (v w : Value) → Same v w → leaf_contents v ≡ leaf_contents w
unfolding Same
octets_same (Leaf t o) (Leaf u p) h = h.1
octets_same (Leaf t o) (Sequence u ws) h = absurd h
octets_same (Leaf t o) (SetOf u ws) h = absurd h
octets_same (Sequence t vs) (Leaf u p) h = absurd h
octets_same (Sequence t vs) (Sequence u ws) h = refl
octets_same (Sequence t vs) (SetOf u ws) h = absurd h
octets_same (SetOf t vs) (Leaf u p) h = absurd h
octets_same (SetOf t vs) (Sequence u ws) h = absurd h
octets_same (SetOf t vs) (SetOf u ws) h = refl

pub members_same : (v w : Value) → Same v w → Each Same (sequence_members v) (sequence_members w)
unfolding Same
members_same (Leaf t o) (Leaf u p) h = tt
members_same (Leaf t o) (Sequence u ws) h = absurd h
members_same (Leaf t o) (SetOf u ws) h = absurd h
members_same (Sequence t vs) (Leaf u p) h = absurd h
members_same (Sequence t vs) (Sequence u ws) h = row_each vs ws h.1
members_same (Sequence t vs) (SetOf u ws) h = absurd h
members_same (SetOf t vs) (Leaf u p) h = absurd h
members_same (SetOf t vs) (Sequence u ws) h = absurd h
members_same (SetOf t vs) (SetOf u ws) h = tt

pub leaf_at_same : (p : List ℕ) (vs ws : List Value) → Each Same vs ws → leaf_at p vs ≡ leaf_at p ws
unfolding leaf_at
leaf_at_same [] vs ws h = refl
leaf_at_same (i ∷ p) [] [] h = refl
leaf_at_same (i ∷ p) [] (w ∷ ws) h = absurd h
leaf_at_same (i ∷ p) (v ∷ vs) [] h = absurd h
leaf_at_same (zero ∷ []) (v ∷ vs) (w ∷ ws) h = octets_same v w h.0
leaf_at_same (zero ∷ j ∷ p) (v ∷ vs) (w ∷ ws) h =
    leaf_at_same (j ∷ p) (sequence_members v) (sequence_members w) (members_same v w h.0)
leaf_at_same (suc i ∷ p) (v ∷ vs) (w ∷ ws) h = leaf_at_same (i ∷ p) vs ws h.1

pub each_snoc : (vs ws : List Value) (v w : Value) → Each Same vs ws → Same v w
    → Each Same (vs ++ (v ∷ [])) (ws ++ (w ∷ []))
each_snoc [] [] v w h k = (k, tt)
each_snoc [] (b ∷ ws) v w h k = absurd h
each_snoc (a ∷ vs) [] v w h k = absurd h
each_snoc (a ∷ vs) (b ∷ ws) v w h k = (h.0, each_snoc vs ws v w h.1 k)

mutual
  unfolding Fits

  pub fits_same : (d : ℕ) (T : TypeTerm) (earlier earlier' : List Value) (r : RawTree) (v w : Value)
      → Each Same earlier earlier' → Fits d T earlier r v → Fits d T earlier' r w → Same v w
  fits_same d (LeafType t l) earlier earlier' r v w e h k =
      same_of v w (h.3 ∙ ap (Leaf t) (leaf_one l r h.1 k.1 h.2 k.2) ∙ sym k.3)
  fits_same d OpenType earlier earlier' r v w e h k = open_same r v w h k
  fits_same d (SequenceOfType t n T) earlier earlier' r v w e h k =
      let q : k.0 ≡ h.0 = let a = h.2 in let b = k.2 in cc in
      let k' = subst (λ x. Each (Fits d T []) (member_trees x) (members k.1)) q k.5 in
      same_along v w (Sequence t h.1) (Sequence t k.1) h.3 k.3
      (same_sequence t h.1 k.1
      (each_same (Fits d T []) Same (λ a b c x y. fits_same d T [] [] a b c tt x y) (member_trees h.0) (members h.1)
      (members k.1) h.5 k'))
  fits_same d (SetOfType t n T) earlier earlier' r v w e h k =
      let q : k.0 ≡ h.0 = let a = h.2 in let b = k.2 in cc in
      let k' = subst (λ x. Paired (Fits d T []) (member_trees x) (members k.1)) q k.5 in
      same_along v w (SetOf t h.1) (SetOf t k.1) h.3 k.3
      (same_set t h.1 k.1
      (paired_same (Fits d T []) Same (λ a b c x y. fits_same d T [] [] a b c tt x y) (member_trees h.0) (members h.1)
      (members k.1) h.5 k'))
  fits_same d (SequenceType t fs) earlier earlier' r v w e h k =
      let q : k.0 ≡ h.0 = let a = h.2 in let b = k.2 in cc in
      let k' = subst (λ x. FitsFields d fs [] (member_trees x) (members k.1)) q k.4 in
      same_along v w (Sequence t h.1) (Sequence t k.1) h.3 k.3
      (same_sequence t h.1 k.1 (fields_same d fs [] [] (member_trees h.0) (members h.1) (members k.1) tt h.4 k'))
  fits_same d (ContainingType t q T) earlier earlier' r v w e h k =
      let c = leaf_one OctetString r h.1 k.1 h.2 k.2 in
      let s = (prefix h.3 k.3 h.1 k.1 [] h.6 k.6 (sym c ∙ sym (append-nil h.1))).1 in
      let m = fits_same d T earlier earlier' h.3 h.4 k.4 e h.7 (subst (λ x. Fits d T earlier' x k.4) (sym s) k.7) in
      same_of v w (h.8 ∙ ap (Leaf t) (same_der h.4 k.4 m) ∙ sym k.8)
  fits_same d (RuledType p T) earlier earlier' r v w e h k = fits_same d T earlier earlier' r v w e h.1 k.1
  fits_same d (RefusedType t w') earlier earlier' r v w e h k = absurd h
  fits_same d (DefinedByType p os A B) earlier earlier' r v w e h k =
      let l = leaf_at_same p earlier earlier' e in
      ⊎_elim
      (λ a.
      ⊎_elim (λ b. fits_same d A earlier earlier' r v w e a.1 b.1) (λ b. absurd (let x = a.0 in let y = b.0 in cc)) k)
      (λ a.
      ⊎_elim (λ b. absurd (let x = a.0 in let y = b.0 in cc)) (λ b. fits_same d B earlier earlier' r v w e a.1 b.1) k)
      h
  fits_same d (ChoiceType A B) earlier earlier' r v w e h k = ⊎_elim
      (λ a.
      ⊎_elim (λ b. fits_same d A earlier earlier' r v w e a.1 b.1) (λ b. absurd (let x = a.0 in let y = b.0 in cc)) k)
      (λ a.
      ⊎_elim (λ b. absurd (let x = a.0 in let y = b.0 in cc)) (λ b. fits_same d B earlier earlier' r v w e a.1 b.1) k)
      h

  pub fields_same : (d : ℕ) (fs : Fields) (earlier earlier' : List Value) (rs : List RawTree) (vs ws : List Value)
      → Each Same earlier earlier' → FitsFields d fs earlier rs vs → FitsFields d fs earlier' rs ws → Each Same vs ws
  fields_same d EndOfFields earlier earlier' rs vs ws e h k = each_none vs ws h.1 k.1
  fields_same d (Required T fs) earlier earlier' rs vs ws e h k =
      let q : k.0 ≡ h.0 = let a = h.4 in let b = k.4 in cc in
      let q' : k.1 ≡ h.1 = let a = h.4 in let b = k.4 in cc in
      let s = fits_same d T earlier earlier' h.0 h.2 k.2 e h.6 (subst (λ x. Fits d T earlier' x k.2) q k.6) in
      each_cons vs h.3 ws k.3 h.2 k.2 h.5 k.5 s
      (fields_same d fs (earlier ++ (h.2 ∷ [])) (earlier' ++ (k.2 ∷ [])) h.1 h.3 k.3
      (each_snoc earlier earlier' h.2 k.2 e s) h.7 (subst (λ x. FitsFields d fs (earlier' ++ (k.2 ∷ [])) x k.3) q' k.7))
  fields_same d (Optional T fs) earlier earlier' rs vs ws e h k = ⊎_elim
      (λ a. ⊎_elim
      (λ b. fields_same d fs earlier earlier' rs vs ws e a.1 b.1)
      (λ b. absurd (let x = a.0 in let y = b.6 in cc))
      k)
      (λ a. ⊎_elim
      (λ b. absurd (let x = a.6 in let y = b.0 in cc))
      (λ b.
      let q : b.0 ≡ a.0 = let x = a.4 in let y = b.4 in cc in
      let q' : b.1 ≡ a.1 = let x = a.4 in let y = b.4 in cc in
      let s = fits_same d T earlier earlier' a.0 a.2 b.2 e a.7 (subst (λ x. Fits d T earlier' x b.2) q b.7) in
      each_cons vs a.3 ws b.3 a.2 b.2 a.5 b.5 s
      (fields_same d fs (earlier ++ (a.2 ∷ [])) (earlier' ++ (b.2 ∷ [])) a.1 a.3 b.3
      (each_snoc earlier earlier' a.2 b.2 e s) a.8
      (subst (λ x. FitsFields d fs (earlier' ++ (b.2 ∷ [])) x b.3) q' b.8)))
      k)
      h
  fields_same d (Default ct co T fs) earlier earlier' rs vs ws e h k = ⊎_elim
      (λ a. ⊎_elim
      (λ b. fields_same d fs earlier earlier' rs vs ws e a.1 b.1)
      (λ b. absurd (let x = a.0 in let y = b.4 in cc))
      k)
      (λ a. ⊎_elim
      (λ b. absurd (let x = a.4 in let y = b.0 in cc))
      (λ b.
      let q : b.0 ≡ a.0 = let x = a.3 in let y = b.3 in cc in
      let q' : b.1 ≡ a.1 = let x = a.3 in let y = b.3 in cc in
      let s = fits_same d T earlier earlier' a.0 a.2 b.2 e a.5 (subst (λ x. Fits d T earlier' x b.2) q b.5) in
      ⊎_elim
      (λ f. ⊎_elim
      (λ g. fields_same d fs earlier earlier' a.1 vs ws e f.1 (subst (λ x. FitsFields d fs earlier' x ws) q' g.1))
      (λ g. absurd (g.2 (same_trans b.2 a.2 (Leaf ct co) (same_sym a.2 b.2 s) f.0)))
      b.6)
      (λ f. ⊎_elim
      (λ g. absurd (f.2 (same_trans a.2 b.2 (Leaf ct co) s g.0)))
      (λ g.
      each_cons vs f.0 ws g.0 a.2 b.2 f.1 g.1 s
      (fields_same d fs (earlier ++ (a.2 ∷ [])) (earlier' ++ (b.2 ∷ [])) a.1 f.0 g.0
      (each_snoc earlier earlier' a.2 b.2 e s) f.3
      (subst (λ x. FitsFields d fs (earlier' ++ (b.2 ∷ [])) x g.0) q' g.3)))
      b.6)
      a.6)
      k)
      h

each_same_refl : (vs : List Value) → Each Same vs vs
each_same_refl [] = tt
each_same_refl (v ∷ vs) = (same_refl v, each_same_refl vs)

pub one_value : OneValue
one_value d T earlier r v w h k = fits_same d T earlier earlier r v w (each_same_refl earlier) h k
