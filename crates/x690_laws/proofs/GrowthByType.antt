-- How long DER texts are against the octets that spell their values: one induction, for every bound
-- that holds of each element.
use Rattle.std.proofs.Common.{◌≡◌, ℕ, ◌+◌, ◌≤◌, ◌⊎◌, inl, ⊎_elim, Bool, true, false, List, [], ◌∷◌, ◌++◌, length, refl, sym, ◌∙◌, ap, subst, arith}
use Rattle.std.proofs.lemmas.List.{length-append}
use Rattle.std.proofs.lemmas.Bool.{cases_lt}
use Rattle.tlv_core.specs.Identifier.{Tag, identifier}
use Rattle.x690_laws.proofs.LengthsOfContents.{arranged_length, frame, leaf_length, octets_are, picked_length}
use Rattle.x690_laws.proofs.TextsAsLayouts.{ders_map}
use Rattle.x690.specs.Contents.{LeafContents, LeafKind, OctetString, segments}
use Rattle.x690.specs.DerTexts.{arrange, der, der_element, der_texts, texts_of}
use Rattle.x690.specs.Fitting.{Fits, FitsFields}
use Rattle.x690.specs.Layouts.{AllLaidOut, Constructed, Definite, FirstTree, Indefinite, LaidOut, NoTrees, Primitive, RawTree, RawTrees, member_trees, tree_tag}
use Rattle.x690.specs.Lists.{Each, Paired, join}
use Rattle.x690.specs.OpenValues.{FitOpenInPlace, FitOpenPaired, FitsOpen, IsOpenLeaf}
use Rattle.x690.specs.TypeTerms.{ChoiceType, ContainingType, Default, DefinedByType, EndOfFields, Fields, LeafType, OpenType, Optional, RefusedType, Required, RuledType, SequenceOfType, SequenceType, SetOfType, TypeTerm}
use Rattle.x690.specs.Values.{Leaf, Sequence, SetOf, Value, Values, members}

abbrev pub Framed : Tag → Bool → List ℕ → List ℕ → Type 0
Framed t f c b = Definite t f c b ⊎ Indefinite t c b

-- `G m n`: a text of `m` octets may stand against `n` octets that spell its value. `Q` is what is asked of the octets,
-- of their parts and of the octets that a string holds.
-- `brief` and `element` are all that is to show of elements: contents `o` stand against contents `c`, so the element of
-- `o` stands against the octets `b` with contents `c`.
pub record Growing (Q : List ℕ → Type 0) (G : ℕ → ℕ → Type 0) : Type 0 where
  pub front : (x y : List ℕ) → Q (x ++ y) → Q x
  pub back : (x y : List ℕ) → Q (x ++ y) → Q y
  pub held : (r : RawTree) (b : List ℕ) → LaidOut r b → Q b → Q (join (segments r))
  pub within : (m n : ℕ) → m ≤ n → G m n
  pub slack : (m n n' : ℕ) → n ≤ n' → G m n → G m n'
  pub joined : (m m' n n' : ℕ) → G m n → G m' n' → G (m + m') (n + n')
  pub brief : (t : Tag) (f g : Bool) (o c b : List ℕ) → length o ≤ 1 → Framed t g c b
      → G (length (der_element t f o)) (length b)
  pub element : (t : Tag) (f g : Bool) (o c b : List ℕ) → Q b → G (length o) (length c) → Framed t g c b
      → G (length (der_element t f o)) (length b)

abbrev pub Grown : (ℕ → ℕ → Type 0) → Value → List ℕ → Type 0
Grown G v b = G (length (der v)) (length b)

abbrev pub AllGrown : (ℕ → ℕ → Type 0) → List Value → List ℕ → Type 0
AllGrown G vs c = G (length (texts_of vs)) (length c)

-- the trees are laid out one after another
abbrev pub InOrder : List RawTree → List ℕ → Type 0
InOrder [] c = c ≡ []
InOrder (r ∷ rs) c = (x : List ℕ) × (y : List ℕ) × LaidOut r x × InOrder rs y × (c ≡ x ++ y)

in_order : (rs : RawTrees) (c : List ℕ) → AllLaidOut rs c → InOrder (member_trees rs) c
unfolding LaidOut
in_order NoTrees c h = h
in_order (FirstTree r rs) c h = (h.0, h.1, h.2, in_order rs h.1 h.3, h.4)

-- what is asked of an element is asked of its contents
contents_asked : {Q : List ℕ → Type 0} {G : ℕ → ℕ → Type 0} → Growing Q G → (t : Tag) (f : Bool) (c b : List ℕ) → Q b
    → Framed t f c b → Q c
contents_asked {Q} q t f c b a h = ⊎_elim
    (λ d. q.back d.length_octets c (q.back (identifier t f) (d.length_octets ++ c) (subst Q d.is a)))
    (λ d.
    q.front c (0 ∷ 0 ∷ [])
    (q.back (128 ∷ []) (c ++ (0 ∷ 0 ∷ [])) (q.back (identifier t true) (128 ∷ (c ++ (0 ∷ 0 ∷ []))) (subst Q d.is a))))
    h

-- elements

leaf_text : (G : ℕ → ℕ → Type 0) (t u : Tag) (o b : List ℕ) (v : Value) → u ≡ t → v ≡ Leaf t o
    → G (length (der_element u false o)) (length b) → Grown G v b
unfolding der
leaf_text G t u o b v e p x =
    subst (λ w. Grown G w b) (sym p) (subst (λ y. G (length (der_element y false o)) (length b)) e x)

leaf_grows : {Q : List ℕ → Type 0} {G : ℕ → ℕ → Type 0} → Growing Q G → (k : LeafKind) (r : RawTree) (b o : List ℕ)
    → Q b → LaidOut r b → LeafContents k r o → G (length (der_element (tree_tag r) false o)) (length b)
leaf_grows q k r b o a h l =
    let f = frame r b h in
    ⊎_elim
    (λ m. q.brief (tree_tag r) false f.form o f.contents b (omega arith) f.framed)
    (λ m.
    q.element (tree_tag r) false f.form o f.contents b a
    (q.within (length o) (length f.contents) (omega (arith, leaf_length k r o l))) f.framed)
    (cases_lt (length o) 2)

-- a string that holds `c`, written anew with `o` in its place
containing_grows : {Q : List ℕ → Type 0} {G : ℕ → ℕ → Type 0} → Growing Q G → (r : RawTree) (b c o : List ℕ) → Q b
    → LaidOut r b → LeafContents OctetString r c → G (length o) (length c)
    → G (length (der_element (tree_tag r) false o)) (length b)
containing_grows q r b c o a h l x =
    let f = frame r b h in
    q.element (tree_tag r) false f.form o f.contents b a
    (q.slack (length o) (length c) (length f.contents) (omega (arith, ap length (octets_are r c l))) x) f.framed

sequence_grows : {Q : List ℕ → Type 0} {G : ℕ → ℕ → Type 0} → Growing Q G
    → (t : Tag) (vs : Values) (v : Value) (c b : List ℕ) → v ≡ Sequence t vs → Q b → Framed t true c b
    → AllGrown G (members vs) c → Grown G v b
unfolding der
sequence_grows {G} q t vs v c b p a h x =
    subst (λ w. Grown G w b) (sym p)
    (q.element t true true (join (der_texts vs)) c b a
    (subst (λ s. G (length (join s)) (length c)) (sym (ders_map vs)) x) h)

set_grows : {Q : List ℕ → Type 0} {G : ℕ → ℕ → Type 0} → Growing Q G
    → (t : Tag) (vs : Values) (v : Value) (c b : List ℕ) → v ≡ SetOf t vs → Q b → Framed t true c b
    → AllGrown G (members vs) c → Grown G v b
unfolding der
set_grows {G} q t vs v c b p a h x =
    let e : length (texts_of (members vs)) ≡ length (join (arrange (der_texts vs))) =
    ap (λ s. length (join s)) (sym (ders_map vs)) ∙ sym (arranged_length (der_texts vs)) in
    subst (λ w. Grown G w b) (sym p)
    (q.element t true true (join (arrange (der_texts vs))) c b a (subst (λ n. G n (length c)) e x) h)

-- members

none_grow : {Q : List ℕ → Type 0} {G : ℕ → ℕ → Type 0} → Growing Q G → (vs : List Value) (c : List ℕ) → vs ≡ []
    → AllGrown G vs c
none_grow q vs c e = q.within (length (texts_of vs)) (length c) (omega (arith, ap (λ x. length (texts_of x)) e))

first_length : (v : Value) (rest vs : List Value) → vs ≡ v ∷ rest
    → length (texts_of vs) ≡ length (der v) + length (texts_of rest)
first_length v rest vs e = ap (λ x. length (texts_of x)) e ∙ length-append (der v) (texts_of rest)

-- a member, and the others
more_grow : {Q : List ℕ → Type 0} {G : ℕ → ℕ → Type 0} → Growing Q G
    → (v : Value) (rest vs : List Value) (x y c : List ℕ)
    → length (texts_of vs) ≡ length (der v) + length (texts_of rest) → c ≡ x ++ y → Q c
    → (Q x → Grown G v x) → (Q y → AllGrown G rest y) → AllGrown G vs c
more_grow {Q} {G} q v rest vs x y c e p a g h =
    let a' : Q (x ++ y) = subst Q p a in
    let l : length x + length y ≡ length c = omega (arith, ap length p, length-append x y) in
    let both =
    q.joined (length (der v)) (length (texts_of rest)) (length x) (length y) (g (q.front x y a')) (h (q.back x y a')) in
    subst (λ n. G n (length c)) (sym e) (subst (λ n. G (length (der v) + length (texts_of rest)) n) l both)

each_grow : {Q : List ℕ → Type 0} {G : ℕ → ℕ → Type 0} → Growing Q G → (R : RawTree → Value → Type 0)
    → ((r : RawTree) (v : Value) (b : List ℕ) → Q b → LaidOut r b → R r v → Grown G v b)
    → (rs : List RawTree) (vs : List Value) (c : List ℕ) → Q c → InOrder rs c → Each R rs vs → AllGrown G vs c
each_grow q R f [] [] c a h k = none_grow q [] c refl
each_grow q R f [] (v ∷ vs) c a h k = absurd k
each_grow q R f (r ∷ rs) [] c a h k = absurd k
each_grow q R f (r ∷ rs) (v ∷ vs) c a h k =
    more_grow q v vs (v ∷ vs) h.0 h.1 c (first_length v vs (v ∷ vs) refl) h.4 a (λ m. f r v h.0 m h.2 k.0)
    (λ m. each_grow q R f rs vs h.1 m h.3 k.1)

paired_grow : {Q : List ℕ → Type 0} {G : ℕ → ℕ → Type 0} → Growing Q G → (R : RawTree → Value → Type 0)
    → ((r : RawTree) (v : Value) (b : List ℕ) → Q b → LaidOut r b → R r v → Grown G v b)
    → (rs : List RawTree) (vs : List Value) (c : List ℕ) → Q c → InOrder rs c → Paired R rs vs → AllGrown G vs c
paired_grow q R f [] vs c a h k = none_grow q vs c k
paired_grow q R f (r ∷ rs) vs c a h k =
    more_grow q k.0 k.1 vs h.0 h.1 c (picked_length k.0 vs k.1 k.2) h.4 a (λ m. f r k.0 h.0 m h.2 k.3)
    (λ m. paired_grow q R f rs k.1 h.1 m h.3 k.4)

-- a field that is there, and those after it
field_grows : {Q : List ℕ → Type 0} {G : ℕ → ℕ → Type 0} → Growing Q G
    → (r : RawTree) (rs' rs : List RawTree) (v : Value) (rest vs : List Value) (c : List ℕ) → rs ≡ r ∷ rs'
    → vs ≡ v ∷ rest → Q c → InOrder rs c
    → ((b : List ℕ) → Q b → LaidOut r b → Grown G v b) → ((y : List ℕ) → Q y → InOrder rs' y → AllGrown G rest y)
    → AllGrown G vs c
field_grows q r rs' rs v rest vs c e p a h f g =
    let o : InOrder (r ∷ rs') c = subst (λ y. InOrder y c) e h in
    more_grow q v rest vs o.0 o.1 c (first_length v rest vs p) o.4 a (λ m. f o.0 m o.2) (λ m. g o.1 m o.3)

-- open values

open_leaf_grows : {Q : List ℕ → Type 0} {G : ℕ → ℕ → Type 0} → Growing Q G → (r : RawTree) (v : Value) (b : List ℕ)
    → Q b → LaidOut r b → IsOpenLeaf (tree_tag r) r v → Grown G v b
open_leaf_grows {G} q r v b a h k =
    leaf_text G (tree_tag r) (tree_tag r) k.octets b v refl k.is (leaf_grows q k.kind r b k.octets a h k.contents)

mutual
  unfolding FitsOpen LaidOut

  open_grows : {Q : List ℕ → Type 0} {G : ℕ → ℕ → Type 0} → Growing Q G → (r : RawTree) (v : Value) (b : List ℕ) → Q b
      → LaidOut r b → FitsOpen r v → Grown G v b
  open_grows {G} q (Primitive t o) v b a h k = ⊎_elim
      (λ x. open_leaf_grows q (Primitive t o) v b a h x)
      (λ x.
      leaf_text G t t o b v refl x.1
      (q.element t false false o o b a (q.within (length o) (length o) (omega arith)) (inl h.1)))
      k
  open_grows q (Constructed t rs) v b a h k =
      let m = contents_asked q t true h.1.0 b a h.1.2 in
      ⊎_elim
      (λ x. open_leaf_grows q (Constructed t rs) v b a h x)
      (λ y. ⊎_elim
      (λ x. sequence_grows q t x.0 v h.1.0 b x.2 a h.1.2 (open_sequence_grows q rs (members x.0) h.1.0 m h.1.1 x.3))
      (λ x. set_grows q t x.0 v h.1.0 b x.2 a h.1.2 (open_set_grows q rs (members x.0) h.1.0 m h.1.1 x.3))
      y)
      k

  open_sequence_grows : {Q : List ℕ → Type 0} {G : ℕ → ℕ → Type 0} → Growing Q G
      → (rs : RawTrees) (vs : List Value) (c : List ℕ) → Q c → AllLaidOut rs c → FitOpenInPlace rs vs → AllGrown G vs c
  open_sequence_grows q NoTrees vs c a h k = none_grow q vs c k
  open_sequence_grows q (FirstTree r rs) vs c a h k =
      more_grow q k.0 k.1 vs h.0 h.1 c (first_length k.0 k.1 vs k.2) h.4 a (λ m. open_grows q r k.0 h.0 m h.2 k.3)
      (λ m. open_sequence_grows q rs k.1 h.1 m h.3 k.4)

  open_set_grows : {Q : List ℕ → Type 0} {G : ℕ → ℕ → Type 0} → Growing Q G
      → (rs : RawTrees) (vs : List Value) (c : List ℕ) → Q c → AllLaidOut rs c → FitOpenPaired rs vs → AllGrown G vs c
  open_set_grows q NoTrees vs c a h k = none_grow q vs c k
  open_set_grows q (FirstTree r rs) vs c a h k =
      more_grow q k.0 k.1 vs h.0 h.1 c (picked_length k.0 vs k.1 k.2) h.4 a (λ m. open_grows q r k.0 h.0 m h.2 k.3)
      (λ m. open_set_grows q rs k.1 h.1 m h.3 k.4)

-- values of every type

-- the contents of a constructed tree
record Inside (Q : List ℕ → Type 0) (t : Tag) (rs : RawTrees) (b : List ℕ) : Type 0 where
  pub contents : List ℕ
  pub framed : Framed t true contents b
  pub asked : Q contents
  pub in_order : InOrder (member_trees rs) contents

inside : {Q : List ℕ → Type 0} {G : ℕ → ℕ → Type 0} → Growing Q G → (t : Tag) (rs : RawTrees) (r : RawTree) (b : List ℕ)
    → r ≡ Constructed t rs → Q b → LaidOut r b → Inside Q t rs b
unfolding LaidOut
inside q t rs r b e a h =
    let h' : LaidOut (Constructed t rs) b = subst (λ x. LaidOut x b) e h in
    record {
      contents = h'.1.0;
      framed = h'.1.2;
      asked = contents_asked q t true h'.1.0 b a h'.1.2;
      in_order = in_order rs h'.1.0 h'.1.1;
    }

mutual
  unfolding Fits

  pub grows : {Q : List ℕ → Type 0} {G : ℕ → ℕ → Type 0} → Growing Q G
      → (d : ℕ) (T : TypeTerm) (earlier : List Value) (r : RawTree) (v : Value) (b : List ℕ) → Q b → LaidOut r b
      → Fits d T earlier r v → Grown G v b
  grows {G} q d (LeafType t k) earlier r v b a h x =
      leaf_text G t (tree_tag r) x.1 b v x.0 x.3 (leaf_grows q k r b x.1 a h x.2)
  grows q d OpenType earlier r v b a h x = open_grows q r v b a h x
  grows q d (SequenceOfType t n T) earlier r v b a h x =
      let i = inside q t x.0 r b x.2 a h in
      sequence_grows q t x.1 v i.contents b x.3 a i.framed
      (each_grow q (Fits d T []) (λ s w y m l z. grows q d T [] s w y m l z) (member_trees x.0)
      (members x.1) i.contents i.asked i.in_order x.5)
  grows q d (SetOfType t n T) earlier r v b a h x =
      let i = inside q t x.0 r b x.2 a h in
      set_grows q t x.1 v i.contents b x.3 a i.framed
      (paired_grow q (Fits d T []) (λ s w y m l z. grows q d T [] s w y m l z) (member_trees x.0)
      (members x.1) i.contents i.asked i.in_order x.5)
  grows q d (SequenceType t fs) earlier r v b a h x =
      let i = inside q t x.0 r b x.2 a h in
      sequence_grows q t x.1 v i.contents b x.3 a i.framed
      (fields_grow q d fs [] (member_trees x.0) (members x.1) i.contents i.asked i.in_order x.4)
  grows {Q} {G} q d (ContainingType t p T) earlier r v b a h x =
      let g = grows q d T earlier x.3 x.4 x.1 (subst Q (sym (octets_are r x.1 x.2)) (q.held r b h a)) x.6 x.7 in
      leaf_text G t (tree_tag r) (der x.4) b v x.0 x.8 (containing_grows q r b x.1 (der x.4) a h x.2 g)
  grows q d (RuledType p T) earlier r v b a h x = grows q d T earlier r v b a h x.1
  grows q d (RefusedType t w) earlier r v b a h x = absurd x
  grows q d (DefinedByType p os A B) earlier r v b a h x =
      ⊎_elim (λ y. grows q d A earlier r v b a h y.1) (λ y. grows q d B earlier r v b a h y.1) x
  grows q d (ChoiceType A B) earlier r v b a h x =
      ⊎_elim (λ y. grows q d A earlier r v b a h y.1) (λ y. grows q d B earlier r v b a h y.1) x

  fields_grow : {Q : List ℕ → Type 0} {G : ℕ → ℕ → Type 0} → Growing Q G
      → (d : ℕ) (fs : Fields) (earlier : List Value) (rs : List RawTree) (vs : List Value) (c : List ℕ) → Q c
      → InOrder rs c → FitsFields d fs earlier rs vs → AllGrown G vs c
  fields_grow q d EndOfFields earlier rs vs c a h x = none_grow q vs c x.1
  fields_grow q d (Required T fs) earlier rs vs c a h x =
      field_grows q x.0 x.1 rs x.2 x.3 vs c x.4 x.5 a h (λ b m l. grows q d T earlier x.0 x.2 b m l x.6)
      (λ y m l. fields_grow q d fs (earlier ++ (x.2 ∷ [])) x.1 x.3 y m l x.7)
  fields_grow q d (Optional T fs) earlier rs vs c a h x = ⊎_elim
      (λ k. fields_grow q d fs earlier rs vs c a h k.1)
      (λ k.
      field_grows q k.0 k.1 rs k.2 k.3 vs c k.4 k.5 a h (λ b m l. grows q d T earlier k.0 k.2 b m l k.7)
      (λ y m l. fields_grow q d fs (earlier ++ (k.2 ∷ [])) k.1 k.3 y m l k.8))
      x
  fields_grow {Q} q d (Default u o T fs) earlier rs vs c a h x = ⊎_elim
      (λ k. fields_grow q d fs earlier rs vs c a h k.1)
      (λ k. ⊎_elim
      (λ j.
      let i : InOrder (k.0 ∷ k.1) c = subst (λ y. InOrder y c) k.3 h in
      q.slack (length (texts_of vs)) (length i.1) (length c) (omega (arith, ap length i.4, length-append i.0 i.1))
      (fields_grow q d fs earlier k.1 vs i.1 (q.back i.0 i.1 (subst Q i.4 a)) i.3 j.1))
      (λ j.
      field_grows q k.0 k.1 rs k.2 j.0 vs c k.3 j.1 a h (λ b m l. grows q d T earlier k.0 k.2 b m l k.5)
      (λ y m l. fields_grow q d fs (earlier ++ (k.2 ∷ [])) k.1 j.0 y m l j.3))
      k.6)
      x
