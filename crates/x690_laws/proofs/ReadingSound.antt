-- A value that is taken fits, by induction on the type.
use Rattle.std.proofs.Common.{◌≡◌, ℕ, zero, suc, ◌+◌, ◌<◌, ◌≤◌, ◌⊎◌, inl, inr, ⊎_elim, ◌==◌, ◌&&◌, nat_le, Bool, true, false, List, [], ◌∷◌, ◌++◌, length, Option, Some, None, refl, sym, ◌∙◌, ap, ap₂, subst, append_assoc, append-nil, arith}
use Rattle.std.proofs.lemmas.Bool.Decides.{nat_tests}
use Rattle.std.proofs.lemmas.List.{length-append}
use Rattle.x690.proofs.Runs.{took_bind, took_require, took_choose, took_done, took_fail}
use Rattle.x690_laws.proofs.ReadingHeadersSound.{both_true, Within, NextEnds, NextIs, next_took, primitive_took}
use Rattle.x690_laws.proofs.TextsSpell.{open_sequence_is, open_set_is}
use Rattle.x690_laws.proofs.ReadingLayoutsSound.{Laid, Held, prim_laid, fact_along, held_none, held_more, Of, container_took, Steps, OneSound, each_took, same_tag_is, LeafSays, leaf_took}
use Rattle.tlv_core.specs.Identifier.{IsTag, Tag, identifier}
use Rattle.tlv_core.specs.Limits.{Limits}
use Rattle.tlv_core.specs.declared.reason.Reason.{Reason}
use Rattle.tlv_core.specs.declared.reason.Reason.TheVariants.{LeftOut, Missing}
use Rattle.x690.specs.Contents.{LeafKind, OctetString}
use Rattle.x690.specs.DerTexts.{der}
use Rattle.x690.specs.Fitting.{Fits, FitsFields, next_fits}
use Rattle.x690.specs.Layouts.{Constructed, FirstTree, LaidOut, NoTrees, Primitive, RawTree, RawTrees, member_trees, same_tag, tree_depth, tree_tag}
use Rattle.x690.specs.Lists.{Each, Paired, one_of, same_octets}
use Rattle.x690.specs.OpenValues.{FitOpenInPlace, FitOpenPaired, FitsOpen, OpenForm, OpenLeaf, OpenPlain, OpenRefused, OpenSequence, OpenSetOf, open_form}
use Rattle.x690.specs.Points.{Enclosing, fault, outermost}
use Rattle.x690.specs.ReadContents.{add_member, all_members, read_leaf, read_open}
use Rattle.x690.specs.ReadHeaders.{ContainerEnds, ElementStands, Ended, Next, each_member, next_tag, primitive_contents}
use Rattle.x690.specs.ReadTypes.{apply_rule, due_element, from_inside, is_this_leaf, read_fields, read_type}
use Rattle.x690.specs.Reading.{Done, Fail, Halted, Outcome, Reading, Took, run, ◌>>=◌}
use Rattle.x690.specs.TypeTerms.{ChoiceType, Chosen, ContainingType, Default, DefinedByType, EndOfFields, Fields, LeafType, OpenType, Optional, RefusedType, Required, RuledType, SequenceOfType, SequenceType, SetOfType, TypeTerm, fits_tag}
use Rattle.x690.specs.Values.{Leaf, Same, Sequence, SetOf, Value, leaf_at, leaf_contents, members, values_of}

pub items_values : (vs : List Value) → members (values_of vs) ≡ vs
items_values [] = refl
items_values (v ∷ vs) = ap (λ w. v ∷ w) (items_values vs)

abbrev pub ValueStep : (RawTree → Value → Type 0) → List Value → RawTree → List Value → Type 0
ValueStep Q vs x ws = (v : Value) × Q x v × (ws ≡ vs ++ (v ∷ []))

steps_values : (Q : RawTree → Value → Type 0) (vs : List Value) (rs : RawTrees) (ws : List Value)
    → Steps (ValueStep Q) vs rs ws → (us : List Value) × (ws ≡ vs ++ us) × Each Q (member_trees rs) us
steps_values Q vs NoTrees ws h = ([], sym h ∙ sym (append-nil vs), tt)
steps_values Q vs (FirstTree r rs) ws h =
    let i = steps_values Q h.0 rs ws h.2 in
    (h.1.0 ∷ i.0, i.1 ∙ ap (λ w. w ++ i.0) h.1.2 ∙ append_assoc vs (h.1.0 ∷ []) i.0, (h.1.1, i.2))

-- a reading of one element is sound
abbrev pub ValueSound : Limits → Enclosing → (ℕ → Tag → Bool → Reading Value) → (RawTree → Value → Type 0) → Type 0
ValueSound l c one Q =
    (v : Value) (p : ℕ) (t : Tag) (form : Bool) (k : ℕ) (s : List ℕ) (q : ℕ) (r : List ℕ) → IsTag t
    → c.open_containers < l.depth → run (one p t form) k s ≡ Took v q r → Laid l c k s t form (λ x. Q x v) q r

member_took : (l : Limits) (c : Enclosing) (one : ℕ → Tag → Bool → Reading Value) (Q : RawTree → Value → Type 0)
    → ValueSound l c one Q → OneSound l c (add_member one) (ValueStep Q)
unfolding add_member
member_took l c one Q f s0 s1 p t form k s q r g d h =
    let x = took_bind _ _ _ _ _ _ _ h in
    let y = took_done _ _ _ _ _ _ x.next_tag in
    subst (λ w. Laid l c k s t form (λ x. ValueStep Q s0 x s1) q w) y.2
    (subst (λ w. Laid l c k s t form (λ x. ValueStep Q s0 x s1) w x.rest) y.1
    (fact_along l c k s t form (λ z. Q z x.value) (λ x. ValueStep Q s0 x s1) x.place x.rest
    (λ a b e. (x.value, e, sym y.0)) (f x.value p t form k s x.place x.rest g d x.first)))

all_values_took : (l : Limits) (c : Enclosing) (p : ℕ) (t : Tag) (form : Bool)
    (one : Enclosing → ℕ → Tag → Bool → Reading Value) (Q : RawTree → Value → Type 0) (k : ℕ) (s : List ℕ)
    (e : Ended (List Value)) (q : ℕ) (r : List ℕ)
    → IsTag t → c.open_containers < l.depth → ((c' : Enclosing) → ValueSound l c' (one c') Q)
    → run (all_members l c p form one) k s ≡ Took e q r
    → Laid l c k s t form (Of t (λ rs. Each Q (member_trees rs) e.all)) q r
unfolding all_members
all_values_took l c p t form one Q k s e q r g d f h =
    fact_along l c k s t form (Of t (λ rs. Steps (ValueStep Q) [] rs e.all))
    (Of t (λ rs. Each Q (member_trees rs) e.all)) q r
    (λ a b x.
    let y = steps_values Q [] x.0 e.all x.2 in (x.0, x.1, subst (λ w. Each Q (member_trees x.0) w) (sym y.1) y.2))
    (container_took l c p t form (λ c'. each_member (add_member (one c')) l.octets l c' [])
    (λ rs. Steps (ValueStep Q) [] rs e.all) k s e q r g d
    (λ c' k' s' q' r' o w.
    each_took (add_member (one c')) (ValueStep Q) l.octets l c' [] k' s' e q' r' o
    (member_took l c' (one c') Q (f c')) w) h)

pub each_paired : {A B : Type 0} (R : A → B → Type 0) (xs : List A) (ys : List B) → Each R xs ys → Paired R xs ys
each_paired R [] [] h = refl
each_paired R [] (y ∷ ys) h = absurd h
each_paired R (x ∷ xs) [] h = absurd h
each_paired R (x ∷ xs) (y ∷ ys) h = (y, ys, inl (refl, refl), h.0, each_paired R xs ys h.1)

-- one of two types, by a test that may look at the tag
chosen_laid : (l : Limits) (c : Enclosing) (k : ℕ) (s : List ℕ) (t : Tag) (form : Bool) (test : Tag → Bool)
    (P Q : RawTree → Type 0) (q : ℕ) (r : List ℕ)
    → Chosen (test t) (Laid l c k s t form P q r) (Laid l c k s t form Q q r)
    → Laid l c k s t form (λ x. Chosen (test (tree_tag x)) (P x) (Q x)) q r
chosen_laid l c k s t form test P Q q r = ⊎_elim
    (λ h.
    fact_along l c k s t form P (λ x. Chosen (test (tree_tag x)) (P x) (Q x)) q r
    (λ x e f. inl (ap test e ∙ h.0, f)) h.1)
    (λ h.
    fact_along l c k s t form Q (λ x. Chosen (test (tree_tag x)) (P x) (Q x)) q r
    (λ x e f. inr (ap test e ∙ h.0, f)) h.1)

-- what is done after a reading of an element
then_done : (l : Limits) (c : Enclosing) (k : ℕ) (s : List ℕ) (t : Tag) (form : Bool) (P : RawTree → Type 0)
    (Q : RawTree → Value → Type 0) (w v : Value) (j : ℕ) (u : List ℕ) (q : ℕ) (r : List ℕ)
    → run (Done w) j u ≡ Took v q r → Laid l c k s t form P j u → ((x : RawTree) → tree_tag x ≡ t → P x → Q x w)
    → Laid l c k s t form (λ x. Q x v) q r
then_done l c k s t form P Q w v j u q r h m f =
    let y = took_done _ _ _ _ _ _ h in
    subst (λ z. Laid l c k s t form (λ x. Q x v) q z) y.2 (subst (λ z. Laid l c k s t form (λ x. Q x v) z u) y.1
    (fact_along l c k s t form P (λ x. Q x v) j u (λ x e p. subst (λ z. Q x z) y.0 (f x e p)) m))

open_leaf : (t : Tag) (kind : LeafKind) (x : RawTree) (v : Value) → open_form t ≡ OpenLeaf kind → tree_tag x ≡ t
    → LeafSays kind t v x → FitsOpen x v
unfolding FitsOpen
open_leaf t kind (Primitive u o) v e g h =
    inl (record {
      kind = kind;
      octets = h.0;
      taken = ap open_form g ∙ e;
      contents = h.1;
      is = h.2 ∙ ap (λ w. Leaf w h.0) (sym g);
    })
open_leaf t kind (Constructed u rs) v e g h =
    inl (record {
      kind = kind;
      octets = h.0;
      taken = ap open_form g ∙ e;
      contents = h.1;
      is = h.2 ∙ ap (λ w. Leaf w h.0) (sym g);
    })

open_row : (t : Tag) (all : List Value) (x : RawTree) → (open_form t ≡ OpenSequence) ⊎ (open_form t ≡ OpenPlain)
    → Of t (λ rs. Each FitsOpen (member_trees rs) all) x → FitsOpen x (Sequence t (values_of all))
unfolding FitsOpen
open_row t all x e f =
    subst (λ w. FitsOpen w (Sequence t (values_of all))) (sym f.1)
    (inr (inl (
      values_of all,
      e,
      refl,
      subst (λ w. FitOpenInPlace f.0 w) (sym (items_values all)) (open_sequence_is f.0 all f.2),
    )))

open_bag : (t : Tag) (all : List Value) (x : RawTree) → open_form t ≡ OpenSetOf
    → Of t (λ rs. Each FitsOpen (member_trees rs) all) x → FitsOpen x (SetOf t (values_of all))
unfolding FitsOpen
open_bag t all x e f =
    subst (λ w. FitsOpen w (SetOf t (values_of all))) (sym f.1)
    (inr (inr (
      values_of all,
      e,
      refl,
      subst (λ w. FitOpenPaired f.0 w) (sym (items_values all))
          (open_set_is f.0 all (each_paired FitsOpen (member_trees f.0) all f.2)),
    )))

plain_prim : (t : Tag) (x : RawTree) (o : List ℕ) → x ≡ Primitive t o → open_form t ≡ OpenPlain → FitsOpen x (Leaf t o)
unfolding FitsOpen
plain_prim t x o e h = subst (λ w. FitsOpen w (Leaf t o)) (sym e) (inr (h, refl))

pub open_took : (deep : ℕ) (l : Limits) (c : Enclosing) → ValueSound l c (read_open deep l c) FitsOpen
unfolding read_open
open_took zero l c v p t form k s q r g d h = absurd (took_fail _ _ _ _ _ _ h)
open_took (suc deep) l c v p t form k s q r g d h = go (open_form t) refl form h (λ c'. open_took deep l c')
  where
    go : (o : OpenForm) → open_form t ≡ o → (form : Bool)
        → run (elim o [
          | OpenRefused ↦ Fail (fault p LeftOut)
          | OpenLeaf kind ↦ read_leaf l c kind p t form
          | OpenPlain ↦ elim form [
            | false ↦ primitive_contents l c p >>= λ o. Done (Leaf t o)
            | true ↦ all_members l c p true (λ c'. read_open deep l c') >>= λ e. Done (Sequence t (values_of e.all))
          ]
          | OpenSequence ↦
              all_members l c p form (λ c'. read_open deep l c') >>= λ e. Done (Sequence t (values_of e.all))
          | OpenSetOf ↦ all_members l c p form (λ c'. read_open deep l c') >>= λ e. Done (SetOf t (values_of e.all))
        ]) k s ≡ Took v q r
        → ((c' : Enclosing) → ValueSound l c' (read_open deep l c') FitsOpen)
        → Laid l c k s t form (λ x. FitsOpen x v) q r
    go OpenRefused e form h ih = absurd (took_fail _ _ _ _ _ _ h)
    go (OpenLeaf kind) e form h ih =
        fact_along l c k s t form (LeafSays kind t v) (λ x. FitsOpen x v) q r (λ x a b. open_leaf t kind x v e a b)
        (leaf_took l c kind p t form k s v q r g d h)
    go OpenPlain e false h ih =
        let x = took_bind _ _ _ _ _ _ _ h in
        let m = primitive_took l c p k s x.value x.place x.rest x.first in
        then_done l c k s t false (λ y. y ≡ Primitive t x.value) FitsOpen
        (Leaf t x.value) v x.place x.rest q r x.next_tag
        (prim_laid l c k s t (λ y. y ≡ Primitive t x.value) x.value x.place x.rest g d m refl)
        (λ y a b. plain_prim t y x.value b e)
    go OpenPlain e true h ih =
        let x = took_bind _ _ _ _ _ _ _ h in
        then_done l c k s t true (Of t (λ rs. Each FitsOpen (member_trees rs) x.value.all)) FitsOpen
        (Sequence t (values_of x.value.all)) v x.place x.rest q r x.next_tag
        (all_values_took l c p t true (λ c'. read_open deep l c') FitsOpen k s x.value x.place x.rest g d ih x.first)
        (λ y a b. open_row t x.value.all y (inr e) b)
    go OpenSequence e form h ih =
        let x = took_bind _ _ _ _ _ _ _ h in
        then_done l c k s t form (Of t (λ rs. Each FitsOpen (member_trees rs) x.value.all)) FitsOpen
        (Sequence t (values_of x.value.all)) v x.place x.rest q r x.next_tag
        (all_values_took l c p t form (λ c'. read_open deep l c') FitsOpen k s x.value x.place x.rest g d ih x.first)
        (λ y a b. open_row t x.value.all y (inl e) b)
    go OpenSetOf e form h ih =
        let x = took_bind _ _ _ _ _ _ _ h in
        then_done l c k s t form (Of t (λ rs. Each FitsOpen (member_trees rs) x.value.all)) FitsOpen
        (SetOf t (values_of x.value.all)) v x.place x.rest q r x.next_tag
        (all_values_took l c p t form (λ c'. read_open deep l c') FitsOpen k s x.value x.place x.rest g d ih x.first)
        (λ y a b. open_bag t x.value.all y e b)

-- the leaf that is a default

pub octets_equal : (a b : List ℕ) → same_octets a b ≡ true → a ≡ b
octets_equal [] [] h = refl
octets_equal [] (y ∷ b) h = cc
octets_equal (x ∷ a) [] h = cc
octets_equal (x ∷ a) (y ∷ b) h =
    let z = both_true _ _ h in
    let z0 : (x == y) ≡ true = z.0 in
    let e : x ≡ y = grind (arith, nat_tests) in
    ap₂ (λ v w. v ∷ w) e (octets_equal a b z.1)

pub equal_octets : (a : List ℕ) → same_octets a a ≡ true
equal_octets [] = refl
equal_octets (x ∷ a) =
    let e : (x == x) ≡ true = grind (arith, nat_tests) in let i = equal_octets a in grind (arith, nat_tests)

pub equal_tag : (t u : Tag) → t ≡ u → same_tag t u ≡ true
equal_tag t u e = let a = ap (λ x. x.class) e in let b = ap (λ x. x.number) e in grind (arith, nat_tests)

pub leaf_same : (t : Tag) (o : List ℕ) (v : Value) → is_this_leaf t o v ≡ true → Same v (Leaf t o)
unfolding Same
leaf_same t o (Leaf u p) h = let a = both_true _ _ h in (same_tag_is u t a.0, octets_equal p o a.1)
leaf_same t o (Sequence u vs) h = cc
leaf_same t o (SetOf u vs) h = cc

pub leaf_other : (t : Tag) (o : List ℕ) (v : Value) → is_this_leaf t o v ≡ false → Same v (Leaf t o) → ⊥
unfolding Same
leaf_other t o (Leaf u p) h g =
    let a : same_tag u t ≡ true = equal_tag u t g.0 in
    let b : same_octets p o ≡ true = subst (λ w. same_octets p w ≡ true) g.1 (equal_octets p) in
    let c : (same_tag u t && same_octets p o) ≡ false = h in
    two_true (same_tag u t) (same_octets p o) a b c
  where
    two_true : (a b : Bool) → a ≡ true → b ≡ true → (a && b) ≡ false → ⊥
    two_true true true x y z = cc
    two_true true false x y z = cc
    two_true false b x y z = cc
leaf_other t o (Sequence u vs) h g = g
leaf_other t o (SetOf u vs) h g = g

-- a value under a rule

inner_deep : (l : Limits) (x : RawTree) → 0 + tree_depth x ≤ l.depth → tree_depth x ≤ l.depth
inner_deep l x h = omega arith

ruled_took : (p : ℕ) (why : Option Reason) (w v : Value) (k : ℕ) (s : List ℕ) (q : ℕ) (r : List ℕ)
    → run (apply_rule p why w) k s ≡ Took v q r → (why ≡ None) × (run (Done w) k s ≡ Took v q r)
unfolding apply_rule
ruled_took p None w v k s q r h = (refl, h)
ruled_took p (Some x) w v k s q r h = absurd (took_fail _ _ _ _ _ _ h)

record Whole (o : Outcome Value) (w : Value) (k : ℕ) (s : List ℕ) (q : ℕ) (r : List ℕ) : Type 0 where
  end : ℕ
  is : o ≡ Took w end []
  place : k ≡ q
  rest : s ≡ r

from_inside_took : (p : ℕ) (o : Outcome Value) (w : Value) (k : ℕ) (s : List ℕ) (q : ℕ) (r : List ℕ)
    → run (from_inside p o) k s ≡ Took w q r → Whole o w k s q r
unfolding from_inside
from_inside_took p (Halted g) w k s q r h = absurd (took_fail _ _ _ _ _ _ h)
from_inside_took p (Took x e []) w k s q r h =
    let y = took_done _ _ _ _ _ _ h in record { end = e; is = ap (λ z. Took z e []) y.0; place = y.1; rest = y.2 }
from_inside_took p (Took x e (b ∷ bs)) w k s q r h = absurd (took_fail _ _ _ _ _ _ h)

-- a whole element, with its identifier
pub record Element_laid (l : Limits) (c : Enclosing) (k : ℕ) (s : List ℕ) (P : RawTree → Type 0) (q : ℕ)
    (r : List ℕ) : Type 0 where
  pub tree : RawTree
  pub octets : List ℕ
  pub is : s ≡ octets ++ r
  pub place : q ≡ k + length octets
  pub laid_out : LaidOut tree octets
  pub deep : c.open_containers + tree_depth tree ≤ l.depth
  pub within : Within l c.nearest_end q
  pub fact : P tree

pub due_took : (l : Limits) (c : Enclosing) (one : ℕ → Tag → Bool → Reading Value) (Q : RawTree → Value → Type 0)
    (k : ℕ) (s : List ℕ) (v : Value) (q : ℕ) (r : List ℕ)
    → ValueSound l c one Q → run (due_element l c one) k s ≡ Took v q r → Element_laid l c k s (λ x. Q x v) q r
unfolding due_element
due_took l c one Q k s v q r f h =
    let x = took_bind _ _ _ _ _ _ _ h in
    go x.value x.place x.rest (next_took l c k s x.value x.place x.rest x.first) x.next_tag
  where
    go : (d : Next) (j : ℕ) (u : List ℕ) → NextIs l c k s d j u
        → run (elim d [ ContainerEnds p ↦ Fail (fault p Missing) | ElementStands p t form ↦ one p t form ]) j u
        ≡ Took v q r
        → Element_laid l c k s (λ x. Q x v) q r
    go (ContainerEnds p) j u n h = absurd (took_fail _ _ _ _ _ _ h)
    go (ElementStands p t form) j u n h =
        let m = f v p t form j u q r n.tag n.deep h in
        let a = identifier t form in
        let z = length-append a m.octets in
        let n1 : j ≡ k + length a = n.place in
        let m1 : q ≡ j + length m.octets = m.place in
        record {
          tree = m.tree;
          octets = a ++ m.octets;
          is = n.is ∙ ap (λ w. a ++ w) m.is ∙ sym (append_assoc a m.octets r);
          place = omega arith;
          laid_out = m.laid_out;
          deep = m.deep;
          within = m.within;
          fact = m.fact;
        }

leaf_is : (kind : LeafKind) (t : Tag) (v : Value) (x : RawTree) → (f : LeafSays kind t v x) → leaf_contents v ≡ f.0
leaf_is kind t v x f = ap leaf_contents f.2

abbrev Heads : Next → RawTrees → Type 0
Heads (ContainerEnds p) rs = rs ≡ NoTrees
Heads (ElementStands p t form) rs = (x : RawTree) × (xs : RawTrees) × (rs ≡ FirstTree x xs) × (tree_tag x ≡ t)

not_due_end : (T : TypeTerm) (rs : RawTrees) → rs ≡ NoTrees → next_fits T (member_trees rs) ≡ false
not_due_end T rs h = ap (λ w. next_fits T (member_trees w)) h

due_as : (T : TypeTerm) (rs : RawTrees) (p : ℕ) (t : Tag) (form : Bool) → Heads (ElementStands p t form) rs
    → next_fits T (member_trees rs) ≡ fits_tag T t
due_as T rs p t form h = ap (λ w. next_fits T (member_trees w)) h.2 ∙ ap (fits_tag T) h.3

abbrev FieldsSay : ℕ → Fields → List Value → Next → List Value → RawTrees → Type 0
FieldsSay d fs earlier x vs rs = FitsFields d fs earlier (member_trees rs) vs × Heads x rs

held_fact : (l : Limits) (c : Enclosing) (k : ℕ) (s : List ℕ) (P Q : RawTrees → Type 0) (q : ℕ) (r : List ℕ)
    → ((x : RawTrees) → P x → Q x) → Held l c k s P q r → Held l c k s Q q r
held_fact l c k s P Q q r f h = record {
  trees = h.trees;
  octets = h.octets;
  tail = h.tail;
  is = h.is;
  lays = h.lays;
  deep = h.deep;
  fact = f h.trees h.fact;
  ending = h.ending;
}

mutual
  unfolding read_type Fits

  pub type_took : (l : Limits) (T : TypeTerm) (earlier : List Value) (c : Enclosing)
      → ValueSound l c (read_type l T earlier c) (Fits l.depth T earlier)
  type_took l (LeafType u kind) earlier c v p t form k s q r g d h =
      let x = took_require _ _ _ _ _ _ _ _ h in
      let e = same_tag_is u t x.0 in
      subst (λ w. Laid l c k s w form (λ y. Fits l.depth (LeafType u kind) earlier y v) q r) e
      (fact_along l c k s u form (LeafSays kind u v) (λ y. Fits l.depth (LeafType u kind) earlier y v) q r
      (λ y a f. (a, f.0, f.1, f.2))
      (leaf_took l c kind p u form k s v q r (subst IsTag (sym e) g) d x.1))
  type_took l OpenType earlier c v p t form k s q r g d h = open_took l.depth l c v p t form k s q r g d h
  type_took l (SequenceOfType u n T) earlier c v p t form k s q r g d h =
      let x = took_require _ _ _ _ _ _ _ _ h in
      let e = same_tag_is u t x.0 in
      let y = took_bind _ _ _ _ _ _ _ x.1 in
      let z = took_require _ _ _ _ _ _ _ _ y.next_tag in
      let z0 : nat_le n (length y.value.all) ≡ true = z.0 in
      let le : n ≤ length y.value.all = grind (arith, nat_tests) in
      subst (λ w. Laid l c k s w form (λ y. Fits l.depth (SequenceOfType u n T) earlier y v) q r) e
      (then_done l c k s u form (Of u (λ rs. Each (Fits l.depth T []) (member_trees rs) y.value.all))
      (Fits l.depth (SequenceOfType u n T) earlier) (Sequence u (values_of y.value.all)) v y.place y.rest q r z.1
      (all_values_took l c p u form (read_type l T []) (Fits l.depth T []) k s y.value y.place y.rest
      (subst IsTag (sym e) g) d (λ c'. type_took l T [] c') y.first)
      (λ a b f. (
        f.0,
        values_of y.value.all,
        f.1,
        refl,
        subst (λ w. n ≤ length w) (sym (items_values y.value.all)) le,
        subst (λ w. Each (Fits l.depth T []) (member_trees f.0) w) (sym (items_values y.value.all)) f.2,
      )))
  type_took l (SetOfType u n T) earlier c v p t form k s q r g d h =
      let x = took_require _ _ _ _ _ _ _ _ h in
      let e = same_tag_is u t x.0 in
      let y = took_bind _ _ _ _ _ _ _ x.1 in
      let z = took_require _ _ _ _ _ _ _ _ y.next_tag in
      let z0 : nat_le n (length y.value.all) ≡ true = z.0 in
      let le : n ≤ length y.value.all = grind (arith, nat_tests) in
      subst (λ w. Laid l c k s w form (λ y. Fits l.depth (SetOfType u n T) earlier y v) q r) e
      (then_done l c k s u form (Of u (λ rs. Each (Fits l.depth T []) (member_trees rs) y.value.all))
      (Fits l.depth (SetOfType u n T) earlier) (SetOf u (values_of y.value.all)) v y.place y.rest q r z.1
      (all_values_took l c p u form (read_type l T []) (Fits l.depth T []) k s y.value y.place y.rest
      (subst IsTag (sym e) g) d (λ c'. type_took l T [] c') y.first)
      (λ a b f. (
        f.0,
        values_of y.value.all,
        f.1,
        refl,
        subst (λ w. n ≤ length w) (sym (items_values y.value.all)) le,
        subst (λ w. Paired (Fits l.depth T []) (member_trees f.0) w) (sym (items_values y.value.all))
            (each_paired (Fits l.depth T []) (member_trees f.0) y.value.all f.2),
      )))
  type_took l (SequenceType u fs) earlier c v p t form k s q r g d h =
      let x = took_require _ _ _ _ _ _ _ _ h in
      let e = same_tag_is u t x.0 in
      let y = took_bind _ _ _ _ _ _ _ x.1 in
      subst (λ w. Laid l c k s w form (λ y. Fits l.depth (SequenceType u fs) earlier y v) q r) e
      (then_done l c k s u form (Of u (λ rs. FitsFields l.depth fs [] (member_trees rs) y.value))
      (Fits l.depth (SequenceType u fs) earlier) (Sequence u (values_of y.value)) v y.place y.rest q r y.next_tag
      (container_took l c p u form (λ c'. next_tag l c' >>= λ d. read_fields l fs [] c' d)
      (λ rs. FitsFields l.depth fs [] (member_trees rs) y.value) k s y.value y.place y.rest (subst IsTag (sym e) g) d
      (λ c' k' s' q' r' o w. let m = took_bind _ _ _ _ _ _ _ w in
      held_fact l c' k' s' (FieldsSay l.depth fs [] m.value y.value)
      (λ rs. FitsFields l.depth fs [] (member_trees rs) y.value) q' r' (λ z f. f.0)
      (fields_took l fs [] c' k' s' m.value m.place m.rest y.value q' r' o
      (next_took l c' k' s' m.value m.place m.rest m.first) m.next_tag))
      y.first)
      (λ a b f. (
        f.0,
        values_of y.value,
        f.1,
        refl,
        subst (λ w. FitsFields l.depth fs [] (member_trees f.0) w) (sym (items_values y.value)) f.2,
      )))
  type_took l (ContainingType u qq T) earlier c v p t form k s q r g d h =
      let x = took_require _ _ _ _ _ _ _ _ h in
      let e = same_tag_is u t x.0 in
      let y' = took_bind _ _ _ _ _ _ _ x.1 in
      let y = took_bind _ _ _ _ _ _ _ y'.next_tag in
      let w = from_inside_took p
      (run (due_element l outermost (read_type l T earlier outermost)) 0 (leaf_contents y'.value))
      y.value y'.place y'.rest y.place y.rest y.first in
      let m = due_took l outermost (read_type l T earlier outermost) (Fits l.depth T earlier) 0
      (leaf_contents y'.value) y.value w.end [] (type_took l T earlier outermost) w.is in
      let rr = ruled_took p (qq earlier y.value) (Leaf u (der y.value)) v y.place y.rest q r y.next_tag in
      let lf = leaf_took l c OctetString p u form k s y'.value y'.place y'.rest (subst IsTag (sym e) g) d y'.first in
      let lf' = subst (λ a. Laid l c k s u form (LeafSays OctetString u y'.value) y.place a) w.rest
      (subst (λ a. Laid l c k s u form (LeafSays OctetString u y'.value) a y'.rest) w.place lf) in
      subst (λ w. Laid l c k s w form (λ y. Fits l.depth (ContainingType u qq T) earlier y v) q r) e
      (then_done l c k s u form (LeafSays OctetString u y'.value) (Fits l.depth (ContainingType u qq T) earlier)
      (Leaf u (der y.value)) v y.place y.rest q r rr.1 lf'
      (λ a b f. (
        b,
        f.0,
        f.1,
        m.tree,
        y.value,
        inner_deep l m.tree m.deep,
        subst (λ z. LaidOut m.tree z)
            (sym (append-nil m.octets) ∙ sym m.is ∙ leaf_is OctetString u y'.value a f) m.laid_out,
        m.fact,
        refl,
        rr.0,
      )))
  type_took l (RuledType qq T) earlier c v p t form k s q r g d h =
      let y = took_bind _ _ _ _ _ _ _ h in
      let rr = ruled_took p (qq earlier y.value) y.value v y.place y.rest q r y.next_tag in
      then_done l c k s t form (λ x. Fits l.depth T earlier x y.value)
      (Fits l.depth (RuledType qq T) earlier) y.value v y.place y.rest q r rr.1
      (type_took l T earlier c y.value p t form k s y.place y.rest g d y.first) (λ a b f. (rr.0, f))
  type_took l (RefusedType u w) earlier c v p t form k s q r g d h =
      let x = took_require _ _ _ _ _ _ _ _ h in absurd (took_fail _ _ _ _ _ _ x.1)
  type_took l (DefinedByType path os A B) earlier c v p t form k s q r g d h =
      chosen_laid l c k s t form (λ u. one_of (leaf_at path earlier) os) (λ y. Fits l.depth A earlier y v)
      (λ y. Fits l.depth B earlier y v) q r
      (⊎_elim (λ x. inl (x.0, type_took l A earlier c v p t form k s q r g d x.1))
      (λ x. inr (x.0, type_took l B earlier c v p t form k s q r g d x.1)) (took_choose _ _ _ _ _ _ _ _ h))
  type_took l (ChoiceType A B) earlier c v p t form k s q r g d h =
      chosen_laid l c k s t form (fits_tag A) (λ y. Fits l.depth A earlier y v) (λ y. Fits l.depth B earlier y v) q r
      (⊎_elim (λ x. inl (x.0, type_took l A earlier c v p t form k s q r g d x.1))
      (λ x. inr (x.0, type_took l B earlier c v p t form k s q r g d x.1)) (took_choose _ _ _ _ _ _ _ _ h))

  pub fields_took : (l : Limits) (fs : Fields) (earlier : List Value) (c : Enclosing) (k : ℕ) (s : List ℕ) (x : Next)
      (j : ℕ) (u : List ℕ) (vs : List Value) (q : ℕ) (r : List ℕ)
      → c.open_containers ≤ l.depth → NextIs l c k s x j u
      → run (read_fields l fs earlier c x) j u ≡ Took vs q r → Held l c k s (FieldsSay l.depth fs earlier x vs) q r
  fields_took l EndOfFields earlier c k s (ContainerEnds p) j u vs q r o n h =
      let y = took_done _ _ _ _ _ _ h in
      held_none l c k s p (FieldsSay l.depth EndOfFields earlier (ContainerEnds p) vs) q r o
      (subst (λ w. NextEnds l c k s p q w) y.2 (subst (λ w. NextEnds l c k s p w u) y.1 n)) ((refl, sym y.0), refl)
  fields_took l EndOfFields earlier c k s (ElementStands p t form) j u vs q r o n h = absurd (took_fail _ _ _ _ _ _ h)
  fields_took l (Required T fs) earlier c k s (ContainerEnds p) j u vs q r o n h = absurd (took_fail _ _ _ _ _ _ h)
  fields_took l (Required T fs) earlier c k s (ElementStands p t form) j u vs q r o n h =
      let x = took_require _ _ _ _ _ _ _ _ h in
      let y = took_bind _ _ _ _ _ _ _ x.1 in
      let z = took_bind _ _ _ _ _ _ _ y.next_tag in
      let w = took_bind _ _ _ _ _ _ _ z.next_tag in
      let e = took_done _ _ _ _ _ _ w.next_tag in
      let m =
      fields_took l fs (earlier ++ (y.value ∷ [])) c y.place y.rest z.value z.place z.rest w.value w.place w.rest o
      (next_took l c y.place y.rest z.value z.place z.rest z.first) w.first in
      let m' =
      subst (λ a. Held l c y.place y.rest (FieldsSay l.depth fs (earlier ++ (y.value ∷ [])) z.value w.value) q a) e.2
      (subst (λ a. Held l c y.place y.rest (FieldsSay l.depth fs (earlier ++ (y.value ∷ [])) z.value w.value) a w.rest)
      e.1 m) in
      held_more l c k s p t form (λ b. Fits l.depth T earlier b y.value)
      (FieldsSay l.depth fs (earlier ++ (y.value ∷ [])) z.value w.value)
      (FieldsSay l.depth (Required T fs) earlier (ElementStands p t form) vs) q r j y.place u y.rest n
      (type_took l T earlier c y.value p t form j u y.place y.rest n.tag n.deep y.first) m'
      (λ a b tg f f'. ((a, member_trees b, y.value, w.value, refl, sym e.0, f, f'.0), (a, b, refl, tg)))
  fields_took l (Optional T fs) earlier c k s (ContainerEnds p) j u vs q r o n h =
      held_fact l c k s (FieldsSay l.depth fs earlier (ContainerEnds p) vs)
      (FieldsSay l.depth (Optional T fs) earlier (ContainerEnds p) vs) q r
      (λ a f. (inl (not_due_end T a f.1, f.0), f.1)) (fields_took l fs earlier c k s (ContainerEnds p) j u vs q r o n h)
  fields_took l (Optional T fs) earlier c k s (ElementStands p t form) j u vs q r o n h = ⊎_elim
      (λ x. let y = took_bind _ _ _ _ _ _ _ x.1 in
      let z = took_bind _ _ _ _ _ _ _ y.next_tag in
      let w = took_bind _ _ _ _ _ _ _ z.next_tag in
      let e = took_done _ _ _ _ _ _ w.next_tag in
      let m =
      fields_took l fs (earlier ++ (y.value ∷ [])) c y.place y.rest z.value z.place z.rest w.value w.place w.rest o
      (next_took l c y.place y.rest z.value z.place z.rest z.first) w.first in
      let m' =
      subst (λ a. Held l c y.place y.rest (FieldsSay l.depth fs (earlier ++ (y.value ∷ [])) z.value w.value) q a) e.2
      (subst (λ a. Held l c y.place y.rest (FieldsSay l.depth fs (earlier ++ (y.value ∷ [])) z.value w.value) a w.rest)
      e.1 m) in
      held_more l c k s p t form (λ b. Fits l.depth T earlier b y.value)
      (FieldsSay l.depth fs (earlier ++ (y.value ∷ [])) z.value w.value)
      (FieldsSay l.depth (Optional T fs) earlier (ElementStands p t form) vs) q r j y.place u y.rest n
      (type_took l T earlier c y.value p t form j u y.place y.rest n.tag n.deep y.first) m'
      (λ a b tg f f'.
      (inr (a, member_trees b, y.value, w.value, refl, sym e.0, ap (fits_tag T) tg ∙ x.0, f, f'.0), (a, b, refl, tg))))
      (λ x.
      held_fact l c k s (FieldsSay l.depth fs earlier (ElementStands p t form) vs)
      (FieldsSay l.depth (Optional T fs) earlier (ElementStands p t form) vs) q r
      (λ a f. (inl (due_as T a p t form f.1 ∙ x.0, f.0), f.1))
      (fields_took l fs earlier c k s (ElementStands p t form) j u vs q r o n x.1))
      (took_choose _ _ _ _ _ _ _ _ h)
  fields_took l (Default i io T fs) earlier c k s (ContainerEnds p) j u vs q r o n h =
      held_fact l c k s (FieldsSay l.depth fs earlier (ContainerEnds p) vs)
      (FieldsSay l.depth (Default i io T fs) earlier (ContainerEnds p) vs) q r
      (λ a f. (inl (not_due_end T a f.1, f.0), f.1)) (fields_took l fs earlier c k s (ContainerEnds p) j u vs q r o n h)
  fields_took l (Default i io T fs) earlier c k s (ElementStands p t form) j u vs q r o n h = ⊎_elim
      (λ x. let y = took_bind _ _ _ _ _ _ _ x.1 in
      let z = took_bind _ _ _ _ _ _ _ y.next_tag in
      let nx = next_took l c y.place y.rest z.value z.place z.rest z.first in
      let jd = type_took l T earlier c y.value p t form j u y.place y.rest n.tag n.deep y.first in
      ⊎_elim
      (λ w. let m = fields_took l fs earlier c y.place y.rest z.value z.place z.rest vs q r o nx w.1 in
      held_more l c k s p t form (λ b. Fits l.depth T earlier b y.value) (FieldsSay l.depth fs earlier z.value vs)
      (FieldsSay l.depth (Default i io T fs) earlier (ElementStands p t form) vs) q r j y.place u y.rest n jd m
      (λ a b tg f f'. (
        inr (a, member_trees b, y.value, refl, ap (fits_tag T) tg ∙ x.0, f, inl (leaf_same i io y.value w.0, f'.0)),
        (a, b, refl, tg),
      )))
      (λ w'. let w = took_bind _ _ _ _ _ _ _ w'.1 in
      let e = took_done _ _ _ _ _ _ w.next_tag in
      let m = fields_took l fs
      (earlier ++ (y.value ∷ [])) c y.place y.rest z.value z.place z.rest w.value w.place w.rest o nx w.first in
      let m' =
      subst (λ a. Held l c y.place y.rest (FieldsSay l.depth fs (earlier ++ (y.value ∷ [])) z.value w.value) q a) e.2
      (subst (λ a. Held l c y.place y.rest (FieldsSay l.depth fs (earlier ++ (y.value ∷ [])) z.value w.value) a w.rest)
      e.1 m) in
      held_more l c k s p t form (λ b. Fits l.depth T earlier b y.value)
      (FieldsSay l.depth fs (earlier ++ (y.value ∷ [])) z.value w.value)
      (FieldsSay l.depth (Default i io T fs) earlier (ElementStands p t form) vs) q r j y.place u y.rest n jd m'
      (λ a b tg f f'. (
        inr (
          a,
          member_trees b,
          y.value,
          refl,
          ap (fits_tag T) tg ∙ x.0,
          f,
          inr (w.value, sym e.0, leaf_other i io y.value w'.0, f'.0),
        ),
        (a, b, refl, tg),
      )))
      (took_choose _ _ _ _ _ _ _ _ z.next_tag))
      (λ x.
      held_fact l c k s (FieldsSay l.depth fs earlier (ElementStands p t form) vs)
      (FieldsSay l.depth (Default i io T fs) earlier (ElementStands p t form) vs) q r
      (λ a f. (inl (due_as T a p t form f.1 ∙ x.0, f.0), f.1))
      (fields_took l fs earlier c k s (ElementStands p t form) j u vs q r o n x.1))
      (took_choose _ _ _ _ _ _ _ _ h)
