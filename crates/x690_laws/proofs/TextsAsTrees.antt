-- The trees of DER texts.
use Rattle.std.proofs.Common.{◌≡◌, ℕ, zero, suc, ◌+◌, ◌/◌, ◌%◌, ◌<◌, ◌≤◌, ◌==◌, max, Bool, true, false, cond, inl, inr, ⊎_elim, List, [], ◌∷◌, ◌++◌, map, length, refl, sym, ◌∙◌, ap, subst, arith}
use Rattle.std.proofs.lemmas.List.{length-append}
use Rattle.std.proofs.lemmas.Bool.Decides.{nat_tests}
use Rattle.x690_laws.proofs.LayoutsOfHeaders.{branch}
use Rattle.tlv_core.proofs.Digits.{number_length}
use Rattle.x690_laws.proofs.ListsPaired.{pick_swap}
use Rattle.x690_laws.proofs.TextsAsLayouts.{element_alone, shortest_cases, number_value, below_power}
use Rattle.tlv_core.specs.Identifier.{IsTag, Tag, identifier}
use Rattle.tlv_core.specs.Length.{SpellsLength, number_octets, shortest_length}
use Rattle.x690.specs.DerTexts.{arrange, der_element, insert_text, padded_less}
use Rattle.x690.specs.Layouts.{AllLaidOut, Constructed, Definite, FirstTree, LaidOut, NoTrees, Primitive, RawTree, RawTrees, member_trees, tree_depth, trees_depth}
use Rattle.x690.specs.Lists.{Paired, join}

unfoldable mutual
  -- the DER layout of a tree
  pub text : RawTree → List ℕ
  text (Primitive t o) = der_element t false o
  text (Constructed t rs) = der_element t true (join (texts rs))

  pub texts : RawTrees → List (List ℕ)
  texts NoTrees = []
  texts (FirstTree r rs) = text r ∷ texts rs

unfoldable mutual
  -- each tag may stand in an identifier
  pub Tagged : RawTree → Type 0
  Tagged (Primitive t o) = IsTag t
  Tagged (Constructed t rs) = IsTag t × AllTagged rs

  pub AllTagged : RawTrees → Type 0
  AllTagged NoTrees = Unit {0}
  AllTagged (FirstTree r rs) = Tagged r × AllTagged rs

abbrev pub raws_of : List RawTree → RawTrees
raws_of [] = NoTrees
raws_of (r ∷ rs) = FirstTree r (raws_of rs)

abbrev pub depth_list : List RawTree → ℕ
depth_list [] = 0
depth_list (r ∷ rs) = max (tree_depth r) (depth_list rs)

abbrev pub TaggedList : List RawTree → Type 0
TaggedList [] = Unit {0}
TaggedList (r ∷ rs) = Tagged r × TaggedList rs

pub members_raws : (rs : List RawTree) → member_trees (raws_of rs) ≡ rs
members_raws [] = refl
members_raws (r ∷ rs) = ap (λ x. r ∷ x) (members_raws rs)

pub texts_raws : (rs : List RawTree) → texts (raws_of rs) ≡ map text rs
unfolding text
texts_raws [] = refl
texts_raws (r ∷ rs) = ap (λ x. text r ∷ x) (texts_raws rs)

pub depths_raws : (rs : List RawTree) → trees_depth (raws_of rs) ≡ depth_list rs
depths_raws [] = refl
depths_raws (r ∷ rs) = ap (λ x. max (tree_depth r) x) (depths_raws rs)

pub depths_members : (rs : RawTrees) → trees_depth rs ≡ depth_list (member_trees rs)
depths_members NoTrees = refl
depths_members (FirstTree r rs) = ap (λ x. max (tree_depth r) x) (depths_members rs)

pub tagged_raws : (rs : List RawTree) → TaggedList rs → AllTagged (raws_of rs)
unfolding Tagged
tagged_raws [] h = tt
tagged_raws (r ∷ rs) h = (h.0, tagged_raws rs h.1)

pub tagged_members : (rs : RawTrees) → AllTagged rs → TaggedList (member_trees rs)
unfolding Tagged
tagged_members NoTrees h = tt
tagged_members (FirstTree r rs) h = (h.0, tagged_members rs h.1)

mutual
  unfolding LaidOut Tagged

  pub lay_tagged : (r : RawTree) (b : List ℕ) → LaidOut r b → Tagged r
  lay_tagged (Primitive t o) b h = h.0
  lay_tagged (Constructed t rs) b h = (h.0, lays_tagged rs h.1.0 h.1.1)

  lays_tagged : (rs : RawTrees) (b : List ℕ) → AllLaidOut rs b → AllTagged rs
  lays_tagged NoTrees b h = tt
  lays_tagged (FirstTree r rs) b h = (lay_tagged r h.0 h.2, lays_tagged rs h.1 h.3)

-- the DER layout is one, where it is short

number_some : (f n : ℕ) → 0 < n → 1 ≤ length (number_octets (suc f) n)
unfolding number_octets
number_some f n h = go (n == 0) refl
  where
    go : (b : Bool) → (n == 0) ≡ b → 1 ≤ length (branch b [] (number_octets f (n / 256) ++ ((n % 256) ∷ [])))
    go true e = absurd (grind (arith, nat_tests))
    go false e = omega (arith, length-append (number_octets f (n / 256)) ((n % 256) ∷ []))

some_octets : (n : ℕ) → 128 ≤ n → 1 ≤ length (number_octets n n)
some_octets zero h = absurd (omega arith)
some_octets (suc n) h = number_some n (suc n) (omega arith)

len_brief : (n : ℕ) → n < 128 → SpellsLength n (n ∷ [])
unfolding SpellsLength
len_brief n h = inl (h, refl, refl)

len_counted : (n : ℕ) → n < 18446744073709551616 → 128 ≤ n
    → SpellsLength n ((128 + length (number_octets n n)) ∷ number_octets n n)
unfolding SpellsLength
len_counted n h l =
    let c = number_length 8 n n (omega arith) in
    let s = some_octets n l in
    inr (omega arith, omega arith, omega arith, number_value n n (below_power n))

pub shortest_len : (n : ℕ) → n < 18446744073709551616 → SpellsLength n (shortest_length n)
shortest_len n h = ⊎_elim
    (λ a. subst (SpellsLength n) (sym a.is) (len_brief n a.small))
    (λ a. subst (SpellsLength n) (sym a.is) (len_counted n h a.large))
    (shortest_cases n)

pub element_long : (t : Tag) (f : Bool) (c : List ℕ) → length c ≤ length (der_element t f c)
unfolding der_element
element_long t f c = omega (
  arith,
  length-append (identifier t f) (shortest_length (length c) ++ c),
  length-append (shortest_length (length c)) c,
)

pub element_definite : (t : Tag) (f : Bool) (c : List ℕ) → length c < 18446744073709551616
    → Definite t f c (der_element t f c)
unfolding der_element
element_definite t f c h =
    record { length_octets = shortest_length (length c); spells = shortest_len (length c) h; is = refl }

mutual
  unfolding LaidOut Tagged text

  pub lay_text : (r : RawTree) → Tagged r → length (text r) < 18446744073709551616 → LaidOut r (text r)
  lay_text (Primitive t o) h l = (h, element_definite t false o (omega (arith, element_long t false o)))
  lay_text (Constructed t rs) h l =
      let c : length (join (texts rs)) < 18446744073709551616 = omega (arith, element_long t true (join (texts rs))) in
      (h.0, (join (texts rs), lays_text rs h.1 c, inl (element_definite t true (join (texts rs)) c)))

  lays_text : (rs : RawTrees) → AllTagged rs → length (join (texts rs)) < 18446744073709551616
      → AllLaidOut rs (join (texts rs))
  lays_text NoTrees h l = refl
  lays_text (FirstTree r rs) h l =
      let e = length-append (text r) (join (texts rs)) in
      (text r, join (texts rs), lay_text r h.0 (omega arith), lays_text rs h.1 (omega arith), refl)

-- trees with one text are one

element_pos : (t : Tag) (f : Bool) (c : List ℕ) → 1 ≤ length (der_element t f c)
unfolding der_element
element_pos t f c = ⊎_elim
    (λ a. omega (
      arith,
      ap length a.is,
      length-append (identifier t f) (shortest_length (length c) ++ c),
      length-append (shortest_length (length c)) c,
    ))
    (λ a. omega (
      arith,
      ap length a.is,
      length-append (identifier t f) (shortest_length (length c) ++ c),
      length-append (shortest_length (length c)) c,
    ))
    (shortest_cases (length c))

element_some : (t : Tag) (f : Bool) (c x : List ℕ) → der_element t f c ++ x ≡ [] → ⊥
element_some t f c x e = absurd (omega (arith, element_pos t f c, length-append (der_element t f c) x, ap length e))

text_some : (r : RawTree) (x : List ℕ) → text r ++ x ≡ [] → ⊥
unfolding text
text_some (Primitive t o) x e = element_some t false o x e
text_some (Constructed t rs) x e = element_some t true (join (texts rs)) x e

mutual
  unfolding text

  pub text_alone : (r s : RawTree) (x y : List ℕ) → text r ++ x ≡ text s ++ y → (r ≡ s) × (x ≡ y)
  text_alone (Primitive t o) (Primitive u p) x y e = let a = element_alone t u false false o p x y e in (cc, a.rests)
  text_alone (Primitive t o) (Constructed u ss) x y e =
      let a = element_alone t u false true o (join (texts ss)) x y e in absurd (let q : false ≡ true = a.forms in cc)
  text_alone (Constructed t rs) (Primitive u p) x y e =
      let a = element_alone t u true false (join (texts rs)) p x y e in absurd (let q : true ≡ false = a.forms in cc)
  text_alone (Constructed t rs) (Constructed u ss) x y e =
      let a = element_alone t u true true (join (texts rs)) (join (texts ss)) x y e in
      let m = texts_alone rs ss a.contents in
      (let p = a.tags in cc, a.rests)

  texts_alone : (rs ss : RawTrees) → join (texts rs) ≡ join (texts ss) → rs ≡ ss
  texts_alone NoTrees NoTrees e = refl
  texts_alone NoTrees (FirstTree s ss) e = absurd (text_some s (join (texts ss)) (sym e))
  texts_alone (FirstTree r rs) NoTrees e = absurd (text_some r (join (texts rs)) e)
  texts_alone (FirstTree r rs) (FirstTree s ss) e =
      let a = text_alone r s (join (texts rs)) (join (texts ss)) e in
      let m = texts_alone rs ss a.1 in let p = a.0 in cc

-- trees arranged by their texts

pub insert_tree : RawTree → List RawTree → List RawTree
insert_tree x [] = x ∷ []
insert_tree x (y ∷ ys) = elim (padded_less (text x) (text y)) [ true ↦ x ∷ y ∷ ys | false ↦ y ∷ insert_tree x ys ]

pub arrange_trees : List RawTree → List RawTree
arrange_trees [] = []
arrange_trees (x ∷ xs) = insert_tree x (arrange_trees xs)

insert_texts : (x : RawTree) (ys : List RawTree) → map text (insert_tree x ys) ≡ insert_text (text x) (map text ys)
unfolding insert_tree insert_text
insert_texts x [] = refl
insert_texts x (y ∷ ys) =
    elim (padded_less (text x) (text y)) as (λ b.
    map text (elim b [ true ↦ x ∷ y ∷ ys | false ↦ y ∷ insert_tree x ys ])
    ≡ cond b (text x ∷ text y ∷ map text ys) (text y ∷ insert_text (text x) (map text ys)))
    [ true ↦ refl | false ↦ ap (λ s. text y ∷ s) (insert_texts x ys) ]

pub arrange_texts : (xs : List RawTree) → map text (arrange_trees xs) ≡ arrange (map text xs)
unfolding arrange_trees arrange
arrange_texts [] = refl
arrange_texts (x ∷ xs) = insert_texts x (arrange_trees xs) ∙ ap (insert_text (text x)) (arrange_texts xs)

insert_depth : (x : RawTree) (ys : List RawTree) → depth_list (insert_tree x ys) ≡ depth_list (x ∷ ys)
unfolding insert_tree
insert_depth x [] = refl
insert_depth x (y ∷ ys) =
    elim (padded_less (text x) (text y)) as
    (λ b. depth_list (elim b [ true ↦ x ∷ y ∷ ys | false ↦ y ∷ insert_tree x ys ]) ≡ depth_list (x ∷ y ∷ ys))
    [ true ↦ refl | false ↦ omega (arith, insert_depth x ys) ]

pub arrange_depth : (xs : List RawTree) → depth_list (arrange_trees xs) ≡ depth_list xs
unfolding arrange_trees
arrange_depth [] = refl
arrange_depth (x ∷ xs) = insert_depth x (arrange_trees xs) ∙ ap (λ n. max (tree_depth x) n) (arrange_depth xs)

insert_tagged : (x : RawTree) (ys : List RawTree) → Tagged x → TaggedList ys → TaggedList (insert_tree x ys)
unfolding insert_tree
insert_tagged x [] h k = (h, tt)
insert_tagged x (y ∷ ys) h k =
    elim (padded_less (text x) (text y)) as
    (λ b. TaggedList (elim b [ true ↦ x ∷ y ∷ ys | false ↦ y ∷ insert_tree x ys ]))
    [ true ↦ (h, k) | false ↦ (k.0, insert_tagged x ys h k.1) ]

pub arrange_tagged : (xs : List RawTree) → TaggedList xs → TaggedList (arrange_trees xs)
unfolding arrange_trees
arrange_tagged [] h = tt
arrange_tagged (x ∷ xs) h = insert_tagged x (arrange_trees xs) h.0 (arrange_tagged xs h.1)

insert_paired : {B : Type 0} (R : RawTree → B → Type 0) (x : RawTree) (ys : List RawTree) (bs : List B)
    → Paired R (x ∷ ys) bs → Paired R (insert_tree x ys) bs
unfolding insert_tree
insert_paired R x [] bs h = h
insert_paired {B} R x (y ∷ ys) bs h =
    let q = h.4 in
    let s = pick_swap h.0 q.0 bs h.1 q.1 h.2 q.2 in
    let ih = insert_paired R x ys s.between (h.0, q.1, s.second, h.3, q.4) in
    elim (padded_less (text x) (text y)) as
    (λ b. Paired R (elim b [ true ↦ x ∷ y ∷ ys | false ↦ y ∷ insert_tree x ys ]) bs)
    [ true ↦ h | false ↦ (q.0, s.between, s.first, q.3, ih) ]

pub arrange_paired : {B : Type 0} (R : RawTree → B → Type 0) (xs : List RawTree) (bs : List B) → Paired R xs bs
    → Paired R (arrange_trees xs) bs
unfolding arrange_trees
arrange_paired R [] bs h = h
arrange_paired R (x ∷ xs) bs h =
    insert_paired R x (arrange_trees xs) bs (h.0, h.1, h.2, h.3, arrange_paired R xs h.1 h.4)
