-- DER texts are layouts, so none begins another, and the texts of a SET OF have one arrangement.
use Rattle.std.proofs.Common.{◌≡◌, ◌||◌, ◌&&◌, ℕ, zero, suc, ◌+◌, ◌*◌, ◌/◌, ◌%◌, ◌^◌, ◌⊎◌, ◌<◌, ◌≤◌, ◌==◌, nat_lt, Bool, true, false, inl, inr, ⊎_elim, List, [], ◌∷◌, ◌++◌, map, length, refl, sym, ◌∙◌, ap, ap₂, subst, arith, pow-suc, lit<, append_assoc, append-nil}
use Rattle.std.proofs.lemmas.Bool.Decides.{nat_tests}
use Rattle.x690_laws.proofs.LayoutsOfHeaders.{identifier_alone, split_alone, along, branch}
use Rattle.x690_laws.proofs.TextOrder.{bool_cases, lt_asym, ge_trans, lt_trans, ties}
use Rattle.tlv_core.specs.Identifier.{Tag, identifier}
use Rattle.tlv_core.specs.Length.{big_endian, number_octets, shortest_length}
use Rattle.x690.specs.DerTexts.{Ascends, arrange, der, der_element, der_texts, insert_text, padded_less}
use Rattle.x690.specs.Lists.{Paired, Picked, join}
use Rattle.x690.specs.Values.{FirstMember, Leaf, NoMembers, Same, SameInPlace, SamePaired, Sequence, SetOf, Value, Values, members}
use Rattle.x690_laws.specs.ValueLaws.{Arrangement, SameHaveOneText, plain_less}

-- big-endian octets

big_endian_append : (high : ℕ) (s t : List ℕ) → big_endian high (s ++ t) ≡ big_endian (big_endian high s) t
big_endian_append high [] t = refl
big_endian_append high (x ∷ s) t = big_endian_append (high * 256 + x) s t

pub number_value : (k n : ℕ) → n < 256 ^ k → big_endian 0 (number_octets k n) ≡ n
unfolding number_octets
number_value zero n h = omega arith
number_value (suc k) n h =
    let small : n / 256 < 256 ^ k = omega (arith, pow-suc 256 k) in go (n == 0) refl (number_value k (n / 256) small)
  where
    go : (b : Bool) → (n == 0) ≡ b → big_endian 0 (number_octets k (n / 256)) ≡ n / 256
        → big_endian 0 (branch b [] (number_octets k (n / 256) ++ ((n % 256) ∷ []))) ≡ n
    go true e ih = grind (arith, nat_tests)
    go false e ih =
        big_endian_append 0 (number_octets k (n / 256)) ((n % 256) ∷ [])
        ∙ (let q : big_endian 0 (number_octets k (n / 256)) * 256 + n % 256 ≡ n = omega arith in q)

pub below_power : (n : ℕ) → n < 256 ^ n
below_power zero = lit< tt
below_power (suc n) = let ih = below_power n in omega (arith, pow-suc 256 n)

-- a length stands alone, and tells its number

pub record IsBrief (n : ℕ) : Type 0 where
  pub small : n < 128
  pub is : shortest_length n ≡ n ∷ []

pub record IsCounted (n : ℕ) : Type 0 where
  pub large : 128 ≤ n
  pub is : shortest_length n ≡ (128 + length (number_octets n n)) ∷ number_octets n n

pub shortest_cases : (n : ℕ) → IsBrief n ⊎ IsCounted n
unfolding shortest_length
shortest_cases n = go (nat_lt n 128) refl
  where
    go : (b : Bool) → nat_lt n 128 ≡ b → IsBrief n ⊎ IsCounted n
    go true e = inl (record { small = grind (arith, nat_tests); is = rw (e, shortest_length) refl })
    go false e = inr (record { large = grind (arith, nat_tests); is = rw (e, shortest_length) refl })

pub shortest_alone : (m n : ℕ) (x y : List ℕ) → shortest_length m ++ x ≡ shortest_length n ++ y → (m ≡ n) × (x ≡ y)
shortest_alone m n x y e = ⊎_elim
    (λ a. ⊎_elim
    (λ b. let e' : (m ∷ []) ++ x ≡ (n ∷ []) ++ y = along x y a.is b.is e in (cc, cc))
    (λ b.
    let e' : (m ∷ []) ++ x ≡ ((128 + length (number_octets n n)) ∷ number_octets n n) ++ y = along x y a.is b.is e in
    let q : m ≡ 128 + length (number_octets n n) = cc in absurd (omega arith))
    (shortest_cases n))
    (λ a. ⊎_elim
    (λ b.
    let e' : ((128 + length (number_octets m m)) ∷ number_octets m m) ++ x ≡ (n ∷ []) ++ y = along x y a.is b.is e in
    let q : n ≡ 128 + length (number_octets m m) = cc in absurd (omega arith))
    (λ b.
    let e' : ((128 + length (number_octets m m)) ∷ number_octets m m) ++ x
    ≡ ((128 + length (number_octets n n)) ∷ number_octets n n) ++ y = along x y a.is b.is e in
    let q : 128 + length (number_octets m m) ≡ 128 + length (number_octets n n) = cc in
    let r : number_octets m m ++ x ≡ number_octets n n ++ y = cc in
    let s = split_alone (number_octets m m) (number_octets n n) x y (omega arith) r in
    (sym (number_value m m (below_power m)) ∙ ap (big_endian 0) s.0 ∙ number_value n n (below_power n), s.1))
    (shortest_cases n))
    (shortest_cases m)

-- an element stands alone, and tells its tag, form and contents

pub record SameElement (t u : Tag) (f g : Bool) (c d x y : List ℕ) : Type 0 where
  pub tags : t ≡ u
  pub forms : f ≡ g
  pub contents : c ≡ d
  pub rests : x ≡ y

pub element_alone : (t u : Tag) (f g : Bool) (c d x y : List ℕ) → der_element t f c ++ x ≡ der_element u g d ++ y
    → SameElement t u f g c d x y
unfolding der_element
element_alone t u f g c d x y e =
    let e' : identifier t f ++ (shortest_length (length c) ++ (c ++ x))
    ≡ identifier u g ++ (shortest_length (length d) ++ (d ++ y)) = simp append_assoc at e in
    let i =
    identifier_alone t u f g (shortest_length (length c) ++ (c ++ x)) (shortest_length (length d) ++ (d ++ y)) e' in
    let l = shortest_alone (length c) (length d) (c ++ x) (d ++ y) i.2 in
    let s = split_alone c d x y l.0 l.1 in
    record { tags = i.0; forms = i.1; contents = s.0; rests = s.1 }

-- texts of elements

pub record IsText (x : List ℕ) : Type 0 where
  pub tag : Tag
  pub form : Bool
  pub contents : List ℕ
  pub is : x ≡ der_element tag form contents

pub element_text : (t : Tag) (f : Bool) (c : List ℕ) → IsText (der_element t f c)
element_text t f c = record { tag = t; form = f; contents = c; is = refl }

abbrev pub Texts : List (List ℕ) → Type 0
Texts [] = Unit {0}
Texts (x ∷ xs) = IsText x × Texts xs

pub der_text : (v : Value) → IsText (der v)
unfolding der
der_text (Leaf t o) = element_text t false o
der_text (Sequence t vs) = element_text t true (join (der_texts vs))
der_text (SetOf t vs) = element_text t true (join (arrange (der_texts vs)))

pub ders_texts : (vs : Values) → Texts (der_texts vs)
unfolding der
ders_texts NoMembers = tt
ders_texts (FirstMember v vs) = (der_text v, ders_texts vs)

-- no text begins another one
pub text_front : (x y z : List ℕ) → IsText x → IsText y → y ≡ x ++ z → x ≡ y
text_front x y z h k e =
    let e' : der_element h.tag h.form h.contents ++ z ≡ der_element k.tag k.form k.contents ++ [] =
    ap (λ v. v ++ z) (sym h.is) ∙ sym e ∙ k.is ∙ sym (append-nil (der_element k.tag k.form k.contents)) in
    let a = element_alone h.tag k.tag h.form k.form h.contents k.contents z [] e' in
    sym (append-nil x) ∙ ap (λ v. x ++ v) (sym a.rests) ∙ sym e

-- texts that tie are equal
pub text_ties : (x y : List ℕ) → IsText x → IsText y → padded_less x y ≡ false → padded_less y x ≡ false → x ≡ y
text_ties x y h k l m = ⊎_elim (λ z. text_front x y z.0 h k z.1) (λ z. sym (text_front y x z.0 k h z.1)) (ties x y l m)

-- insertion

insert_before : (x y : List ℕ) (ys : List (List ℕ)) → padded_less x y ≡ true → insert_text x (y ∷ ys) ≡ x ∷ y ∷ ys
unfolding insert_text
insert_before x y ys h = rw h refl

insert_after : (x y : List ℕ) (ys : List (List ℕ)) → padded_less x y ≡ false
    → insert_text x (y ∷ ys) ≡ y ∷ insert_text x ys
unfolding insert_text
insert_after x y ys h = rw h refl

insert_one : (x : List ℕ) → insert_text x [] ≡ x ∷ []
unfolding insert_text
insert_one x = refl

insert_front : (x y : List ℕ) (zs : List (List ℕ)) → IsText x → IsText y → insert_text x zs ≡ x ∷ zs
    → insert_text y zs ≡ y ∷ zs → insert_text x (y ∷ zs) ≡ insert_text y (x ∷ zs)
insert_front x y zs h k a b = ⊎_elim
    (λ l. let p = insert_before x y zs l in let q = insert_after y x zs (lt_asym x y l) in cc)
    (λ l. let p = insert_after x y zs l in ⊎_elim
    (λ m. let q = insert_before y x zs m in cc)
    (λ m. let q = insert_after y x zs m in let e = text_ties x y h k l m in cc)
    (bool_cases (padded_less y x)))
    (bool_cases (padded_less x y))

not_before : (x y z : List ℕ) → padded_less x z ≡ true → padded_less y z ≡ false → padded_less y x ≡ false
not_before x y z h k = ⊎_elim (λ l. let m = lt_trans y x z l h in cc) (λ l. l) (bool_cases (padded_less y x))

pub insert_comm : (x y : List ℕ) (zs : List (List ℕ)) → IsText x → IsText y
    → insert_text x (insert_text y zs) ≡ insert_text y (insert_text x zs)
insert_comm x y [] h k = rw (insert_one y, insert_one x) (insert_front x y [] h k (insert_one x) (insert_one y))
insert_comm x y (z ∷ zs) h k = ⊎_elim
    (λ a. ⊎_elim
    (λ b.
    let p = insert_before x z zs a in let q = insert_before y z zs b in let f = insert_front x y (z ∷ zs) h k p q in cc)
    (λ b.
    let p = insert_before x z zs a in let q = insert_after y z zs b in
    let r = insert_before x z (insert_text y zs) a in
    let s = insert_after y x (z ∷ zs) (not_before x y z a b) in cc)
    (bool_cases (padded_less y z)))
    (λ a. ⊎_elim
    (λ b.
    let p = insert_after x z zs a in let q = insert_before y z zs b in
    let r = insert_before y z (insert_text x zs) b in
    let s = insert_after x y (z ∷ zs) (not_before y x z b a) in cc)
    (λ b.
    let p = insert_after x z zs a in let q = insert_after y z zs b in
    let r = insert_after x z (insert_text y zs) a in let s = insert_after y z (insert_text x zs) b in
    let ih = insert_comm x y zs h k in cc)
    (bool_cases (padded_less y z)))
    (bool_cases (padded_less x z))

arrange_more : (x : List ℕ) (xs : List (List ℕ)) → arrange (x ∷ xs) ≡ insert_text x (arrange xs)
unfolding arrange
arrange_more x xs = refl

-- the arrangement doesn't depend on the order
pub arrange_pick : (x : List ℕ) (ys rest : List (List ℕ)) → Texts ys → Picked x ys rest
    → arrange ys ≡ insert_text x (arrange rest)
arrange_pick x [] rest h p = absurd p
arrange_pick x (y ∷ ys) rest h p = ⊎_elim
    (λ a. arrange_more y ys ∙ ap₂ insert_text (sym a.0) (ap arrange (sym a.1)))
    (λ a.
    let ih = arrange_pick x ys a.0 h.1 a.2 in
    let c = insert_comm y x (arrange a.0) h.0 (pick_text x ys a.0 h.1 a.2) in
    let m = arrange_more y ys in let n = arrange_more y a.0 in let e = a.1 in cc)
    p
  where
    pick_text : (x : List ℕ) (ys rest : List (List ℕ)) → Texts ys → Picked x ys rest → IsText x
    pick_text x [] rest h p = absurd p
    pick_text x (y ∷ ys) rest h p = ⊎_elim (λ a. subst IsText (sym a.0) h.0) (λ a. pick_text x ys a.0 h.1 a.2) p

pick_texts : (x : List ℕ) (ys rest : List (List ℕ)) → Texts ys → Picked x ys rest → Texts rest
pick_texts x [] rest h p = absurd p
pick_texts x (y ∷ ys) rest h p =
    ⊎_elim (λ a. subst Texts (sym a.1) h.1) (λ a. subst Texts (sym a.1) (h.0, pick_texts x ys a.0 h.1 a.2)) p

pub arrange_paired : (xs ys : List (List ℕ)) → Texts ys → Paired (λ x y. x ≡ y) xs ys → arrange xs ≡ arrange ys
arrange_paired [] ys h p = ap arrange (sym p)
arrange_paired (x ∷ xs) ys h p =
    let ih = arrange_paired xs p.1 (pick_texts p.0 ys p.1 h p.2) p.4 in
    let q = arrange_pick p.0 ys p.1 h p.2 in
    let m = arrange_more x xs in let e = p.3 in cc

-- an ascending list is its own arrangement

insert_least : (x : List ℕ) (zs : List (List ℕ)) → IsText x → Texts zs → Ascends (x ∷ zs) → insert_text x zs ≡ x ∷ zs
insert_least x [] h k a = insert_one x
insert_least x (z ∷ zs) h k a = ⊎_elim
    (λ l. insert_before x z zs l)
    (λ l.
    let e = text_ties x z h k.0 l a.0 in
    let ih = insert_least x zs h k.1 (subst (λ v. Ascends (v ∷ zs)) (sym e) a.1) in
    let q = insert_after x z zs l in cc)
    (bool_cases (padded_less x z))

arrange_none : arrange [] ≡ []
unfolding arrange
arrange_none = refl

arrange_single : (x : List ℕ) → arrange (x ∷ []) ≡ x ∷ []
unfolding arrange insert_text
arrange_single x = refl

pub arrange_ascends : (xs : List (List ℕ)) → Texts xs → Ascends xs → arrange xs ≡ xs
arrange_ascends [] h a = arrange_none
arrange_ascends (x ∷ []) h a = arrange_single x
arrange_ascends (x ∷ y ∷ ys) h a =
    let ih = arrange_ascends (y ∷ ys) h.1 a.1 in
    let q = insert_least x (y ∷ ys) h.0 h.1 a in
    let m = arrange_more x (y ∷ ys) in cc

texts_paired : (xs ys : List (List ℕ)) → Texts ys → Paired (λ x y. x ≡ y) xs ys → Texts xs
texts_paired [] ys h p = tt
texts_paired (x ∷ xs) ys h p =
    (subst IsText (sym p.3) (picked p.0 ys p.1 h p.2), texts_paired xs p.1 (pick_texts p.0 ys p.1 h p.2) p.4)
  where
    picked : (x : List ℕ) (ys rest : List (List ℕ)) → Texts ys → Picked x ys rest → IsText x
    picked x [] rest h p = absurd p
    picked x (y ∷ ys) rest h p = ⊎_elim (λ a. subst IsText (sym a.0) h.0) (λ a. picked x ys a.0 h.1 a.2) p

pub one_arrangement : (vs : Values) (xs : List (List ℕ)) → Ascends xs → Paired (λ x y. x ≡ y) xs (der_texts vs)
    → xs ≡ arrange (der_texts vs)
one_arrangement vs xs a p =
    let t = ders_texts vs in
    sym (arrange_ascends xs (texts_paired xs (der_texts vs) t p) a) ∙ arrange_paired xs (der_texts vs) t p

-- neither list begins the other one, unless they are the same
plain_same : (x y : List ℕ) → ((z : List ℕ) → y ≡ x ++ z → x ≡ y) → ((z : List ℕ) → x ≡ y ++ z → y ≡ x)
    → padded_less x y ≡ plain_less x y
unfolding padded_less
plain_same [] [] f g = refl
plain_same [] (y ∷ ys) f g = let e : [] ≡ y ∷ ys = f (y ∷ ys) refl in cc
plain_same (x ∷ xs) [] f g = refl
plain_same (x ∷ xs) (y ∷ ys) f g =
    go (x == y) refl (λ e.
    plain_same xs ys (λ z h. behind x y xs ys (f z (front x y ys (xs ++ z) e h)))
    (λ z h. behind y x ys xs (g z (front y x xs (ys ++ z) (sym e) h))))
  where
    front : (a b : ℕ) (s t : List ℕ) → a ≡ b → s ≡ t → b ∷ s ≡ a ∷ t
    front a b s t e h = ap₂ (λ u v. u ∷ v) (sym e) h

    behind : (a b : ℕ) (s t : List ℕ) → a ∷ s ≡ b ∷ t → s ≡ t
    behind a b s t h = cc

    go : (b : Bool) → (x == y) ≡ b → (x ≡ y → padded_less xs ys ≡ plain_less xs ys)
        → nat_lt x y || (b && padded_less xs ys) ≡ nat_lt x y || (b && plain_less xs ys)
    go true e ih = ap (λ b. nat_lt x y || b) (ih (grind (arith, nat_tests)))
    go false e ih = refl

pub arrangement : Arrangement
arrangement = record {
  total = λ x y. ⊎_elim (λ l. inr (lt_asym x y l)) (λ l. inl l) (bool_cases (padded_less x y));
  transitive = λ x y z h k. ge_trans z y x k h;
  no_front = λ v w z e. text_front (der v) (der w) z (der_text v) (der_text w) e;
  no_ties = λ v w l m. text_ties (der v) (der w) (der_text v) (der_text w) l m;
  plain_order = λ v w.
      plain_same (der v) (der w) (λ z e. text_front (der v) (der w) z (der_text v) (der_text w) e)
      (λ z e. text_front (der w) (der v) z (der_text w) (der_text v) e);
  one_arrangement = one_arrangement;
}

-- values that are the same have one text

pub pick_map : {A B : Type 0} (f : A → B) (x : A) (ys rest : List A) → Picked x ys rest
    → Picked (f x) (map f ys) (map f rest)
pick_map f x [] rest p = absurd p
pick_map f x (y ∷ ys) rest p = ⊎_elim
    (λ a. inl (ap f a.0, ap (map f) a.1))
    (λ a. inr (map f a.0, ap (map f) a.1, pick_map f x ys a.0 a.2))
    p

pub ders_map : (vs : Values) → der_texts vs ≡ map der (members vs)
unfolding der
ders_map NoMembers = refl
ders_map (FirstMember v vs) = ap (λ s. der v ∷ s) (ders_map vs)

mutual
  unfolding Same der

  pub same_der : (v w : Value) → Same v w → der v ≡ der w
  same_der (Leaf t o) (Leaf u p) k = ap₂ (λ a b. der_element a false b) k.0 k.1
  same_der (Leaf t o) (Sequence u ws) k = absurd k
  same_der (Leaf t o) (SetOf u ws) k = absurd k
  same_der (Sequence t vs) (Leaf u p) k = absurd k
  same_der (Sequence t vs) (Sequence u ws) k = ap₂ (λ a b. der_element a true (join b)) k.0 (row_der vs ws k.1)
  same_der (Sequence t vs) (SetOf u ws) k = absurd k
  same_der (SetOf t vs) (Leaf u p) k = absurd k
  same_der (SetOf t vs) (Sequence u ws) k = absurd k
  same_der (SetOf t vs) (SetOf u ws) k =
      let p = bag_der vs (members ws) k.1 in
      ap₂ (λ a b. der_element a true (join b)) k.0
      (arrange_paired (der_texts vs) (der_texts ws) (ders_texts ws)
      (subst (λ x. Paired (λ x y. x ≡ y) (der_texts vs) x) (sym (ders_map ws)) p))

  row_der : (vs ws : Values) → SameInPlace vs ws → der_texts vs ≡ der_texts ws
  row_der NoMembers NoMembers k = refl
  row_der NoMembers (FirstMember w ws) k = absurd k
  row_der (FirstMember v vs) NoMembers k = absurd k
  row_der (FirstMember v vs) (FirstMember w ws) k = ap₂ (λ a b. a ∷ b) (same_der v w k.0) (row_der vs ws k.1)

  bag_der : (vs : Values) (ws : List Value) → SamePaired vs ws → Paired (λ x y. x ≡ y) (der_texts vs) (map der ws)
  bag_der NoMembers ws k = ap (map der) k
  bag_der (FirstMember v vs) ws k =
      (der k.0, map der k.1, pick_map der k.0 ws k.1 k.2, same_der v k.0 k.3, bag_der vs k.1 k.4)

pub canonical : SameHaveOneText
canonical v w s = same_der v w s
