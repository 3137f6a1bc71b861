-- No layout begins another one.
use Rattle.std.proofs.Common.{◌≡◌, ℕ, ⊎_elim, Bool, true, false, List, [], ◌∷◌, ◌++◌, length, refl, sym, ◌∙◌, ap, append_assoc, append-nil, ap₂}
use Rattle.std.proofs.lemmas.List.{append_cancel_left}
use Rattle.x690_laws.proofs.LayoutsOfHeaders.{identifier_alone, identifier_starts, split_alone, len_alone, len_definite, Starts, along}
use Rattle.tlv_core.specs.Identifier.{IsTag, Tag, identifier}
use Rattle.x690.specs.Layouts.{AllLaidOut, Constructed, Definite, FirstTree, Indefinite, LaidOut, NoTrees, Primitive, RawTree, RawTrees}
use Rattle.x690_laws.specs.LayoutLaws.{NoneBeginsAnother}

pub record Alike (t u : Tag) (f g : Bool) (o p b c x y : List ℕ) : Type 0 where
  pub tags : t ≡ u
  pub forms : f ≡ g
  pub contents : o ≡ p
  pub texts : b ≡ c
  pub rests : x ≡ y

pub definite_alone : (t u : Tag) (f g : Bool) (o p b c x y : List ℕ) → IsTag t → IsTag u → Definite t f o b
    → Definite u g p c → b ++ x ≡ c ++ y → Alike t u f g o p b c x y
definite_alone t u f g o p b c x y h k d e q =
    let q₁ : (identifier t f ++ (d.length_octets ++ o)) ++ x ≡ (identifier u g ++ (e.length_octets ++ p)) ++ y =
    along x y d.is e.is q in
    let q₂ : identifier t f ++ (d.length_octets ++ (o ++ x)) ≡ identifier u g ++ (e.length_octets ++ (p ++ y)) =
    simp append_assoc at q₁ in
    let i = identifier_alone t u f g (d.length_octets ++ (o ++ x)) (e.length_octets ++ (p ++ y)) q₂ in
    let l = len_alone (length o) (length p) d.length_octets e.length_octets (o ++ x) (p ++ y) d.spells e.spells i.2 in
    let s = split_alone o p x y l.0 l.2 in
    record { tags = i.0; forms = i.1; contents = s.0; texts = cc; rests = s.1 }

-- what stands after the members of a container: nothing, or the octets of its end
pub ContainerEnds : List ℕ → Type 0
ContainerEnds [] = Unit {0}
ContainerEnds (x ∷ s) = x ≡ 0

-- a layout begins with an octet that isn't 0
pub lay_starts : (r : RawTree) (b : List ℕ) → LaidOut r b → Starts b
unfolding LaidOut
lay_starts (Primitive t o) b h = let s = identifier_starts t false h.0 in
    record {
      first = s.first;
      rest = s.rest ++ (h.1.length_octets ++ o);
      is = h.1.is ∙ rw s.is refl;
      nonzero = s.nonzero;
    }
lay_starts (Constructed t rs) b h = let s = identifier_starts t true h.0 in
    ⊎_elim (λ d. record {
      first = s.first;
      rest = s.rest ++ (d.length_octets ++ h.1.0);
      is = d.is ∙ rw s.is refl;
      nonzero = s.nonzero;
    })
    (λ d. record {
      first = s.first;
      rest = s.rest ++ (128 ∷ (h.1.0 ++ (0 ∷ 0 ∷ [])));
      is = d.is ∙ rw s.is refl;
      nonzero = s.nonzero;
    })
    h.1.2

no_start : (b x y : List ℕ) → Starts b → b ++ x ≡ y → ContainerEnds y → ⊥
unfolding ContainerEnds
no_start b x [] s e n = let q : (s.first ∷ s.rest) ++ x ≡ [] = sym (ap (λ v. v ++ x) s.is) ∙ e in cc
no_start b x (a ∷ y) s e n = let q : (s.first ∷ s.rest) ++ x ≡ a ∷ y = sym (ap (λ v. v ++ x) s.is) ∙ e in s.nonzero cc

-- the identifiers of two layouts, one of them indefinite
mixed : (t u : Tag) (f g : Bool) (x y : List ℕ) (b c x' y' : List ℕ) → IsTag t → IsTag u → b ≡ identifier t f ++ x
    → c ≡ identifier u g ++ y → b ++ x' ≡ c ++ y' → (t ≡ u) × (f ≡ g) × (x ++ x' ≡ y ++ y')
mixed t u f g x y b c x' y' h k p q e =
    let e' : (identifier t f ++ x) ++ x' ≡ (identifier u g ++ y) ++ y' = along x' y' p q e in
    identifier_alone t u f g (x ++ x') (y ++ y') (simp append_assoc at e')

definite_indefinite : (t u : Tag) (f : Bool) (o p b c x y : List ℕ) → IsTag t → IsTag u → Definite t f o b
    → Indefinite u p c → b ++ x ≡ c ++ y → ⊥
definite_indefinite t u f o p b c x y h k d e q =
    let m = mixed t u f true (d.length_octets ++ o) (128 ∷ (p ++ (0 ∷ 0 ∷ []))) b c x y h k d.is e.is q in
    len_definite (length o) d.length_octets (o ++ x) ((p ++ (0 ∷ 0 ∷ [])) ++ y) d.spells
    (sym (append_assoc d.length_octets o x) ∙ m.2)

mutual
  unfolding LaidOut ContainerEnds

  pub tree_alone : (r s : RawTree) (b c x y : List ℕ) → LaidOut r b → LaidOut s c → b ++ x ≡ c ++ y → (r ≡ s) × (b ≡ c)
  tree_alone (Primitive t o) (Primitive u p) b c x y h k e =
      let a = definite_alone t u false false o p b c x y h.0 k.0 h.1 k.1 e in (cc, a.texts)
  tree_alone (Primitive t o) (Constructed u ss) b c x y h k e = ⊎_elim
      (λ d.
      let a = definite_alone t u false true o k.1.0 b c x y h.0 k.0 h.1 d e in
      absurd (let q : false ≡ true = a.forms in cc))
      (λ d. absurd (definite_indefinite t u false o k.1.0 b c x y h.0 k.0 h.1 d e))
      k.1.2
  tree_alone (Constructed t rs) (Primitive u p) b c x y h k e = ⊎_elim
      (λ d.
      let a = definite_alone t u true false h.1.0 p b c x y h.0 k.0 d k.1 e in
      absurd (let q : true ≡ false = a.forms in cc))
      (λ d. absurd (definite_indefinite u t false p h.1.0 c b y x k.0 h.0 k.1 d (sym e)))
      h.1.2
  tree_alone (Constructed t rs) (Constructed u ss) b c x y h k e = ⊎_elim
      (λ d. ⊎_elim
      (λ f.
      let a = definite_alone t u true true h.1.0 k.1.0 b c x y h.0 k.0 d f e in
      let m = trees_alone rs ss h.1.0 k.1.0 [] [] h.1.1 k.1.1 (ap (λ v. v ++ []) a.contents) tt tt in
      (let p = m.0 in let q = a.tags in cc, a.texts))
      (λ f. absurd (definite_indefinite t u true h.1.0 k.1.0 b c x y h.0 k.0 d f e))
      k.1.2)
      (λ d. ⊎_elim
      (λ f. absurd (definite_indefinite u t true k.1.0 h.1.0 c b y x k.0 h.0 f d (sym e)))
      (λ f.
      let a =
      mixed t u true true (128 ∷ (h.1.0 ++ (0 ∷ 0 ∷ []))) (128 ∷ (k.1.0 ++ (0 ∷ 0 ∷ []))) b c x y h.0 k.0 d.is f.is e in
      let w : (h.1.0 ++ (0 ∷ 0 ∷ [])) ++ x ≡ (k.1.0 ++ (0 ∷ 0 ∷ [])) ++ y = let z = a.2 in cc in
      let m = trees_alone rs ss h.1.0 k.1.0 (0 ∷ 0 ∷ x) (0 ∷ 0 ∷ y) h.1.1 k.1.1 (simp append_assoc at w) refl refl in
      (let p = m.0 in let q = a.0 in cc, let p = m.1 in let q = a.0 in let i = d.is in let j = f.is in cc))
      k.1.2)
      h.1.2

  pub trees_alone : (rs ss : RawTrees) (b c x y : List ℕ) → AllLaidOut rs b → AllLaidOut ss c → b ++ x ≡ c ++ y
      → ContainerEnds x → ContainerEnds y → (rs ≡ ss) × (b ≡ c)
  trees_alone NoTrees NoTrees b c x y h k e m n = (refl, h ∙ sym k)
  trees_alone NoTrees (FirstTree s ss) b c x y h k e m n =
      absurd (no_start k.0 (k.1 ++ y) x (lay_starts s k.0 k.2)
      (sym (append_assoc k.0 k.1 y) ∙ sym (ap (λ v. v ++ y) k.4) ∙ sym e ∙ ap (λ v. v ++ x) h) m)
  trees_alone (FirstTree r rs) NoTrees b c x y h k e m n =
      absurd (no_start h.0 (h.1 ++ x) y (lay_starts r h.0 h.2)
      (sym (append_assoc h.0 h.1 x) ∙ sym (ap (λ v. v ++ x) h.4) ∙ e ∙ ap (λ v. v ++ y) k) n)
  trees_alone (FirstTree r rs) (FirstTree s ss) b c x y h k e m n =
      let q₁ : (h.0 ++ h.1) ++ x ≡ (k.0 ++ k.1) ++ y = along x y h.4 k.4 e in
      let q₂ : h.0 ++ (h.1 ++ x) ≡ k.0 ++ (k.1 ++ y) = simp append_assoc at q₁ in
      let one = tree_alone r s h.0 k.0 (h.1 ++ x) (k.1 ++ y) h.2 k.2 q₂ in
      let rest : h.1 ++ x ≡ k.1 ++ y =
      append_cancel_left h.0 (h.1 ++ x) (k.1 ++ y) (q₂ ∙ ap (λ v. v ++ (k.1 ++ y)) (sym one.1)) in
      let all = trees_alone rs ss h.1 k.1 x y h.3 k.3 rest m n in
      (let p = one.0 in let q = all.0 in cc, h.4 ∙ ap₂ (λ v w. v ++ w) one.1 all.1 ∙ sym k.4)

pub prefix : NoneBeginsAnother
prefix r s b c x h k e =
    let both = tree_alone r s b c x [] h k (sym e ∙ sym (append-nil c)) in (both.1, both.0)
