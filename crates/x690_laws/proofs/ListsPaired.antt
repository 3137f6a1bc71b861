-- Pairings of two lists.
use Rattle.std.proofs.Common.{inl, inr, ⊎_elim, List, [], ◌∷◌, refl, sym, subst}
use Rattle.x690.specs.Lists.{Paired, Picked}

pub record Taken {A B : Type 0} (R : A → B → Type 0) (a : A) (as' : List A) (bs : List B) : Type 0 where
  pub partner : B
  pub left : List B
  pub choose : Picked partner bs left
  pub related : R a partner
  pub paired : Paired R as' left

-- a pick out of what a pick left: the two in the other order
pub record Swapped {A : Type 0} (x y : A) (zs rest : List A) : Type 0 where
  pub between : List A
  pub first : Picked y zs between
  pub second : Picked x between rest

pub pick_swap : {A : Type 0} (x y : A) (zs ys rest : List A) → Picked x zs ys → Picked y ys rest → Swapped x y zs rest
pick_swap x y [] ys rest h k = absurd h
pick_swap x y (z ∷ zs) ys rest h k = ⊎_elim
    (λ a. let k' = subst (λ v. Picked y v rest) a.1 k in
    record { between = z ∷ rest; first = inr (rest, refl, k'); second = inl (a.0, refl) })
    (λ b. ⊎_elim
    (λ c. record { between = zs; first = inl (c.0, refl); second = subst (λ v. Picked x zs v) (sym c.1) b.2 })
    (λ c. let s = pick_swap x y zs b.0 c.0 b.2 c.2 in
    record { between = z ∷ s.between; first = inr (s.between, refl, s.first); second = inr (c.0, c.1, s.second) })
    (let P : List _ → Type 0 = λ v. Picked y v rest in subst P b.1 k))
    h

-- the partner of a member that is taken out
pub paired_take : {A B : Type 0} (R : A → B → Type 0) (a : A) (xs rest : List A) (bs : List B) → Picked a xs rest
    → Paired R xs bs → Taken R a rest bs
paired_take R a [] rest bs h p = absurd h
paired_take R a (x ∷ xs) rest bs h p = ⊎_elim
    (λ e. record {
      partner = p.0;
      left = p.1;
      choose = p.2;
      related = subst (λ v. R v p.0) (sym e.0) p.3;
      paired = subst (λ v. Paired R v p.1) (sym e.1) p.4;
    })
    (λ f.
    let t = paired_take R a xs f.0 p.1 f.2 p.4 in
    let s = pick_swap p.0 t.partner bs p.1 t.left p.2 t.choose in
    record {
      partner = t.partner;
      left = s.between;
      choose = s.first;
      related = t.related;
      paired = subst (λ v. Paired R v s.between) (sym f.1) (p.0, t.left, s.second, p.3, t.paired);
    })
    h

-- one more pair
pub paired_add : {A B : Type 0} (R : A → B → Type 0) (a : A) (b : B) (xs rest : List A) (bs left : List B)
    → Picked a xs rest → Picked b bs left → R a b → Paired R rest left → Paired R xs bs
paired_add R a b [] rest bs left h k r p = absurd h
paired_add R a b (x ∷ xs) rest bs left h k r p = ⊎_elim
    (λ e. (b, left, k, subst (λ v. R v b) e.0 r, subst (λ v. Paired R v left) e.1 p))
    (λ f.
    let q = subst (λ v. Paired R v left) f.1 p in
    let s = pick_swap b q.0 bs left q.1 k q.2 in
    (q.0, s.between, s.first, q.3, paired_add R a b xs f.0 s.between q.1 f.2 s.second r q.4))
    h
