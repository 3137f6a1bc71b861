-- Same is an equivalence.
use Rattle.std.proofs.Common.{inl, List, [], ◌∷◌, refl, sym, ◌∙◌, subst}
use Rattle.x690_laws.proofs.ListsPaired.{paired_take, paired_add}
use Rattle.x690.specs.Lists.{Paired}
use Rattle.x690.specs.Values.{FirstMember, Leaf, NoMembers, Same, SameInPlace, SamePaired, Sequence, SetOf, Value, Values, members}
use Rattle.x690_laws.specs.ValueLaws.{Equivalence}

pub bag_paired : (vs : Values) (ws : List Value) → SamePaired vs ws → Paired Same (members vs) ws
unfolding Same
bag_paired NoMembers ws h = h
bag_paired (FirstMember v vs) ws h = (h.0, h.1, h.2, h.3, bag_paired vs h.1 h.4)

pub paired_bag : (vs : Values) (ws : List Value) → Paired Same (members vs) ws → SamePaired vs ws
unfolding Same
paired_bag NoMembers ws h = h
paired_bag (FirstMember v vs) ws h = (h.0, h.1, h.2, h.3, paired_bag vs h.1 h.4)

mutual
  unfolding Same

  pub same_refl : (v : Value) → Same v v
  same_refl (Leaf t o) = (refl, refl)
  same_refl (Sequence t vs) = (refl, row_refl vs)
  same_refl (SetOf t vs) = (refl, bag_refl vs)

  row_refl : (vs : Values) → SameInPlace vs vs
  row_refl NoMembers = tt
  row_refl (FirstMember v vs) = (same_refl v, row_refl vs)

  bag_refl : (vs : Values) → SamePaired vs (members vs)
  bag_refl NoMembers = refl
  bag_refl (FirstMember v vs) = (v, members vs, inl (refl, refl), same_refl v, bag_refl vs)

mutual
  unfolding Same

  pub same_sym : (v w : Value) → Same v w → Same w v
  same_sym (Leaf t o) (Leaf u p) h = (sym h.0, sym h.1)
  same_sym (Leaf t o) (Sequence u ws) h = absurd h
  same_sym (Leaf t o) (SetOf u ws) h = absurd h
  same_sym (Sequence t vs) (Leaf u p) h = absurd h
  same_sym (Sequence t vs) (Sequence u ws) h = (sym h.0, row_sym vs ws h.1)
  same_sym (Sequence t vs) (SetOf u ws) h = absurd h
  same_sym (SetOf t vs) (Leaf u p) h = absurd h
  same_sym (SetOf t vs) (Sequence u ws) h = absurd h
  same_sym (SetOf t vs) (SetOf u ws) h = (sym h.0, paired_bag ws (members vs) (bag_sym vs (members ws) h.1))

  row_sym : (vs ws : Values) → SameInPlace vs ws → SameInPlace ws vs
  row_sym NoMembers NoMembers h = tt
  row_sym NoMembers (FirstMember w ws) h = absurd h
  row_sym (FirstMember v vs) NoMembers h = absurd h
  row_sym (FirstMember v vs) (FirstMember w ws) h = (same_sym v w h.0, row_sym vs ws h.1)

  bag_sym : (vs : Values) (ws : List Value) → SamePaired vs ws → Paired Same ws (members vs)
  bag_sym NoMembers ws h = subst (λ x. Paired Same x []) (sym h) refl
  bag_sym (FirstMember v vs) ws h =
      paired_add Same h.0 v ws h.1 (v ∷ members vs) (members vs) h.2 (inl (refl, refl)) (same_sym v h.0 h.3)
      (bag_sym vs h.1 h.4)

mutual
  unfolding Same

  pub same_trans : (u v w : Value) → Same u v → Same v w → Same u w
  same_trans (Leaf t o) (Leaf u p) (Leaf x q) h k = (h.0 ∙ k.0, h.1 ∙ k.1)
  same_trans (Leaf t o) (Leaf u p) (Sequence x ws) h k = absurd k
  same_trans (Leaf t o) (Leaf u p) (SetOf x ws) h k = absurd k
  same_trans (Leaf t o) (Sequence u ws) w h k = absurd h
  same_trans (Leaf t o) (SetOf u ws) w h k = absurd h
  same_trans (Sequence t us) (Leaf u p) w h k = absurd h
  same_trans (Sequence t us) (Sequence u vs) (Leaf x q) h k = absurd k
  same_trans (Sequence t us) (Sequence u vs) (Sequence x ws) h k = (h.0 ∙ k.0, row_trans us vs ws h.1 k.1)
  same_trans (Sequence t us) (Sequence u vs) (SetOf x ws) h k = absurd k
  same_trans (Sequence t us) (SetOf u vs) w h k = absurd h
  same_trans (SetOf t us) (Leaf u p) w h k = absurd h
  same_trans (SetOf t us) (Sequence u vs) w h k = absurd h
  same_trans (SetOf t us) (SetOf u vs) (Leaf x q) h k = absurd k
  same_trans (SetOf t us) (SetOf u vs) (Sequence x ws) h k = absurd k
  same_trans (SetOf t us) (SetOf u vs) (SetOf x ws) h k =
      (h.0 ∙ k.0, bag_trans us (members vs) (members ws) h.1 (bag_paired vs (members ws) k.1))

  row_trans : (us vs ws : Values) → SameInPlace us vs → SameInPlace vs ws → SameInPlace us ws
  row_trans NoMembers NoMembers ws h k = k
  row_trans NoMembers (FirstMember v vs) ws h k = absurd h
  row_trans (FirstMember u us) NoMembers ws h k = absurd h
  row_trans (FirstMember u us) (FirstMember v vs) NoMembers h k = absurd k
  row_trans (FirstMember u us) (FirstMember v vs) (FirstMember w ws) h k =
      (same_trans u v w h.0 k.0, row_trans us vs ws h.1 k.1)

  bag_trans : (us : Values) (vs ws : List Value) → SamePaired us vs → Paired Same vs ws → SamePaired us ws
  bag_trans NoMembers vs ws h k = let k' = subst (λ x. Paired Same x ws) h k in k'
  bag_trans (FirstMember u us) vs ws h k =
      let t = paired_take Same h.0 vs h.1 ws h.2 k in
      (t.partner, t.left, t.choose, same_trans u h.0 t.partner h.3 t.related, bag_trans us h.1 t.left h.4 t.paired)

pub equivalence : Equivalence
equivalence = record { same_refl = same_refl; same_sym = same_sym; same_trans = same_trans }
