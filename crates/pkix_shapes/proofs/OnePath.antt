-- Of two paths to what is at fault, one goes on from the other: what comes before the element at fault is taken, and an
-- element that is taken has no fault.
use Rattle.std.proofs.Common.{◌≡◌, ◌∙◌, ◌+◌, ◌∷◌, ◌++◌, [], Bool, List, ap, arith, false, inl, inr, refl, suc, subst, sym, true, zero, ℕ}
use Rattle.tlv_core.specs.Identifier.{Tag}
use Rattle.tlv_core.specs.Limits.{Limits}
use Rattle.tlv_core.specs.declared.fault.Fault.{Fault}
use Rattle.x690.specs.Contents.{OctetString}
use Rattle.x690.specs.ContentsFaults.{After, MemberStands}
use Rattle.x690.specs.HeaderFaults.{Opens, Stands, StandsThen}
use Rattle.x690.specs.Lists.{Each, one_of}
use Rattle.x690.specs.Points.{Enclosing, EndsAt, NoContainer, outermost}
use Rattle.x690.specs.Premises.{Fair, FairFields}
use Rattle.x690.specs.ReadHeaders.{ElementStands}
use Rattle.x690.specs.Reading.{Done, Halted, Took}
use Rattle.x690.specs.Stops.{StopsBehind}
use Rattle.x690.specs.Takes.{Proper, Takes}
use Rattle.x690.specs.TypeTerms.{ChoiceType, ContainingType, Default, DefinedByType, EndOfFields, Fields, LeafType, OpenType, Optional, RefusedType, Required, RuledType, SequenceOfType, SequenceType, SetOfType, TypeTerm, fits_tag}
use Rattle.x690.specs.Values.{Leaf, Same, Value, leaf_at}
use Rattle.x690_laws.proofs.FaultsOfContents.{proper_inside}
use Rattle.x690_laws.proofs.FaultsExact.{exact, taken_is_behind}
use Rattle.x690_laws.proofs.FaultsOfHeaders.{stands_run}
use Rattle.x690_laws.proofs.ReadingOfHeaders.{done_on}
use Rattle.x690_laws.proofs.ReadingOfElements.{complete, complete_with, each_refl}
use Rattle.x690_laws.proofs.ReadingMembers.{opened_on}
use Rattle.x690_laws.proofs.ValuesOfTrees.{each_snoc, leaf_at_same}
use Rattle.x690_laws.proofs.TextsSpell.{begins_fits}
use Rattle.x690_laws.proofs.ValuesSame.{same_sym, same_trans}
use Rattle.x690_laws.proofs.ReadingSound.{type_took}
use Rattle.pkix_shapes.specs.FaultPaths.{Faulty, FaultyField, FaultyHere, FaultyMember, PassesOver}
use Rattle.pkix_shapes.specs.PathLaws.{Along, OnePath}
use Rattle.pkix_shapes.specs.Paths.{Path}
use Rattle.pkix_shapes.proofs.FaultPaths.{fault_paths_stop}

each_sym : (vs ws : List Value) → Each Same vs ws → Each Same ws vs
each_sym [] [] h = tt
each_sym [] (w ∷ ws) h = absurd h
each_sym (v ∷ vs) [] h = absurd h
each_sym (v ∷ vs) (w ∷ ws) h = (same_sym v w h.0, each_sym vs ws h.1)

around_none : Proper outermost
around_none e h = absurd (let x : NoContainer ≡ EndsAt e = h in cc)

not_both : (b : Bool) → b ≡ true → b ≡ false → ⊥
not_both b h g = let e : true ≡ false = sym h ∙ g in cc

-- one container opens at a place
one_opens : (l : Limits) (c : Enclosing) (form : Bool) (h : ℕ) (o : List ℕ) (i i' : Enclosing) (j j' : ℕ)
    (u u' : List ℕ)
    → Opens l c form h o i j u → Opens l c form h o i' j' u'
    → (P : Enclosing → ℕ → List ℕ → Type 0) → P i' j' u' → P i j u
one_opens l c form h o i i' j j' u u' x y P p =
    let e : Took i j u ≡ Took i' j' u' =
    sym (done_on i j u) ∙ sym (opened_on l c 0 form Done h o i j u x) ∙ opened_on l c 0 form Done h o i' j' u' y
    ∙ done_on i' j' u' in
    let e1 : i' ≡ i = cc in let e2 : j' ≡ j = cc in let e3 : u' ≡ u = cc in
    subst (λ w. P i j w) e3 (subst (λ w. P i w u') e2 (subst (λ w. P w j' u') e1 p))

-- one element is at a place
one_stands : (l : Limits) (c : Enclosing) (k : ℕ) (s : List ℕ) (t t' : Tag) (form form' : Bool) (j j' : ℕ)
    (u u' : List ℕ)
    → Stands l c k s t form j u → Stands l c k s t' form' j' u'
    → (P : Tag → Bool → ℕ → List ℕ → Type 0) → P t' form' j' u' → P t form j u
one_stands l c k s t t' form form' j j' u u' x y P p =
    let e : Took (ElementStands k t form) j u ≡ Took (ElementStands k t' form') j' u' =
    sym (stands_run l c k s t form j u x) ∙ stands_run l c k s t' form' j' u' y in
    let e1 : t' ≡ t = cc in let e2 : form' ≡ form = cc in let e3 : j' ≡ j = cc in let e4 : u' ≡ u = cc in
    subst (λ w. P t form j w) e4
    (subst (λ w. P t form w u') e3 (subst (λ w. P t w j' u') e2 (subst (λ w. P w form' j' u') e1 p)))

-- an element that is taken has no fault
apart : (l : Limits) (T : TypeTerm) (e e' : List Value) (c : Enclosing) (k : ℕ) (s : List ℕ) (t : Tag) (form : Bool)
    (j : ℕ) (u : List ℕ) (f : Fault) (v : Value) (n : ℕ) (r : List ℕ)
    → Fair T → Proper c → Each Same e' e
    → Stands l c k s t form j u → StopsBehind l T e c k t form j u f → Takes l T e' c k s v n r → ⊥
apart l T e e' c k s t form j u f v n r fr pr es st stops takes =
    let x = complete_with l T e' e c k s v n r fr pr es takes in
    let h = exact l T e c k s f fr pr (inl (inr (t, form, j, u, st, stops))) in
    let z : Halted f ≡ Took x.0 (k + n) r = sym h ∙ x.2 in
    absurd cc

-- one that is taken begins with a tag of its type
taken_fits : (l : Limits) (T : TypeTerm) (e : List Value) (c : Enclosing) (k : ℕ) (s : List ℕ) (t : Tag) (form : Bool)
    (j : ℕ) (u : List ℕ) (v : Value) (n : ℕ) (r : List ℕ)
    → Fair T → Proper c → Stands l c k s t form j u → Takes l T e c k s v n r → fits_tag T t ≡ true
taken_fits l T e c k s t form j u v n r fr pr st takes =
    let x = taken_is_behind l T e c k s t form j u v n r fr pr st takes in
    let m = type_took l T e c x.0 k t form j u (k + n) r st.is_tag st.depth_fits x.2 in
    sym (ap (fits_tag T) m.tagged) ∙ begins_fits l.depth T e m.tree x.0 m.fact

-- one element is taken at a place
one_takes : (l : Limits) (T : TypeTerm) (e e' : List Value) (c : Enclosing) (k : ℕ) (s : List ℕ) (v w : Value)
    (n m : ℕ) (r u : List ℕ)
    → Fair T → Proper c → Each Same e e' → Takes l T e c k s v n r → Takes l T e' c k s w m u
    → Same v w × (m ≡ n) × (u ≡ r)
one_takes l T e e' c k s v w n m r u fr pr es x y =
    let a = complete_with l T e e' c k s v n r fr pr es x in
    let b = complete l T e' c k s w m u fr pr y in
    let z : Took a.0 (k + n) r ≡ Took b.0 (k + m) u = sym a.2 ∙ b.2 in
    let z0 : b.0 ≡ a.0 = cc in let z1 : k + n ≡ k + m = cc in let z2 : u ≡ r = cc in
    (same_trans v a.0 w a.1 (same_sym w a.0 (subst (λ q. Same w q) z0 b.1)), omega arith, z2)

-- what holds at equal places
carry : (P : ℕ → List ℕ → Type 0) (n m : ℕ) (r u : List ℕ) → m ≡ n → u ≡ r → P m u → P n r
carry P n m r u h g p = subst (λ w. P n w) g (subst (λ q. P q u) h p)

leaf_same : (t : Tag) (o o' : List ℕ) → Same (Leaf t o) (Leaf t o') → o ≡ o'
unfolding Same
leaf_same t o o' h = h.1

-- an element that is at fault is not taken
here_taken : (l : Limits) (T : TypeTerm) (path : Path) (e e' : List Value) (c : Enclosing) (k : ℕ) (s : List ℕ)
    (f : Fault) (v : Value) (n : ℕ) (r : List ℕ)
    → Fair T → Proper c → Each Same e' e
    → FaultyHere l T c k s (λ i p t form j u. Faulty l T path e i p t form j u f) → Takes l T e' c k s v n r → ⊥
here_taken l T path e e' c k s f v n r fr pr es x takes =
    apart l T e e' c k s x.0 x.1 x.2 x.3 f v n r fr pr es x.4
    (fault_paths_stop l T path e c k x.0 x.1 x.2 x.3 f x.5.1) takes

-- nor passed over
here_passed : (l : Limits) (T : TypeTerm) (path : Path) (e : List Value) (c : Enclosing) (k : ℕ) (s : List ℕ)
    (f : Fault)
    (Then : Type 0)
    → FaultyHere l T c k s (λ i p t form j u. Faulty l T path e i p t form j u f) → PassesOver l T c k s Then → ⊥
here_passed l T path e c k s f Then x y =
    not_both (fits_tag T x.0) x.5.0
    (one_stands l c k s x.0 y.0 x.1 y.1 x.2 y.2 x.3 y.3 x.4 y.4 (λ t form j u. fits_tag T t ≡ false) y.5.0)

-- and one that is taken isn't passed over
taken_passed : (l : Limits) (T : TypeTerm) (e : List Value) (c : Enclosing) (k : ℕ) (s : List ℕ) (v : Value) (n : ℕ)
    (r : List ℕ) (Then : Type 0)
    → Fair T → Proper c → Takes l T e c k s v n r → PassesOver l T c k s Then → ⊥
taken_passed l T e c k s v n r Then fr pr takes y =
    not_both (fits_tag T y.0) (taken_fits l T e c k s y.0 y.1 y.2 y.3 v n r fr pr y.4 takes) y.5.0

module _ (l : Limits) (T : TypeTerm) (path other : Path) (f f' : Fault) (fr : Fair T) where
  -- a path on from each of two elements is one
  abbrev Ahead : Type 0
  Ahead =
      (i : Enclosing) (p : ℕ) (t : Tag) (form : Bool) (j : ℕ) (u : List ℕ) → Proper i
      → Faulty l T path [] i p t form j u f → Faulty l T other [] i p t form j u f' → Along path other

  abbrev Reaches : Path → Fault → Enclosing → ℕ → ℕ → List ℕ → Type 0
  Reaches w g i number k s =
      After (MemberStands l T i) (λ before p o. StandsThen l i p o (λ t form j u. Faulty l T w [] i p t form j u g))
      number tt k s

  members_along : (i : Enclosing) (n m : ℕ) (k : ℕ) (s : List ℕ) → Proper i → Ahead → Reaches path f i n k s
      → Reaches other f' i m k s → (n ≡ m) × Along path other
  unfolding After
  members_along i zero zero k s pr ahead x y = (
    refl,
    ahead i k x.0 x.1 x.2 x.3 pr x.5
        (one_stands l i k s x.0 y.0 x.1 y.1 x.2 y.2 x.3 y.3 x.4 y.4
        (λ t form j u. Faulty l T other [] i k t form j u f') y.5),
  )
  members_along i zero (suc m) k s pr ahead x y =
      absurd (apart l T [] [] i k s x.0 x.1 x.2 x.3 f y.3.0 y.1 y.2 fr pr tt x.4
      (fault_paths_stop l T path [] i k x.0 x.1 x.2 x.3 f x.5) y.3.1)
  members_along i (suc n) zero k s pr ahead x y =
      absurd (apart l T [] [] i k s y.0 y.1 y.2 y.3 f' x.3.0 x.1 x.2 fr pr tt y.4
      (fault_paths_stop l T other [] i k y.0 y.1 y.2 y.3 f' y.5) x.3.1)
  members_along i (suc n) (suc m) k s pr ahead x y =
      let g = one_takes l T [] [] i k s x.3.0 y.3.0 x.1 y.1 x.2 y.2 fr pr tt x.3.1 y.3.1 in
      let y' = carry (λ q w. Reaches other f' i m (k + q) w) x.1 y.1 x.2 y.2 g.1 g.2 y.4 in
      let z = members_along i n m (k + x.1) x.2 pr ahead x.4 y' in (ap suc z.0, z.1)

  container_along : (c : Enclosing) (form : Bool) (h : ℕ) (o : List ℕ) (n m : ℕ) → Ahead
      → FaultyMember l T n c form h o (λ i p t form' j u. Faulty l T path [] i p t form' j u f)
      → FaultyMember l T m c form h o (λ i p t form' j u. Faulty l T other [] i p t form' j u f')
      → (n ≡ m) × Along path other
  container_along c form h o n m ahead x y =
      members_along x.0 n m x.1 x.2 (proper_inside c x.0 x.1 x.3.1 x.3.3) ahead x.4
      (one_opens l c form h o x.0 y.0 x.1 y.1 x.2 y.2 x.3 y.3 (λ i j u. Reaches other f' i m j u) y.4)

mutual
  unfolding Faulty FaultyField Fair FairFields

  along : (l : Limits) (T : TypeTerm) (path other : Path) (e e' : List Value) (c : Enclosing) (p : ℕ) (t : Tag)
      (form : Bool) (h : ℕ) (o : List ℕ) (f f' : Fault)
      → Fair T → Proper c → Each Same e e'
      → Faulty l T path e c p t form h o f → Faulty l T other e' c p t form h o f' → Along path other
  along l T [] other e e' c p t form h o f f' fr pr es x y = tt
  along l T (n ∷ path) [] e e' c p t form h o f f' fr pr es x y = tt
  along l (SequenceType own fs) (n ∷ path) (m ∷ other) e e' c p t form h o f f' fr pr es x y =
      let a = x.1 in
      let b = y.1 in
      along_fields l fs n m path other [] [] a.0 a.1 a.2 f f' fr (proper_inside c a.0 a.1 a.3.1 a.3.3) tt a.4
      (one_opens l c form h o a.0 b.0 a.1 b.1 a.2 b.2 a.3 b.3 (λ i j u. FaultyField l fs m other [] i j u f') b.4)
  along l (SequenceOfType own least T) (n ∷ path) (m ∷ other) e e' c p t form h o f f' fr pr es x y =
      container_along l T path other f f' fr c form h o n m
      (λ i p' t' form' j u pr'. along l T path other [] [] i p' t' form' j u f f' fr pr' tt) x.1 y.1
  along l (SetOfType own least T) (n ∷ path) (m ∷ other) e e' c p t form h o f f' fr pr es x y =
      container_along l T path other f f' fr c form h o n m
      (λ i p' t' form' j u pr'. along l T path other [] [] i p' t' form' j u f f' fr pr' tt) x.1 y.1
  along l (ContainingType own rule T) (n ∷ path) (m ∷ other) e e' c p t form h o f f' fr pr es x y =
      let a : y.2 ≡ x.2 = y.7.begins.is ∙ sym x.7.begins.is in
      let yt = subst (λ w. Takes l (LeafType own OctetString) [] c p w (Leaf own y.3) y.4 y.5) a y.8 in
      let g = one_takes l (LeafType own OctetString) [] [] c p x.2 (Leaf own x.3) (Leaf own y.3) x.4 y.4 x.5 y.5 tt
      pr tt x.8 yt in
      let d = leaf_same own x.3 y.3 g.0 in
      let y9 = subst
      (λ w. StandsThen l outermost 0 w (λ t' form' j u. Faulty l T other e' outermost 0 t' form' j u y.6)) (sym d)
      y.9 in (
        x.1 ∙ sym y.1,
        along l T path other e e' outermost 0 x.9.0 x.9.1 x.9.2 x.9.3 x.6 y.6 fr.1 around_none es x.9.5
            (one_stands l outermost 0 x.3 x.9.0 y9.0 x.9.1 y9.1 x.9.2 y9.2 x.9.3 y9.3 x.9.4 y9.4
            (λ t' form' j u. Faulty l T other e' outermost 0 t' form' j u y.6) y9.5),
      )
  along l (RuledType rule T) (n ∷ path) (m ∷ other) e e' c p t form h o f f' fr pr es x y =
      along l T (n ∷ path) (m ∷ other) e e' c p t form h o f f' fr.1 pr es x y
  along l (DefinedByType leaf_path ids A B) (n ∷ path) (m ∷ other) e e' c p t form h o f f' fr pr es x y =
      let s = ap (λ w. one_of w ids) (leaf_at_same leaf_path e e' es) in
      elim x [
        | inl a ↦ elim y [
          | inl b ↦ along l A (n ∷ path) (m ∷ other) e e' c p t form h o f f' fr.0 pr es a.1 b.1
          | inr b ↦ absurd (not_both (one_of (leaf_at leaf_path e) ids) a.0 (s ∙ b.0))
        ]
        | inr a ↦ elim y [
          | inl b ↦ absurd (not_both (one_of (leaf_at leaf_path e) ids) (s ∙ b.0) a.0)
          | inr b ↦ along l B (n ∷ path) (m ∷ other) e e' c p t form h o f f' fr.1 pr es a.1 b.1
        ]
      ]
  along l (ChoiceType A B) (n ∷ path) (m ∷ other) e e' c p t form h o f f' fr pr es x y = elim x [
    | inl a ↦ elim y [
      | inl b ↦ along l A (n ∷ path) (m ∷ other) e e' c p t form h o f f' fr.0 pr es a.1 b.1
      | inr b ↦ absurd (not_both (fits_tag A t) a.0 b.0)
    ]
    | inr a ↦ elim y [
      | inl b ↦ absurd (not_both (fits_tag A t) b.0 a.0)
      | inr b ↦ along l B (n ∷ path) (m ∷ other) e e' c p t form h o f f' fr.1 pr es a.1 b.1
    ]
  ]
  along l (LeafType own kind) (n ∷ path) (m ∷ other) e e' c p t form h o f f' fr pr es x y = absurd x
  along l OpenType (n ∷ path) (m ∷ other) e e' c p t form h o f f' fr pr es x y = absurd x
  along l (RefusedType own why) (n ∷ path) (m ∷ other) e e' c p t form h o f f' fr pr es x y = absurd x

  along_fields : (l : Limits) (fs : Fields) (n m : ℕ) (path other : Path) (e e' : List Value) (c : Enclosing) (k : ℕ)
      (s : List ℕ) (f f' : Fault)
      → FairFields fs → Proper c → Each Same e e'
      → FaultyField l fs n path e c k s f → FaultyField l fs m other e' c k s f' → (n ≡ m) × Along path other
  along_fields l EndOfFields n m path other e e' c k s f f' fr pr es x y = absurd x
  along_fields l (Required T fs) zero zero path other e e' c k s f f' fr pr es x y = (
    refl,
    along l T path other e e' c k x.0 x.1 x.2 x.3 f f' fr.0 pr es x.5.1
        (one_stands l c k s x.0 y.0 x.1 y.1 x.2 y.2 x.3 y.3 x.4 y.4
        (λ t form j u. Faulty l T other e' c k t form j u f') y.5.1),
  )
  along_fields l (Required T fs) zero (suc m) path other e e' c k s f f' fr pr es x y =
      absurd (here_taken l T path e e' c k s f y.0 y.1 y.2 fr.0 pr (each_sym e e' es) x y.3)
  along_fields l (Required T fs) (suc n) zero path other e e' c k s f f' fr pr es x y =
      absurd (here_taken l T other e' e c k s f' x.0 x.1 x.2 fr.0 pr es y x.3)
  along_fields l (Required T fs) (suc n) (suc m) path other e e' c k s f f' fr pr es x y =
      let g = one_takes l T e e' c k s x.0 y.0 x.1 y.1 x.2 y.2 fr.0 pr es x.3 y.3 in
      let y' = carry (λ q w. FaultyField l fs m other (e' ++ y.0 ∷ []) c (k + q) w f') x.1 y.1 x.2 y.2 g.1 g.2 y.4 in
      let z = along_fields l fs n m path other (e ++ x.0 ∷ []) (e' ++ y.0 ∷ []) c (k + x.1) x.2 f f' fr.1 pr
      (each_snoc e e' x.0 y.0 es g.0) x.4 y' in (ap suc z.0, z.1)
  along_fields l (Optional T fs) zero zero path other e e' c k s f f' fr pr es x y = (
    refl,
    along l T path other e e' c k x.0 x.1 x.2 x.3 f f' fr.0 pr es x.5.1
        (one_stands l c k s x.0 y.0 x.1 y.1 x.2 y.2 x.3 y.3 x.4 y.4
        (λ t form j u. Faulty l T other e' c k t form j u f') y.5.1),
  )
  along_fields l (Optional T fs) zero (suc m) path other e e' c k s f f' fr pr es x y = elim y [
    | inl b ↦ absurd (here_taken l T path e e' c k s f b.0 b.1 b.2 fr.0 pr (each_sym e e' es) x b.3)
    | inr b ↦ absurd (here_passed l T path e c k s f _ x b)
  ]
  along_fields l (Optional T fs) (suc n) zero path other e e' c k s f f' fr pr es x y = elim x [
    | inl a ↦ absurd (here_taken l T other e' e c k s f' a.0 a.1 a.2 fr.0 pr es y a.3)
    | inr a ↦ absurd (here_passed l T other e' c k s f' _ y a)
  ]
  along_fields l (Optional T fs) (suc n) (suc m) path other e e' c k s f f' fr pr es x y = elim x [
    | inl a ↦ elim y [
      | inl b ↦
          let g = one_takes l T e e' c k s a.0 b.0 a.1 b.1 a.2 b.2 fr.0 pr es a.3 b.3 in
          let b' = carry (λ q w. FaultyField l fs m other (e' ++ b.0 ∷ []) c (k + q) w f') a.1 b.1 a.2 b.2 g.1 g.2
          b.4 in
          let z = along_fields l fs n m path other (e ++ a.0 ∷ []) (e' ++ b.0 ∷ []) c (k + a.1) a.2 f f' fr.1 pr
          (each_snoc e e' a.0 b.0 es g.0) a.4 b' in (ap suc z.0, z.1)
      | inr b ↦ absurd (taken_passed l T e c k s a.0 a.1 a.2 _ fr.0 pr a.3 b)
    ]
    | inr a ↦ elim y [
      | inl b ↦ absurd (taken_passed l T e' c k s b.0 b.1 b.2 _ fr.0 pr b.3 a)
      | inr b ↦
          let z = along_fields l fs n m path other e e' c k s f f' fr.1 pr es a.5.1 b.5.1 in (ap suc z.0, z.1)
    ]
  ]
  along_fields l (Default own d T fs) zero zero path other e e' c k s f f' fr pr es x y = (
    refl,
    along l T path other e e' c k x.0 x.1 x.2 x.3 f f' fr.0 pr es x.5.1
        (one_stands l c k s x.0 y.0 x.1 y.1 x.2 y.2 x.3 y.3 x.4 y.4
        (λ t form j u. Faulty l T other e' c k t form j u f') y.5.1),
  )
  along_fields l (Default own d T fs) zero (suc m) path other e e' c k s f f' fr pr es x y = elim y [
    | inl b ↦ absurd (here_taken l T path e e' c k s f b.0 b.1 b.2 fr.0 pr (each_sym e e' es) x b.3)
    | inr b ↦ absurd (here_passed l T path e c k s f _ x b)
  ]
  along_fields l (Default own d T fs) (suc n) zero path other e e' c k s f f' fr pr es x y = elim x [
    | inl a ↦ absurd (here_taken l T other e' e c k s f' a.0 a.1 a.2 fr.0 pr es y a.3)
    | inr a ↦ absurd (here_passed l T other e' c k s f' _ y a)
  ]
  along_fields l (Default own d T fs) (suc n) (suc m) path other e e' c k s f f' fr pr es x y = elim x [
    | inl a ↦ elim y [
      | inl b ↦
          let g = one_takes l T e e' c k s a.0 b.0 a.1 b.1 a.2 b.2 fr.0 pr es a.3 b.3 in
          elim a.4 [
            | inl p ↦ elim b.4 [
              | inl q ↦
                  let q' = carry (λ j w. FaultyField l fs m other e' c (k + j) w f') a.1 b.1 a.2 b.2 g.1 g.2 q.1 in
                  let z = along_fields l fs n m path other e e' c (k + a.1) a.2 f f' fr.1 pr es p.1 q' in
                  (ap suc z.0, z.1)
              | inr q ↦ absurd (q.0 (same_trans b.0 a.0 (Leaf own d) (same_sym a.0 b.0 g.0) p.0))
            ]
            | inr p ↦ elim b.4 [
              | inl q ↦ absurd (p.0 (same_trans a.0 b.0 (Leaf own d) g.0 q.0))
              | inr q ↦
                  let q' = carry (λ j w. FaultyField l fs m other (e' ++ b.0 ∷ []) c (k + j) w f') a.1 b.1 a.2 b.2 g.1
                  g.2 q.1 in
                  let z = along_fields l fs n m path other (e ++ a.0 ∷ []) (e' ++ b.0 ∷ []) c (k + a.1) a.2 f f' fr.1 pr
                  (each_snoc e e' a.0 b.0 es g.0) p.1 q' in
                  (ap suc z.0, z.1)
            ]
          ]
      | inr b ↦ absurd (taken_passed l T e c k s a.0 a.1 a.2 _ fr.0 pr a.3 b)
    ]
    | inr a ↦ elim y [
      | inl b ↦ absurd (taken_passed l T e' c k s b.0 b.1 b.2 _ fr.0 pr b.3 a)
      | inr b ↦
          let z = along_fields l fs n m path other e e' c k s f f' fr.1 pr es a.5.1 b.5.1 in (ap suc z.0, z.1)
    ]
  ]

pub one_path : OnePath
one_path l T path other e c p t form h o f f' fr pr x y =
    along l T path other e e c p t form h o f f' fr pr (each_refl e) x y
