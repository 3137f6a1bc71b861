-- Texts that stand one after another, cut out and put together.
use Rattle.std.proofs.Common.{◌≡◌, ◌∙◌, ◌⊎◌, ◌+◌, ◌-◌, ◌<◌, ◌≤◌, ◌++◌, ℕ, zero, suc, List, [], ◌∷◌, ap, arith, drop, get_or, length, map, refl, subst, sym, take, append_assoc, ⊎_elim}
use Rattle.std.proofs.lemmas.List.{append-nil, drop-drop, drop_at, length-append, take_all, take_at, take_more}
use Rattle.x690.specs.DerTexts.{der, texts_of}
use Rattle.x690.specs.Lists.{join}
use Rattle.x690.specs.Values.{Value}
use Rattle.asn_elements.specs.Members.{StandIn}
use Rattle.asn_elements.proofs.MappedMembers.{map_last}
use Rattle.asn_elements.proofs.MemberTexts.{starts_at, starts_length}

-- the text of a value stands between two places of the octets
pub record Between (vs : List Value) (os : List ℕ) (i s e : ℕ) : Type 0 where
  pub rises : s ≤ e
  pub within : e ≤ length os
  pub text : take (e - s) (drop s os) ≡ get_or (map der vs) i []

between : (vs : List Value) (i s e : ℕ) → i < length vs → s ≡ length (texts_of (take i vs))
    → e ≡ length (texts_of (take (suc i) vs)) → Between vs (texts_of vs) i s e
between [] i s e h p q = absurd (omega arith)
between (v ∷ vs) zero s e h p q =
    let n : e ≡ length (der v) = q ∙ ap length (append-nil (der v)) in
    let l = length-append (der v) (texts_of vs) in
    record {
      rises = omega arith;
      within = omega arith;
      text =
          ap (λ z. take (e - z) (drop z (der v ++ texts_of vs))) p
          ∙ take_at (der v) (texts_of vs) (e - 0) (omega arith);
    }
between (v ∷ vs) (suc i) s e h p q =
    let k = length (der v) in
    let a = length-append (der v) (texts_of (take i vs)) in
    let b = length-append (der v) (texts_of (take (suc i) vs)) in
    let l = length-append (der v) (texts_of vs) in
    let r = between vs i (s - k) (e - k) (omega arith) (omega arith) (omega arith) in
    let front = r.rises in
    let end = r.within in
    let at : s ≡ k + (s - k) = omega arith in
    let size : e - s ≡ (e - k) - (s - k) = omega arith in
    record {
      rises = omega arith;
      within = omega arith;
      text =
          ap (λ z. take z (drop s (der v ++ texts_of vs))) size
          ∙ (ap (λ z. take ((e - k) - (s - k)) (drop z (der v ++ texts_of vs))) at
          ∙ (ap (λ z. take ((e - k) - (s - k)) z) (sym (drop-drop (s - k) k (der v ++ texts_of vs)))
          ∙ (ap (λ z. take ((e - k) - (s - k)) (drop (s - k) z)) (drop_at (der v) (texts_of vs) k refl)
          ∙ r.text)));
    }

-- a text ends where the next one begins, and the last one with the octets
abbrev pub EndsAt : List ℕ → List ℕ → ℕ → ℕ → Type 0
EndsAt os ss i e = ((i + 1 < length ss) × (e ≡ get_or ss (i + 1) 0)) ⊎ ((length ss ≤ i + 1) × (e ≡ length os))

pub stands_between : (vs : List Value) (os ss : List ℕ) (i e : ℕ) → StandIn vs os ss → i < length ss → EndsAt os ss i e
    → Between vs os i (get_or ss i 0) e
stands_between vs os ss i e stand h ends =
    let n : length ss ≡ length vs = ap length stand.1 ∙ starts_length 0 vs in
    let inside : i < length vs = omega arith in
    let s = ap (λ z. get_or z i 0) stand.1 in
    let s' = starts_at 0 vs i inside in
    let more : suc i ≡ i + 1 = omega arith in
    let m = ap (λ z. length (texts_of (take z vs))) more in
    let e' : e ≡ length (texts_of (take (i + 1) vs)) = ⊎_elim
    (λ next.
    let p = ap (λ z. get_or z (i + 1) 0) stand.1 in
    let q = starts_at 0 vs (i + 1) (let l = next.0 in omega arith) in
    let r = next.1 in
    omega arith)
    (λ last.
    last.1
    ∙ (ap length stand.0 ∙ ap (λ z. length (texts_of z)) (sym (take_all (i + 1) vs (let l = last.0 in omega arith)))))
    ends in
    subst (λ z. Between vs z i (get_or ss i 0) e) (sym stand.0)
    (between vs i (get_or ss i 0) e inside (omega arith) (omega arith))

-- the first text of several, and the others
pub record First {A : Type 0} (f : A → Value) (x : A) (more : List A) (os : List ℕ) (n : ℕ) : Type 0 where
  pub within : n ≤ length os
  pub text : take n os ≡ der (f x)
  pub others : drop n os ≡ texts_of (map f more)

pub first_text : {A : Type 0} (f : A → Value) (xs more : List A) (x : A) (os : List ℕ) (n : ℕ)
    → os ≡ texts_of (map f xs) → xs ≡ x ∷ more → n ≡ length (der (f x)) → First f x more os n
first_text f xs more x os n are is size =
    let e : os ≡ der (f x) ++ texts_of (map f more) = are ∙ ap (λ z. texts_of (map f z)) is in
    let k = ap length e in
    let l = length-append (der (f x)) (texts_of (map f more)) in
    record {
      within = omega arith;
      text = ap (take n) e ∙ take_at (der (f x)) (texts_of (map f more)) n (sym size);
      others = ap (drop n) e ∙ drop_at (der (f x)) (texts_of (map f more)) n (sym size);
    }

-- one text more
pub cut_more : {A : Type 0} (g : A → List ℕ) (xs : List A) (x : A) (ts : List (List ℕ)) (i : ℕ) → i < length ts
    → map g xs ≡ take i ts → g x ≡ get_or ts i [] → map g (xs ++ x ∷ []) ≡ take (i + 1) ts
cut_more g xs x ts i h e f =
    map_last g xs x ∙ (ap (λ z. z ++ g x ∷ []) e ∙ (ap (λ z. take i ts ++ z ∷ []) f ∙ sym (take_more ts i [] h)))

join_last : (xs : List (List ℕ)) (x : List ℕ) → join (xs ++ x ∷ []) ≡ join xs ++ x
join_last [] x = append-nil x
join_last (y ∷ xs) x = ap (λ z. y ++ z) (join_last xs x) ∙ sym (append_assoc y (join xs) x)

pub joined_more : {A : Type 0} (g : A → List ℕ) (xs : List A) (i : ℕ) (d : A) → i < length xs
    → join (map g (take (i + 1) xs)) ≡ join (map g (take i xs)) ++ g (get_or xs i d)
joined_more g xs i d h =
    ap (λ z. join (map g z)) (take_more xs i d h)
    ∙ (ap join (map_last g (take i xs) (get_or xs i d))
    ∙ join_last (map g (take i xs)) (g (get_or xs i d)))
