-- Texts of members one after another, and where each begins.
use Rattle.std.proofs.Common.{◌≡◌, refl, sym, ap, ◌∙◌, ◌+◌, ◌-◌, ◌≤◌, ◌<◌, ℕ, zero, suc, List, [], ◌∷◌, ◌++◌, slice_get, get_or, take, drop, length, arith, add-one, ◌⊎◌, inl, inr, ⊎_elim}
use Rattle.std.proofs.lemmas.List.{append_assoc, append-nil, length-append, drop_all}
use Rattle.x690.specs.DerTexts.{der, texts_of}
use Rattle.x690.specs.Values.{Value}
use Rattle.asn_elements.specs.Members.{StandIn, starts_from}
use Rattle.asn_elements.proofs.HeaderOctets.{get_after, get_before}

pub nat_cases : (a b : ℕ) → a ≤ b → (a < b) ⊎ (a ≡ b)
nat_cases zero zero h = inr refl
nat_cases zero (suc b) h = inl (omega arith)
nat_cases (suc a) zero h = absurd (omega arith)
nat_cases (suc a) (suc b) h = ⊎_elim (λ l. inl (omega arith)) (λ e. inr (ap suc e)) (nat_cases a b (omega arith))

pub starts_length : (n : ℕ) (vs : List Value) → length (starts_from n vs) ≡ length vs
starts_length n [] = refl
starts_length n (v ∷ vs) = ap suc (starts_length (n + length (der v)) vs)

pub starts_at : (n : ℕ) (vs : List Value) (k : ℕ) → k < length vs
    → get_or (starts_from n vs) k 0 ≡ n + length (texts_of (take k vs))
starts_at n [] k h = absurd (omega arith)
starts_at n (v ∷ vs) zero h = omega arith
starts_at n (v ∷ vs) (suc k) h =
    omega (arith, starts_at (n + length (der v)) vs k (omega arith), length-append (der v) (texts_of (take k vs)))

-- the member at a place: its text, those before it and those after it
pub texts_at : (vs : List Value) (i : ℕ) (v : Value) → i < length vs → v ≡ get_or vs i v
    → texts_of vs ≡ texts_of (take i vs) ++ (der v ++ texts_of (drop (suc i) vs))
texts_at [] i v h e = absurd (omega arith)
texts_at (w ∷ vs) zero v h e = ap (λ z. der z ++ texts_of vs) (sym e)
texts_at (w ∷ vs) (suc i) v h e =
    ap (λ z. der w ++ z) (texts_at vs i v (omega arith) e)
    ∙ sym (append_assoc (der w) (texts_of (take i vs)) (der v ++ texts_of (drop (suc i) vs)))

pub texts_next : (vs : List Value) (i : ℕ) (v : Value) → i < length vs → v ≡ get_or vs i v
    → texts_of (take (suc i) vs) ≡ texts_of (take i vs) ++ der v
texts_next [] i v h e = absurd (omega arith)
texts_next (w ∷ vs) zero v h e = append-nil (der w) ∙ ap der (sym e)
texts_next (w ∷ vs) (suc i) v h e =
    ap (λ z. der w ++ z) (texts_next vs i v (omega arith) e) ∙ sym (append_assoc (der w) (texts_of (take i vs)) (der v))

-- the octet stands in this member's text
get_text : (vs : List Value) (k at : ℕ) (v : Value) → k < length vs → v ≡ get_or vs k v
    → length (texts_of (take k vs)) ≤ at → at < length (texts_of (take k vs)) + length (der v)
    → slice_get (texts_of vs) at ≡ slice_get (der v) (at - length (texts_of (take k vs)))
get_text vs k at v h e l r =
    ap (λ z. slice_get z at) (texts_at vs k v h e)
    ∙ get_after (texts_of (take k vs)) (der v ++ texts_of (drop (suc k) vs)) at l
    ∙ get_before (der v) (texts_of (drop (suc k) vs)) (at - length (texts_of (take k vs))) (omega arith)

-- the octet stands in the text of the last member that begins no later
pub get_found : (vs : List Value) (ss : List ℕ) (k at : ℕ) (v : Value) → ss ≡ starts_from 0 vs → k < length vs
    → v ≡ get_or vs k v → get_or ss k 0 ≤ at → (k + 1 < length ss → at < get_or ss (k + 1) 0)
    → at < length (texts_of vs) → slice_get (texts_of vs) at ≡ slice_get (der v) (at - get_or ss k 0)
get_found vs ss k at v s h e l r w =
    let a' = ap (λ z. get_or z k 0) s in
    let a'' = starts_at 0 vs k h in
    let a : get_or ss k 0 ≡ length (texts_of (take k vs)) = omega arith in
    let n = ap length s ∙ starts_length 0 vs in
    get_text vs k at v h e (omega arith) (last (nat_cases (k + 1) (length vs) (omega arith)) a n)
    ∙ ap (λ z. slice_get (der v) (at - z)) (sym a)
  where
    next : length (texts_of (take (suc k) vs)) ≡ length (texts_of (take k vs)) + length (der v)
    next = ap length (texts_next vs k v h e) ∙ length-append (texts_of (take k vs)) (der v)

    last : ((k + 1 < length vs) ⊎ (k + 1 ≡ length vs)) → get_or ss k 0 ≡ length (texts_of (take k vs))
        → length ss ≡ length vs → at < length (texts_of (take k vs)) + length (der v)
    last (inl q) a n =
        let b' = ap (λ z. get_or z (k + 1) 0) s in
        let b'' = starts_at 0 vs (k + 1) q in
        let c : length (texts_of (take (k + 1) vs)) ≡ length (texts_of (take (suc k) vs)) =
        ap (λ z. length (texts_of (take z vs))) (let e : k + 1 ≡ suc k = omega arith in e) in
        let d = r (omega arith) in
        omega (arith, next)
    last (inr q) a n =
        let t = ap length (texts_at vs k v h e) in
        let u = length-append (texts_of (take k vs)) (der v ++ texts_of (drop (suc k) vs)) in
        let x = length-append (der v) (texts_of (drop (suc k) vs)) in
        let w' : length (texts_of (drop (suc k) vs)) ≡ 0 =
        ap (λ z. length (texts_of z)) (drop_all (suc k) vs (omega arith)) in
        omega arith

starts_more : (ss : List ℕ) (n m i : ℕ) (vs : List Value) (v : Value) → i < length vs → v ≡ get_or vs i v
    → m ≡ length (der v) → (ss ++ n ∷ []) ++ starts_from (n + m) (drop (suc i) vs) ≡ ss ++ starts_from n (drop i vs)
starts_more ss n m i [] v h e q = absurd (omega arith)
starts_more ss n m zero (w ∷ vs) v h e q =
    append_assoc ss (n ∷ []) (starts_from (n + m) vs)
    ∙ ap (λ z. ss ++ n ∷ starts_from (n + z) vs) (q ∙ ap (λ z. length (der z)) e)
starts_more ss n m (suc i) (w ∷ vs) v h e q = starts_more ss n m i vs v (omega arith) e q

texts_left : (vs : List Value) (i : ℕ) (v : Value) → i < length vs → v ≡ get_or vs i v
    → length (texts_of (drop i vs)) ≡ length (der v) + length (texts_of (drop (suc i) vs))
texts_left [] i v h e = absurd (omega arith)
texts_left (w ∷ vs) zero v h e =
    length-append (der w) (texts_of vs) ∙ ap (λ z. length (der z) + length (texts_of vs)) (sym e)
texts_left (w ∷ vs) (suc i) v h e = texts_left vs i v (omega arith) e

-- after one text more
pub starts_more_one : (ss : List ℕ) (n m i : ℕ) (vs : List Value) (v : Value) → i < length vs → v ≡ get_or vs i v
    → m ≡ length (der v) → (ss ++ n ∷ []) ++ starts_from (n + m) (drop (i + 1) vs) ≡ ss ++ starts_from n (drop i vs)
starts_more_one ss n m i vs v h e q =
    ap (λ k. (ss ++ n ∷ []) ++ starts_from (n + m) (drop k vs)) (add-one i) ∙ starts_more ss n m i vs v h e q

pub texts_left_one : (vs : List Value) (i : ℕ) (v : Value) → i < length vs → v ≡ get_or vs i v
    → length (texts_of (drop i vs)) ≡ length (der v) + length (texts_of (drop (i + 1) vs))
texts_left_one vs i v h e =
    texts_left vs i v h e ∙ ap (λ n. length (der v) + length (texts_of (drop n vs))) (sym (add-one i))

pub starts_some : (vs : List Value) (ss : List ℕ) → ss ≡ starts_from 0 vs → 0 < length (texts_of vs)
    → (0 < length ss) × (get_or ss 0 0 ≡ 0)
starts_some [] ss s h = absurd (omega arith)
starts_some (v ∷ vs) ss s h = let n = ap length s in (omega arith, ap (λ z. get_or z 0 0) s)

-- one text more after the others, which begins where they end
pub texts_last : (vs : List Value) (v : Value) → texts_of (vs ++ v ∷ []) ≡ texts_of vs ++ der v
texts_last [] v = append-nil (der v)
texts_last (w ∷ vs) v = ap (λ z. der w ++ z) (texts_last vs v) ∙ sym (append_assoc (der w) (texts_of vs) (der v))

pub starts_last : (n : ℕ) (vs : List Value) (v : Value)
    → starts_from n (vs ++ v ∷ []) ≡ starts_from n vs ++ (n + length (texts_of vs)) ∷ []
starts_last n [] v = ap (λ k. k ∷ []) (let e : n ≡ n + 0 = omega arith in e)
starts_last n (w ∷ vs) v =
    let e : n + length (der w) + length (texts_of vs) ≡ n + length (texts_of (w ∷ vs)) =
    omega (arith, length-append (der w) (texts_of vs)) in
    ap (λ z. n ∷ z) (starts_last (n + length (der w)) vs v ∙ ap (λ k. starts_from (n + length (der w)) vs ++ k ∷ []) e)

pub stand_more : (octets starts octets' starts' : List ℕ) (vs : List Value) (v : Value) (start : ℕ)
    → StandIn vs octets starts → octets' ≡ octets ++ der v → starts' ≡ starts ++ start ∷ [] → start ≡ length octets
    → StandIn (vs ++ v ∷ []) octets' starts'
stand_more octets starts octets' starts' vs v start are o s n = (
  o ∙ (ap (λ z. z ++ der v) are.0 ∙ sym (texts_last vs v)),
  s
      ∙ (ap (λ z. z ++ start ∷ []) are.1
      ∙ (ap (λ k. starts_from 0 vs ++ k ∷ [])
      (let e : start ≡ 0 + length (texts_of vs) = omega (arith, n, ap length are.0) in e)
      ∙ sym (starts_last 0 vs v))),
)
