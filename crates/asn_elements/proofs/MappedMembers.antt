-- What a list's elements are seen as, one at a time.
use Rattle.std.proofs.Common.{◌≡◌, ◌∙◌, ◌+◌, ◌<◌, ℕ, suc, List, [], ◌∷◌, ◌++◌, refl, sym, ap, subst, length, map, get_or, drop, take, arith, Ok, Err, append_assoc, Result}
use Rattle.std.proofs.lemmas.List.{get_or-map, length-append, length-map}
use Rattle.tlv_core.proofs.Puts.{Puts_then, Puts_short}
use Rattle.tlv_core.specs.Sinks.{Puts, count}
use Rattle.tlv_core.specs.declared.sink.Sink.{Sink}
use Rattle.tlv_core.specs.declared.sink.WriteError.{WriteError}
use Rattle.tlv_core.specs.declared.target.Target.{Ghosts}
use Rattle.x690.specs.DerTexts.{der, texts_of}
use Rattle.x690.specs.Values.{Value}
use Rattle.asn_elements.proofs.MemberTexts.{texts_at, texts_next}

-- the element's value is the list of values' element
pub nth_value : {A : Type 0} (f : A → Value) (xs : List A) (i : ℕ) (x : A) → i < length xs → x ≡ get_or xs i x
    → f x ≡ get_or (map f xs) i (f x)
nth_value f xs i x h e = ap f e ∙ sym (get_or-map f xs i x (f x) h)

pub within_map : {A : Type 0} (f : A → Value) (xs : List A) (i : ℕ) → i < length xs → i < length (map f xs)
within_map f xs i h = omega (arith, length-map xs f)

-- Members written one after another.
module _ {W : Type 0} {s : Ghosts W} (vs : List Value) (i : ℕ) (v : Value) (inside : i < length vs)
    (is : v ≡ get_or vs i v) (a b c : Sink W s) where
  pub member_put : Puts (texts_of (take i vs)) a b (Ok tt) → Puts (der v) b c (Ok tt)
      → Puts (texts_of (take (i + 1) vs)) a c (Ok tt)
  member_put p q =
      let e : texts_of (take i vs) ++ der v ≡ texts_of (take (i + 1) vs) =
      sym (texts_next vs i v inside is) ∙ ap (λ n. texts_of (take n vs)) (let n : suc i ≡ i + 1 = omega arith in n) in
      subst (λ z. Puts z a c (Ok tt)) e (Puts_then (texts_of (take i vs)) (der v) a b c (Ok tt) p q)

  pub member_stop : (r : Result (Unit {0}) WriteError) (e : WriteError) → r ≡ Err e
      → Puts (texts_of (take i vs)) a b (Ok tt) → Puts (der v) b c (Err e) → Puts (texts_of vs) a c r
  member_stop r z x p q =
      let t = Puts_short (texts_of (take i vs) ++ der v) (texts_of (drop (suc i) vs)) a c z
      (Puts_then (texts_of (take i vs)) (der v) a b c (Err z) p q) in
      let e : (texts_of (take i vs) ++ der v) ++ texts_of (drop (suc i) vs) ≡ texts_of vs =
      append_assoc (texts_of (take i vs)) (der v) (texts_of (drop (suc i) vs)) ∙ sym (texts_at vs i v inside is) in
      subst (λ w. Puts (texts_of vs) a c w) (sym x) (subst (λ w. Puts w a c (Err z)) e t)

  pub member_room : (limit : ℕ) → Puts (texts_of (take i vs)) a b (Ok tt) → count a + length (texts_of vs) < limit
      → count b + length (der v) < limit
  member_room limit p r =
      let n = p.all.0 in
      let t = ap length (texts_at vs i v inside is) in
      let x = length-append (texts_of (take i vs)) (der v ++ texts_of (drop (suc i) vs)) in
      let q = length-append (der v) (texts_of (drop (suc i) vs)) in
      omega arith

pub map_thrice : {A B C D : Type 0} (f : C → D) (g : B → C) (h : A → B) (xs : List A)
    → map f (map g (map h xs)) ≡ map (λ x. f (g (h x))) xs
map_thrice f g h [] = refl
map_thrice f g h (x ∷ xs) = ap (λ z. f (g (h x)) ∷ z) (map_thrice f g h xs)

pub map_last : {A B : Type 0} (f : A → B) (xs : List A) (x : A) → map f (xs ++ x ∷ []) ≡ map f xs ++ f x ∷ []
map_last f [] x = refl
map_last f (y ∷ xs) x = ap (λ z. f y ∷ z) (map_last f xs x)
