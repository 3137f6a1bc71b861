-- What several calls of a sink put, one after the other.
use Rattle.std.proofs.Common.{◌≡◌, sym, ap, subst, ◌∙◌, ◌+◌, ◌-◌, ℕ, true, false, Option, Result, Ok, Err, List, ◌++◌, take, drop, length, length-append, arith, OnOk}
use Rattle.std.proofs.Math.Seq.{take-add, take-append-add}
use Rattle.std.proofs.lemmas.List.{take-append-le, take_all, length-drop}
use Rattle.std.proofs.KnownBytes.{Appends-trans}
use Rattle.std.specs.Io.KnownBytes.{Appends}
use Rattle.tlv_core.specs.Sinks.{count, is_broken, held, Puts}
use Rattle.tlv_core.specs.declared.sink.Sink.{Sink}
use Rattle.tlv_core.specs.declared.sink.WriteError.{WriteError}
use Rattle.tlv_core.specs.declared.target.Target.{Ghosts}

-- after the first `i` octets the next `n` of the rest are appended
pub Appends-next : (old mid new : Option (List ℕ)) (xs : List ℕ) (i n : ℕ) → Appends old mid (take i xs)
    → Appends mid new (take n (take (length xs - i) (drop i xs))) → Appends old new (take (i + n) xs)
Appends-next old mid new xs i n p q =
    let rest : take (length xs - i) (drop i xs) ≡ drop i xs =
    take_all (length xs - i) (drop i xs) (omega (arith, length-drop i xs)) in
    let both : Appends old new (take i xs ++ take n (drop i xs)) =
    Appends-trans old mid new (take i xs) (take n (drop i xs)) p (subst (λ z. Appends mid new (take n z)) rest q) in
    subst (λ z. Appends old new z) (sym (take-add i n xs)) both

-- what went out whole, and then more
pub Puts_then : {W : Type 0} {t : Ghosts W} (xs ys : List ℕ) (a b c : Sink W t) (r : Result (Unit {0}) WriteError)
    → Puts xs a b (Ok tt) → Puts ys b c r → Puts (xs ++ ys) a c r
Puts_then {W} {t} xs ys a b c r p q =
    let more : count c - count a ≡ length xs + (count c - count b) = omega (arith, p.all.0, q.no_less) in
    let whole : take (count b - count a) xs ≡ xs = take_all (count b - count a) xs (omega (arith, p.all.0)) in
    let first : Appends (held a) (held b) xs = subst (λ z. Appends (held a) (held b) z) whole p.out in
    let both : Appends (held a) (held c) (xs ++ take (count c - count b) ys) =
    Appends-trans _ _ _ xs (take (count c - count b) ys) first q.out in
    let joined : xs ++ take (count c - count b) ys ≡ take (count c - count a) (xs ++ ys) =
    sym (ap (λ n. take n (xs ++ ys)) more ∙ take-append-add xs ys (count c - count b)) in
    record {
      same_writer = q.same_writer ∙ p.same_writer;
      no_less = omega (arith, p.no_less, q.no_less);
      no_more = omega (arith, p.all.0, q.no_more, length-append xs ys);
      out = subst (λ z. Appends (held a) (held c) z) joined both;
      all = all_of r q.all;
      failed = q.failed;
      repeats = λ broken. absurd (clash (sym broken ∙ p.was_fine));
      was_fine = fine_of r;
    }
  where
    clash : true ≡ false → ⊥
    clash h = cc

    all_of : (r : Result (Unit {0}) WriteError) → OnOk r ((count c ≡ count b + length ys) × (is_broken c ≡ false))
        → OnOk r ((count c ≡ count a + length (xs ++ ys)) × (is_broken c ≡ false))
    all_of (Ok u) h = (omega (arith, h.0, p.all.0, length-append xs ys), h.1)
    all_of (Err e) h = tt

    fine_of : (r : Result (Unit {0}) WriteError) → OnOk r (is_broken a ≡ false)
    fine_of (Ok u) = p.was_fine
    fine_of (Err e) = tt

-- what stopped before more came
pub Puts_short : {W : Type 0} {t : Ghosts W} (xs ys : List ℕ) (a b : Sink W t) (e : WriteError) → Puts xs a b (Err e)
    → Puts (xs ++ ys) a b (Err e)
Puts_short {W} {t} xs ys a b e p =
    let part : take (count b - count a) (xs ++ ys) ≡ take (count b - count a) xs =
    take-append-le (count b - count a) xs ys (omega (arith, p.no_more)) in
    record {
      same_writer = p.same_writer;
      no_less = p.no_less;
      no_more = omega (arith, p.no_more, length-append xs ys);
      out = subst (λ z. Appends (held a) (held b) z) (sym part) p.out;
      all = tt;
      failed = p.failed;
      repeats = p.repeats;
      was_fine = tt;
    }
