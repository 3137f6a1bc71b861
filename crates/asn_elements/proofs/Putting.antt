-- A header written, and then contents.
use Rattle.std.proofs.Common.{◌≡◌, ◌∙◌, ◌+◌, ◌++◌, ◌<◌, ℕ, List, [], Option, None, Some, Result, Ok, Err, false, refl, sym, ap, subst, length, take, arith}
use Rattle.std.proofs.lemmas.List.{append-nil, length-append, take_all}
use Rattle.std.specs.Io.KnownBytes.{Appends}
use Rattle.tlv_core.proofs.Puts.{Puts_then, Puts_short}
use Rattle.tlv_core.specs.Sinks.{Puts, count, held, is_broken}
use Rattle.tlv_core.specs.declared.sink.Sink.{Sink}
use Rattle.tlv_core.specs.declared.sink.WriteError.{WriteError}
use Rattle.tlv_core.specs.declared.target.Target.{Ghosts}

module _ {W : Type 0} {s : Ghosts W} (text h cs : List ℕ) (is : text ≡ h ++ cs) where
  -- both are out
  pub framed_put : (a b c : Sink W s) (r : Result (Unit {0}) WriteError) → Puts h a b (Ok tt) → Puts cs b c r
      → Puts text a c r
  framed_put a b c r p q = subst (λ z. Puts z a c r) (sym is) (Puts_then h cs a b c r p q)

  -- the header stopped
  pub framed_stop : (a b : Sink W s) (r : Result (Unit {0}) WriteError) (e : WriteError) → r ≡ Err e
      → Puts h a b (Err e) → Puts text a b r
  framed_stop a b r e x p =
      subst (λ z. Puts text a b z) (sym x) (subst (λ z. Puts z a b (Err e)) (sym is) (Puts_short h cs a b e p))

  -- there is room for the header, and then for the contents
  pub header_room : (a : Sink W s) (limit : ℕ) → count a + length text < limit → count a + length h < limit
  header_room a limit r = omega (arith, r, ap length is, length-append h cs)

  pub contents_room : (a b : Sink W s) (limit : ℕ) → count a + length text < limit → Puts h a b (Ok tt)
      → count b + length cs < limit
  contents_room a b limit r p = omega (arith, r, ap length is, length-append h cs, p.all.0)

nothing_more : (o : Option (List ℕ)) (n : ℕ) → Appends o o (take n [])
nothing_more None n = tt
nothing_more (Some xs) n = sym (ap (λ z. xs ++ z) (take_all n [] (omega arith)) ∙ append-nil xs)

-- nothing is out yet
pub none_put : {W : Type 0} {s : Ghosts W} (a : Sink W s) → is_broken a ≡ false → Puts [] a a (Ok tt)
none_put a fine = record {
  same_writer = refl;
  no_less = omega arith;
  no_more = omega arith;
  out = nothing_more (held a) _;
  all = (omega arith, fine);
  failed = tt;
  repeats = λ _. refl;
  was_fine = fine;
}
