-- Segments joined.
use Rattle.std.proofs.Common.{◌≡◌, ℕ, zero, suc, ◌*◌, ◌/◌, ◌^◌, ◌==◌, ◌||◌, ◌&&◌, ◌<◌, Bool, true, false, not, List, [], ◌∷◌, ◌++◌, length, get_or, drop, set, Result, Err, refl, sym, ◌∙◌, ap, subst, arith, append_assoc, append-nil, ◌%◌}
use Rattle.std.proofs.Math.Nat.{div-mul-le_self, mod-eq_of_lt}
use Rattle.x690.specs.Contents.{bit_octets, clear_unused, unused_bits}
use Rattle.x690.specs.Lists.{join}
use Rattle.x690.specs.ReadContents.{is_bit_segment, is_next_segment}
use Rattle.ber_pull.specs.Segments.{AddsSegment, AnswersJoined, Joins, Steps, joined_octets, joined_unused, segment_number}
use Rattle.tlv_core.specs.declared.fault.ReadError.{ReadError}
use Rattle.tlv_core.specs.declared.source.Source.{Ghosts}
use Rattle.x690.specs.Reading.{Reading}
use Rattle.ber_pull.specs.Hears.{heard_error}
use Rattle.ber_pull.specs.Standing.{failure}
use Rattle.ber_pull.specs.View.{Answers, answered}
use Rattle.ber_pull.specs.declared.pull.Pull.{Pull}
use Rattle.ber_pull.specs.declared.state.Container.{Container}
use Rattle.ber_pull.specs.declared.state.Halted.{Halted}
use Rattle.ber_pull.specs.declared.string.Joined.{Joined}

join_more : (s : List (List ℕ)) (o : List ℕ) → join (s ++ (o ∷ [])) ≡ join s ++ o
join_more [] o = append-nil o
join_more (x ∷ s) o = ap (λ w. x ++ w) (join_more s o) ∙ sym (append_assoc x (join s) o)

bits_more : (s : List (List ℕ)) (u : ℕ) (o : List ℕ) → bit_octets (s ++ ((u ∷ o) ∷ [])) ≡ bit_octets s ++ o
bits_more [] u o = append-nil o
bits_more ([] ∷ s) u o = bits_more s u o
bits_more ((x ∷ y) ∷ s) u o = ap (λ w. y ++ w) (bits_more s u o) ∙ sym (append_assoc y (bit_octets s) o)

unused_more : (s : List (List ℕ)) (u : ℕ) (o : List ℕ) → unused_bits (s ++ ((u ∷ o) ∷ [])) ≡ u
unused_more [] u o = refl
unused_more (x ∷ []) u o = refl
unused_more (x ∷ y ∷ s) u o = unused_more (y ∷ s) u o

-- the octets of one segment more
pub joins_bits : (old new : Joined) (o : List ℕ) (s : List (List ℕ)) → old.is_bits ≡ true → new.is_bits ≡ true
    → is_bit_segment o ≡ true → new.unused ≡ get_or o 0 new.unused → new.octets.items ≡ old.octets.items ++ drop 1 o
    → Joins old s → Joins new (s ++ (o ∷ []))
joins_bits old new [] s b b' h u x j = cc
joins_bits old new (y ∷ o) s b b' h u x j = record {
  octets =
      x
      ∙ ap (λ w. w ++ o) (j.octets ∙ ap (λ w. joined_octets w s) b)
      ∙ sym (bits_more s y o)
      ∙ ap (λ w. joined_octets w (s ++ ((y ∷ o) ∷ []))) (sym b');
  unused = u ∙ sym (unused_more s y o) ∙ ap (λ w. joined_unused w (s ++ ((y ∷ o) ∷ []))) (sym b');
}

pub joins_octets : (old new : Joined) (o : List ℕ) (s : List (List ℕ)) → old.is_bits ≡ false → new.is_bits ≡ false
    → new.unused ≡ old.unused → new.octets.items ≡ old.octets.items ++ o → Joins old s → Joins new (s ++ (o ∷ []))
joins_octets old new o s b b' u x j = record {
  octets =
      x
      ∙ ap (λ w. w ++ o) (j.octets ∙ ap (λ w. joined_octets w s) b)
      ∙ sym (join_more s o)
      ∙ ap (λ w. joined_octets w (s ++ (o ∷ []))) (sym b');
  unused = u ∙ j.unused ∙ ap (λ w. joined_unused w s) b ∙ ap (λ w. joined_unused w (s ++ (o ∷ []))) (sym b');
}

-- what may follow, by what is kept of the segments so far
pub follows : (b : Bool) (u : ℕ) (s : List (List ℕ)) (o : List ℕ) → u ≡ joined_unused b s
    → (not b || (is_bit_segment o && (u == 0))) ≡ is_next_segment (segment_number b) s o
follows true u s o h = ap (λ w. is_bit_segment o && (w == 0)) h
follows false u s o h = refl

-- the last octet, its unused bits set to 0

pub clear_at : (o : List ℕ) (u n d : ℕ) → length o ≡ suc n → set o n (get_or o n d / 2 ^ u * 2 ^ u) ≡ clear_unused u o
clear_at [] u n d h = absurd (omega arith)
clear_at (x ∷ []) u zero d h = refl
clear_at (x ∷ []) u (suc n) d h = absurd (omega arith)
clear_at (x ∷ y ∷ o) u zero d h = absurd (omega arith)
clear_at (x ∷ y ∷ o) u (suc n) d h = ap (λ w. x ∷ w) (clear_at (y ∷ o) u n d (omega arith))

-- within eight bits nothing is lost
pub bits_fit : (x n : ℕ) → x < 256 → x / n * n % 256 ≡ x / n * n
bits_fit x n b = let small : x / n * n < 256 = omega (arith, div-mul-le_self x n) in mod-eq_of_lt small

-- an error is the answer, whatever was joined
pub added_halted : {R : Type 0} {s : Ghosts R} (old new : Pull R s) (p : Reading (List (List ℕ))) (joined : Joined)
    (r : Result (Unit {0}) Halted) (h : Halted)
    → r ≡ Err h → Answers old new p (heard_error (failure new.state)) → AddsSegment old new p joined (answered new r)
added_halted old new p joined r h e x = subst (λ w. AddsSegment old new p joined (answered new w)) (sym e) x

pub joined_error : {R : Type 0} {s : Ghosts R} (old new : Pull R s) (p : Reading (List (List ℕ)))
    (r : Result Joined ReadError) (e : ReadError)
    → r ≡ Err e → Answers old new p (heard_error e) → AnswersJoined old new p r
joined_error old new p r e h x = subst (λ w. AnswersJoined old new p w) (sym h) x

pub step_error : {R : Type 0} {s : Ghosts R} (old new : Pull R s) (around : List Container) (n : ℕ)
    (p : Reading (List (List ℕ))) (joined : Joined) (r : Result (Unit {0}) ReadError) (e : ReadError)
    → r ≡ Err e → Answers old new p (heard_error e) → Steps old new around n p joined r
step_error old new around n p joined r e h x = subst (λ w. Steps old new around n p joined w) (sym h) x
