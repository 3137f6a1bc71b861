use Rattle.std.proofs.Common.{rules, ap, arith, ◌≡◌, ◌-◌, ℕ, List, [], ◌∷◌, ◌++◌, refl, length, slice_index_or, slice_set, sym, take, drop}
use Rattle.std.proofs.lemmas.List.{take_all}
use Rattle.tlv_core.proofs.source.RefSliceU8Source.read.Goals as goal

-- the first octet goes to a room for one, the others stay
first_goes : (octets room : List ℕ) → (octets ≡ [] → ⊥) → length room ≡ 1
    → octets ≡ take 1 (slice_set room 0 (slice_index_or octets 0 0)) ++ take (length octets - 1) (drop 1 octets)
first_goes [] room some one = absurd (some refl)
first_goes (x ∷ octets) [] some one = cc
first_goes (x ∷ octets) (y ∷ room) some one =
    ap (λ r. x ∷ r) (sym (take_all (length (x ∷ octets) - 1) octets (omega arith)))

pub returns-then-not-is_empty-clause-octets : goal.returns-then-not-is_empty-clause-octets
returns-then-not-is_empty-clause-octets c = (
  first_goes c.args.self.now.now c.args.room.now
      (λ none. (let e = c.if-not-is_empty.ensures in let f = ap length none in search rules)) c.if-room-eq1.true,
  λ e. absurd (omega (arith, e)),
)
