use Rattle.std.proofs.Common.{◌≡◌, ◌<◌, ◌==◌, ◌+◌, ◌*◌, ◌∙◌, ap₂, arith, false, inl, inr, length, refl, sym, true}
use Rattle.std.proofs.lemmas.Bool.Decides.{nat_tests}
use Rattle.ber_pull.proofs.AtHand.{few_spell, none_few, not_few, only_few}
use Rattle.ber_pull.proofs.at_hand.short_length.Goals as goal

pub returns-then-is_empty-clause-all : goal.returns-then-is_empty-clause-all
returns-then-is_empty-clause-all c = λ text rest n is spells short.
    let octets = c.args.octets.now in
    let t : (length octets == 0) ≡ true = sym c.is_empty.ensures ∙ c.if-is_empty.true in
    let none : length octets ≡ 0 = grind (arith, nat_tests) in
    none_few octets text rest n is spells short
    (not_few octets (length text) n (λ a b. omega (arith, a, none)) (λ a b. omega (arith, a, none))
    (λ a b. omega (arith, a, none)))

pub returns-then-first-lt128-clause-spells : goal.returns-then-first-lt128-clause-spells
returns-then-first-lt128-clause-spells c =
    let octets = c.args.octets.now in
    let t : (length octets == 0) ≡ false = sym c.is_empty.ensures ∙ c.if-is_empty.false in
    let some : 0 < length octets = grind (arith, nat_tests) in
    few_spell octets 1 c.from-size.result (inl (some, c.if-first-lt128.true, refl, c.from-size.ensures))

pub returns-then-first-lt128-clause-all : goal.returns-then-first-lt128-clause-all
returns-then-first-lt128-clause-all c =
    let octets = c.args.octets.now in
    let t : (length octets == 0) ≡ false = sym c.is_empty.ensures ∙ c.if-is_empty.false in
    let some : 0 < length octets = grind (arith, nat_tests) in
    only_few octets 1 c.from-size.result (inl (some, c.if-first-lt128.true, refl, c.from-size.ensures))

pub returns-then-octets-lt2-clause-all : goal.returns-then-octets-lt2-clause-all
returns-then-octets-lt2-clause-all c = λ text rest n is spells short.
    let first = c.if-first.true in
    none_few c.args.octets.now text rest n is spells short
    (not_few c.args.octets.now (length text) n (λ a b. omega (arith, b, first))
    (λ a b. omega (arith, a, c.if-octets-lt2.true)) (λ a b. omega (arith, b, first)))

pub returns-then-first-clause-spells : goal.returns-then-first-clause-spells
returns-then-first-clause-spells c =
    let some : 1 < length c.args.octets.now = omega (arith, c.if-octets-lt2.false) in
    few_spell c.args.octets.now 2 c.from-size-then-first.result
    (inr (inl (some, c.if-first.true, refl, c.from-size-then-first.ensures)))

pub returns-then-first-clause-all : goal.returns-then-first-clause-all
returns-then-first-clause-all c =
    let some : 1 < length c.args.octets.now = omega (arith, c.if-octets-lt2.false) in
    only_few c.args.octets.now 2 c.from-size-then-first.result
    (inr (inl (some, c.if-first.true, refl, c.from-size-then-first.ensures)))

pub returns-then-octets-lt3-clause-all : goal.returns-then-octets-lt3-clause-all
returns-then-octets-lt3-clause-all c = λ text rest n is spells short.
    let first = c.if-first-2.true in
    none_few c.args.octets.now text rest n is spells short
    (not_few c.args.octets.now (length text) n (λ a b. omega (arith, b, first)) (λ a b. omega (arith, b, first))
    (λ a b. omega (arith, a, c.if-octets-lt3.true)))

pub returns-then-first-2-clause-spells : goal.returns-then-first-2-clause-spells
returns-then-first-2-clause-spells c =
    let some : 2 < length c.args.octets.now = omega (arith, c.if-octets-lt3.false) in
    few_spell c.args.octets.now 3 _
    (inr (inr (some, c.if-first-2.true, refl, ap₂ (λ a b. a * 256 + b) c.from.ensures c.from-then-first-2.ensures)))

pub returns-then-first-2-clause-all : goal.returns-then-first-2-clause-all
returns-then-first-2-clause-all c =
    let some : 2 < length c.args.octets.now = omega (arith, c.if-octets-lt3.false) in
    only_few c.args.octets.now 3 _
    (inr (inr (some, c.if-first-2.true, refl, ap₂ (λ a b. a * 256 + b) c.from.ensures c.from-then-first-2.ensures)))

pub returns-clause-all : goal.returns-clause-all
returns-clause-all c = λ text rest n is spells short.
    none_few c.args.octets.now text rest n is spells short
    (not_few c.args.octets.now (length text) n (λ a b. omega (arith, b, c.if-first-lt128.false))
    (λ a b. c.if-first.false b) (λ a b. c.if-first-2.false b))
