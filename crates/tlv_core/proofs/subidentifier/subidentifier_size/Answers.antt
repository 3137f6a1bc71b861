use Rattle.std.proofs.Common.{◌<◌, arith, get_or, refl, sym}
use Rattle.std.proofs.lemmas.Bool.Decides.{nat_tests}
use Rattle.std.proofs.lemmas.List.{drop_all}
use Rattle.tlv_core.proofs.Digits.{leading_none}
use Rattle.tlv_core.proofs.ObjectIdentifiers.{digit_last, digit_next, no_last}
use Rattle.tlv_core.proofs.subidentifier.subidentifier_size.Goals as goal

pub returns-then-is_empty-clause-none : goal.returns-then-is_empty-clause-none
returns-then-is_empty-clause-none c = λ _.
    no_last c.args.octets.now 0 0 (sym (leading_none 0 0 refl)) (drop_all 0 c.args.octets.now (grind (arith, nat_tests)))

pub returns-then-first-lt128-clause-some : goal.returns-then-first-lt128-clause-some
returns-then-first-lt128-clause-some c = λ _.
    (_, omega (arith, c.if-first-lt128.true), digit_last c.args.octets.now 0 0 _ _ (grind (arith, nat_tests)) (sym (leading_none 0 0 refl)) refl c.if-first-lt128.true refl)

pub returns-then-octets-lt128-clause-some : goal.returns-then-octets-lt128-clause-some
returns-then-octets-lt128-clause-some c = λ _.
    let octets = c.args.octets.now in
    let above = c.if-first-gt128.true in
    let small : get_or octets 0 0 < 256 = (c.type_inv.octets 0).fits in
    let first = digit_next octets 0 0 _ _ (omega (arith, c.if-octets-gt1.true)) (sym (leading_none 0 0 refl)) refl
    c.if-first-lt128.false small refl (omega (arith, above, small)) in
    (_, omega arith, digit_last octets 1 _ _ _ c.if-octets-gt1.true first refl c.if-octets-lt128.true refl)

pub returns-then-octets-lt128-2-clause-some : goal.returns-then-octets-lt128-2-clause-some
returns-then-octets-lt128-2-clause-some c = λ _.
    let octets = c.args.octets.now in
    let above = c.if-first-gt128.true in
    let small : get_or octets 0 0 < 256 = (c.type_inv.octets 0).fits in
    let next : get_or octets 1 0 < 256 = (c.type_inv.octets 1).fits in
    let first = digit_next octets 0 0 _ _ (omega (arith, c.if-octets-gt1.true)) (sym (leading_none 0 0 refl)) refl
    c.if-first-lt128.false small refl (omega (arith, above, small)) in
    let second = digit_next octets 1 _ _ _ c.if-octets-gt1.true first refl c.if-octets-lt128.false next refl
    (omega (arith, above, small)) in
    (_, omega arith, digit_last octets 2 _ _ _ c.if-octets-gt2.true second refl c.if-octets-lt128-2.true refl)
