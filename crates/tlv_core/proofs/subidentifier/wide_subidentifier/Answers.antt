use Rattle.std.proofs.Common.{arith, refl, sym, ap, ◌∙◌, ◌+◌, ◌*◌, ◌<◌, ℕ, get_or, drop, ◌∷◌}
use Rattle.std.proofs.lemmas.List.{drop_more, drop_all}
use Rattle.tlv_core.proofs.Digits.{leading_none}
use Rattle.tlv_core.proofs.ObjectIdentifiers.{too_great, no_last, needless_zero, digit_next, digit_last}
use Rattle.tlv_core.proofs.subidentifier.wide_subidentifier.Goals as goal
use Rattle.tlv_core.proofs.subidentifier.wide_subidentifier.Goals.{else-octet-via-then-octet+else-number-eq0, else-octet-via-else-octet}

pub loop-i-init : goal.loop-i-init
loop-i-init c = sym (leading_none 0 0 refl)

pub returns-then-number-eq0-clause-none : goal.returns-then-number-eq0-clause-none
returns-then-number-eq0-clause-none c = λ _.
    let octets = c.args.octets.now in
    let i = c.loop-i.i in
    needless_zero octets i c.loop-i.number (drop (i + 1) octets) c.loop-i.invariant c.if-number-eq0.true
    (drop_more octets i 0 c.loop-i-test.true ∙ ap (λ (x : ℕ). x ∷ drop (i + 1) octets) c.if-octet.true)

pub returns-then-number-clause-none : goal.returns-then-number-clause-none
returns-then-number-clause-none c =
    λ _. too_great c.args.octets.now c.loop-i.i c.loop-i.number c.loop-i.invariant c.if-number.true

pub returns-then-octet-lt128-clause-digits : goal.returns-then-octet-lt128-clause-digits
returns-then-octet-lt128-clause-digits c =
    digit_last _ _ _ _ _ c.loop-i-test.true c.loop-i.invariant refl c.if-octet-lt128.true
    (ap (λ (x : ℕ). c.loop-i.number * 128 + x) c.from.ensures)

pub loop-i-preserved : goal.loop-i-preserved
loop-i-preserved c =
    let number = c.loop-i.number in
    let small : get_or c.args.octets.now c.loop-i.i 0 < 256 = (c.type_inv.octets c.loop-i.i).fits in
    let some : 0 < number * 128 + c.from.result = elim c.else-octet.branch [
      | else-octet-via-then-octet+else-number-eq0 w ↦
          omega (arith, w.if-number-eq0.false)
      | else-octet-via-else-octet w ↦ omega (arith, w.if-octet.false, c.from.ensures, c.if-octet-lt128.false, small)
    ] in
    digit_next _ _ _ _ _ c.loop-i-test.true c.loop-i.invariant refl c.if-octet-lt128.false small
    (ap (λ (x : ℕ). number * 128 + x) c.from.ensures) some

pub returns-clause-none : goal.returns-clause-none
returns-clause-none c = λ _.
    no_last c.args.octets.now c.loop-i.i _ c.loop-i.invariant
    (drop_all c.loop-i.i c.args.octets.now c.loop-i-test.false)
