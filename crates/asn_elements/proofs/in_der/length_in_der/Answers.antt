use Rattle.std.proofs.Common.{◌*◌, ◌+◌, ◌<◌, ap₂, arith, get_or}
use Rattle.asn_elements.proofs.InDerTexts.{four_in_der, one_in_der, three_in_der, two_in_der}
use Rattle.asn_elements.proofs.in_der.length_in_der.Goals as goal

pub returns-in-len1-up-clause-is : goal.returns-in-len1-up-clause-is
returns-in-len1-up-clause-is c =
    one_in_der c.args.octets.now c.from.result (omega arith) c.if-first-lt128.true c.from.ensures

pub returns-in-len2-up-clause-is : goal.returns-in-len2-up-clause-is
returns-in-len2-up-clause-is c =
    let octets = c.args.octets.now in
    let low : get_or octets 1 0 < 256 = (c.type_inv.octets 1).fits in
    two_in_der octets c.from-in-len2-up.result c.in-len2-up.len_at_least c.if-first.true c.if-low-ge128.true low
    c.from-in-len2-up.ensures

pub returns-in-len3-up-clause-is : goal.returns-in-len3-up-clause-is
returns-in-len3-up-clause-is c =
    let octets = c.args.octets.now in
    let high : get_or octets 1 0 < 256 = (c.type_inv.octets 1).fits in
    let low : get_or octets 2 0 < 256 = (c.type_inv.octets 2).fits in
    three_in_der octets _ c.in-len3-up.len_at_least c.if-first-2.true c.if-high-gt0.true high low
    (ap₂ (λ a b. a * 256 + b) c.from-in-len3-up.ensures c.from-in-len3-up-2.ensures)

pub returns-in-len4-up-clause-is : goal.returns-in-len4-up-clause-is
returns-in-len4-up-clause-is c =
    let octets = c.args.octets.now in
    let high : get_or octets 1 0 < 256 = (c.type_inv.octets 1).fits in
    let middle : get_or octets 2 0 < 256 = (c.type_inv.octets 2).fits in
    let low : get_or octets 3 0 < 256 = (c.type_inv.octets 3).fits in
    four_in_der octets _ c.in-len4-up.len_at_least c.if-first-3.true c.if-high-gt0-2.true high middle low
    (ap₂ (λ a b. a * 256 + b)
    (ap₂ (λ a b. a * 256 + b) c.from-in-len4-up.ensures c.from-in-len4-up-2.ensures) c.from-in-len4-up-3.ensures)
