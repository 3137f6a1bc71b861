use Rattle.std.proofs.Common.{◌≡◌, ◌*◌, ◌-◌, ◌/◌, ◌^◌, ◌∙◌, ap, arith, get_or, length, set, sym}
use Rattle.std.proofs.lemmas.Bool.Decides.{nat_tests}
use Rattle.std.proofs.lemmas.List.{set-get_or}
use Rattle.asn_elements.proofs.BitReadings.{cleared}
use Rattle.asn_elements.proofs.in_der.has_cleared_bits.Goals as goal

pub returns-else-last-eq0 : goal.returns-else-last-eq0
returns-else-last-eq0 c = λ same.
    let contents = c.args.contents.now in
    let last = length contents - 1 in
    let found : c.without_last_bits.result ≡ get_or contents last 0 = grind (arith, nat_tests) in
    let kept : get_or contents last 0 / 2 ^ get_or contents 0 0 * 2 ^ get_or contents 0 0 ≡ get_or contents last 0 =
    sym c.without_last_bits.ensures ∙ found in
    sym (cleared contents last 0 0 (omega arith) (omega arith)) ∙ ap (set contents last) kept
    ∙ set-get_or contents last 0
