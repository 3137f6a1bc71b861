use Rattle.std.proofs.Common.{◌∙◌, sym}
use Rattle.ber_outline.proofs.Numbers.{too_large_after}
use Rattle.ber_outline.proofs.announced.+big_endian.Goals as goal

pub returns-then-number : goal.returns-then-number
returns-then-number t c =
    too_large_after c.args.high c.from.result c.args.octets.now c.from.ensures
    (sym c.is_empty.ensures ∙ c.if-is_empty.false) c.if-number.true
