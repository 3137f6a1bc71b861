use Rattle.std.proofs.Common.{arith, ◌-◌, ◌*◌, ◌/◌, ◌^◌, ◌∙◌, ap, ap₂, set}
use Rattle.asn_elements.proofs.BitReadings.{cleared}
use Rattle.asn_elements.proofs.leaf_reading.clear_bits.Goals as goal

pub returns-then-last-gt0 : goal.returns-then-last-gt0
returns-then-last-gt0 c =
    let contents = c.args.contents.now.items in
    let last = c.len-last.result - 1 in
    ap (λ w. set contents last w)
    (c.without_last_bits.ensures ∙ ap₂ (λ w u. w / 2 ^ u * 2 ^ u) c.index.ensures c.index-then-last-gt0.ensures)
    ∙ cleared contents last c.index.result.now c.index-then-last-gt0.result.now (omega arith) (omega arith)
