use Rattle.std.proofs.Common.{arith, ◌-◌, ◌*◌, ◌/◌, ◌^◌, ◌<◌, length, set, sym, ap, ◌∙◌}
use Rattle.std.proofs.lemmas.Bool.Decides.{nat_tests}
use Rattle.ber_pull.proofs.Joining.{clear_at}
use Rattle.ber_pull.proofs.string.clear_unused.Goals as goal

pub returns : goal.returns
returns c =
    let some : 0 < length c.args.octets.items =
    let e = sym c.is_empty.ensures ∙ c.if-is_empty.false in grind (arith, nat_tests) in
    ap (λ w. set c.args.octets.items (c.len-last.result - 1) w)
    (c.without_last_bits.ensures ∙ ap (λ w. w / 2 ^ c.args.unused * 2 ^ c.args.unused) c.index.ensures)
    ∙ clear_at c.args.octets.items c.args.unused (c.len-last.result - 1) c.index.result.now (omega arith)
