use Rattle.std.proofs.Common.{arith, ◌≡◌, ◌∙◌, ◌+◌, ◌-◌, ap, drop, length}
use Rattle.tlv_core.specs.Identifier.{identifier}
use Rattle.ber_outline.specs.Announced.{announced}
use Rattle.ber_outline.proofs.Numbers.{header_longer}
use Rattle.ber_outline.proofs.next.header_at.Goals as goal

pub overflow_sub-after : goal.overflow_sub-after
overflow_sub-after c =
    let size = c.header_size.ensures c.args.constructed ∙ header_longer c.args.tag c.args.constructed in
    omega (arith, size)

pub overflow_add-after : goal.overflow_add-after
overflow_add-after c =
    let size = c.header_size.ensures c.args.constructed ∙ header_longer c.args.tag c.args.constructed in
    omega (arith, size, c.requires)

pub announced_length-requires : goal.announced_length-requires
announced_length-requires c =
    let size = c.header_size.ensures c.args.constructed ∙ header_longer c.args.tag c.args.constructed in
    omega (arith, size, c.requires)

pub returns : goal.returns
returns c =
    let size = c.header_size.ensures c.args.constructed ∙ header_longer c.args.tag c.args.constructed in
    let after : c.args.at + (c.header_size.result - 1)
    ≡ c.args.at + length (identifier c.args.tag c.args.constructed) = omega (arith, size) in
    ap (λ a. record {
      at = c.args.at;
      tag = c.args.tag;
      constructed = c.args.constructed;
      depth = c.args.depth;
      announced = a;
    }) (c.announced_length.ensures ∙ ap (λ k. announced k (drop k c.args.document.now)) after)
