use Rattle.std.proofs.Common.{length, false, ap, ◌∙◌, arith}
use Rattle.tlv_core.proofs.Headers.{either_form, low_header, shortest_brief, shortest_counted}
use Rattle.tlv_core.proofs.der.header_size.Goals as goal

pub returns-then-number-ge31 : goal.returns-then-number-ge31
returns-then-number-ge31 c =
    λ form. ap length (c.octets.ensures ∙ c.header.ensures.octets) ∙ either_form c.args.tag false form c.args.content

pub returns-then-content-lt128 : goal.returns-then-content-lt128
returns-then-content-lt128 c =
    λ form. omega (
      arith,
      low_header c.args.tag form c.args.content (omega (arith, c.number.ensures)),
      ap length (shortest_brief c.args.content (omega arith)),
    )

pub returns : goal.returns
returns c =
    λ form. omega (
      arith,
      low_header c.args.tag form c.args.content (omega (arith, c.number.ensures)),
      ap length (shortest_counted c.args.content (omega arith)),
      c.number_size.ensures,
      c.from.ensures,
    )
