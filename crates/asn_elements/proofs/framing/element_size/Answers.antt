use Rattle.std.proofs.Common.{arith, false}
use Rattle.tlv_core.proofs.Headers.{header_short}
use Rattle.asn_elements.proofs.framing.element_size.Goals as goal

pub overflow_add-result : goal.overflow_add-result
overflow_add-result c =
    omega (
      arith,
      c.header_size.ensures false,
      header_short c.args.tag false c.args.content (omega arith) (omega arith),
    )

pub returns : goal.returns
returns c = λ form. omega (arith, c.header_size.ensures form)
