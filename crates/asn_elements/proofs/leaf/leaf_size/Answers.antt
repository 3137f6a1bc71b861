use Rattle.std.proofs.Common.{arith, ap, false, length}
use Rattle.std.proofs.lemmas.List.{length-append}
use Rattle.tlv_core.specs.Header.{der_header}
use Rattle.x690_laws.proofs.LengthsOfTexts.{der_leaf}
use Rattle.asn_elements.proofs.leaf.leaf_size.Goals as goal

pub returns : goal.returns
returns c =
    let xs = c.args.contents.now in
    omega (
      arith,
      c.element_size.ensures false,
      ap length (der_leaf c.args.tag xs),
      length-append (der_header c.args.tag false (length xs)) xs,
    )
