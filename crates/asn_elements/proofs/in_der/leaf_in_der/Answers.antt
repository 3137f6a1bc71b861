use Rattle.std.proofs.Common.{rules}
use Rattle.asn_elements.specs.Reading.{kind_of}
use Rattle.asn_elements.proofs.InDerTexts.{leaf_stands}
use Rattle.asn_elements.proofs.in_der.leaf_in_der.Goals as goal

pub returns : goal.returns
returns c = λ limit left.
    let g = c.if-not-is_der_contents in
    leaf_stands limit left c.args.tag (kind_of c.args.kind) c.args.octets.now c.in_ok-contents.contents.now
    c.in_ok-contents.rest.now c.in_ok-contents.ensures.tag c.in_ok-contents.ensures.is c.in_ok-contents.ensures.small
    (g.ensures.contents (search rules)) (g.ensures.der (search rules))
