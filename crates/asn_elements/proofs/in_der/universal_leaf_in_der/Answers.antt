use Rattle.std.proofs.Common.{subst}
use Rattle.x690.specs.TypeTerms.{LeafType}
use Rattle.asn_elements.specs.InDer.{BeginsInDer}
use Rattle.asn_elements.specs.Reading.{kind_of}
use Rattle.asn_elements.proofs.in_der.universal_leaf_in_der.Goals as goal

pub returns : goal.returns
returns c = λ limit left.
    subst (λ t. BeginsInDer limit left (LeafType t (kind_of c.args.kind)) c.args.octets.now c.in_ok-rest.rest.now)
    c.universal_tag.ensures (c.in_ok-rest.ensures limit left)
