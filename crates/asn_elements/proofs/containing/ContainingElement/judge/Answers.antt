use Rattle.std.proofs.Common.{refl, subst}
use Rattle.x690.specs.DerTexts.{der}
use Rattle.x690.specs.TypeTerms.{ContainingType, no_rule}
use Rattle.x690.specs.Values.{Leaf}
use Rattle.asn_elements.specs.InDer.{BeginsInDer}
use Rattle.asn_elements.proofs.containing.ContainingElement.judge.Goals as goal

pub returns : goal.returns
returns g c =
    let x = c.in_ok-_contents.ensures in
    subst (λ t. BeginsInDer c.args.limits.depth c.args._left (ContainingType t no_rule g.T.Element.type_term)
    c.args.octets.now c.in_ok-_contents.rest.now)
    c.universal_tag.ensures (Leaf _ (der x.contained), λ earlier. x.string no_rule c.args._left earlier refl)
