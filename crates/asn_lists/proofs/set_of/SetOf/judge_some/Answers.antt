use Rattle.std.proofs.Common.{subst}
use Rattle.x690.specs.TypeTerms.{SetOfType}
use Rattle.asn_elements.specs.InDer.{BeginsInDer}
use Rattle.asn_lists.proofs.set_of.SetOf.judge_some.Goals as goal

pub returns : goal.returns
returns g c =
    subst (λ own. BeginsInDer c.args.limits.depth c.args.left (SetOfType own 1 g.T.Element.type_term) c.args.octets.now
    c.in_ok-rest.rest.now) c.universal_tag.ensures c.in_ok-rest.ensures
