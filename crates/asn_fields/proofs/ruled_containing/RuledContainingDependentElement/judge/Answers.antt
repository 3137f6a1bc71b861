use Rattle.std.proofs.Common.{[], rules, subst}
use Rattle.x690.specs.DerTexts.{der}
use Rattle.x690.specs.Layouts.{universal}
use Rattle.x690.specs.TypeTerms.{ContainingType}
use Rattle.x690.specs.Values.{Leaf}
use Rattle.asn_elements.specs.InDer.{ContainsInDer}
use Rattle.asn_fields.proofs.ruled_containing.RuledContainingDependentElement.judge.Goals as goal

pub returns : goal.returns
returns g c = λ fields behind are.
    let limit = c.args.limits.depth in
    let x = subst (λ own. ContainsInDer limit own g.T.Element.type_term c.args.octets.now c.in_ok-contents.contents.now
    c.in_ok-contents.rest.now) c.universal_tag.ensures c.in_ok-contents.ensures in
    let stands = x.stands fields in
    let passes = c.passes_in_der.ensures (search rules) limit fields x.contained behind [] are
    (stands.tree, stands.is, stands.fits) in (
      Leaf (universal 4) (der x.contained),
      x.string g.K.FieldRules.rule c.args._left fields passes,
    )
