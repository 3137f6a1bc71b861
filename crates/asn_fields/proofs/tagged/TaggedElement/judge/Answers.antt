use Rattle.std.proofs.Common.{◌∙◌, ap, subst}
use Rattle.x690.specs.Layouts.{context_specific}
use Rattle.x690.specs.TypeTerms.{EndOfFields, Required, SequenceType}
use Rattle.asn_elements.specs.InDer.{BeginsInDer}
use Rattle.asn_fields.proofs.tagged.TaggedElement.judge.Goals as goal

pub returns : goal.returns
returns g c =
    subst (λ own. BeginsInDer c.args.limits.depth c.args.left
    (SequenceType own (Required g.T.Element.type_term EndOfFields)) c.args.octets.now c.in_ok-rest.rest.now)
    (c.context_tag.ensures ∙ ap context_specific c.from.ensures) c.in_ok-rest.ensures
