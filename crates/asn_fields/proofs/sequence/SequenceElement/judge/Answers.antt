use Rattle.std.proofs.Common.{subst, sym}
use Rattle.x690.specs.TypeTerms.{EndOfFields, SequenceType}
use Rattle.asn_elements.specs.InDer.{BeginsInDer}
use Rattle.asn_fields.proofs.sequence.SequenceElement.judge.Goals as goal

pub returns : goal.returns
returns g c =
    subst (λ type. BeginsInDer c.args.limits.depth c.args.left type c.args.octets.now c.in_ok-rest.rest.now)
    (sym g.met.K.SequenceFields.listed)
    (subst (λ own. BeginsInDer c.args.limits.depth c.args.left
    (SequenceType own (g.K.FieldsText.listing.types EndOfFields)) c.args.octets.now c.in_ok-rest.rest.now)
    c.universal_tag.ensures c.in_ok-rest.ensures)
