use Rattle.std.proofs.Common.{◌≡◌, ◌∙◌, [], None, ap, rules, subst, sym}
use Rattle.x690.specs.Layouts.{universal}
use Rattle.asn_elements.specs.InDer.{BeginsWithText}
use Rattle.asn_fields.proofs.FieldsInDer.{sequence_fields}
use Rattle.asn_fields.proofs.ruled_sequence.RuleOfFieldsRulesSequence.passes_in_der.Goals as goal

pub returns-in-Some : goal.returns-in-Some
returns-in-Some g c = λ passes limit value rest stands.
    let types = g.K.FieldsText.listing.types in
    let fields = sequence_fields limit (universal 16) _ types value c.args.octets.now _ rest _
    (subst (λ type. BeginsWithText limit type [] value c.args.octets.now rest) g.met.K.SequenceFields.listed stands)
    c.in-Some.ensures.is in
    ap (g.K.RuledFields.rule []) fields.1 ∙ c.pass_in_der.ensures (search rules) limit fields.0 fields.2
