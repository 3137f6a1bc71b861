use Rattle.std.proofs.Common.{◌∙◌, ◌∷◌, [], ap, subst}
use Rattle.x690.specs.Layouts.{context_specific}
use Rattle.x690.specs.ReadTypes.{read_type}
use Rattle.x690.specs.Reads.{Said}
use Rattle.x690.specs.TypeTerms.{EndOfFields, Required, SequenceType}
use Rattle.x690.specs.Values.{Same, Sequence, Value, values_of}
use Rattle.ber_pull.specs.Standing.{enclosing}
use Rattle.ber_pull.specs.View.{Answers}
use Rattle.asn_fields.proofs.tagged.TaggedElement.read.Goals as goal

pub returns-clause-reads : goal.returns-clause-reads
returns-clause-reads g c = λ given fine is.
    subst (λ own.
    (v : Value) × Same v (Sequence own (values_of (g.T.DerText.value c.in_ok-inner.field-0.0 ∷ [])))
    × Answers c.args.pull.now c.read_sequence_as.new.pull
    (read_type c.args.pull.now.state.limits (SequenceType own (Required g.T.Element.type_term EndOfFields)) []
    (enclosing c.args.pull.now.state) given.at given.tag given.constructed)
    (Said v))
    (c.context_tag.ensures ∙ ap context_specific c.from.ensures) (c.in_ok-inner.ensures.reads given [] fine is)
