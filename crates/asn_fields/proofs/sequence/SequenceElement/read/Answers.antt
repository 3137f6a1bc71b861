use Rattle.std.proofs.Common.{[], subst, sym}
use Rattle.x690.specs.Layouts.{universal}
use Rattle.x690.specs.Reads.{Said}
use Rattle.x690.specs.TypeTerms.{EndOfFields, SequenceType}
use Rattle.x690.specs.Values.{Same, Sequence as SequenceValue, Value, values_of}
use Rattle.ber_pull.specs.View.{Answers, standing}
use Rattle.asn_elements.specs.Reading.{read_given}
use Rattle.asn_fields.proofs.sequence.SequenceElement.read.Goals as goal

pub returns-clause-reads : goal.returns-clause-reads
returns-clause-reads g c = λ given fine is.
    let old = c.args.pull.now in
    let new = c.read_sequence_as.new.pull in
    let fields = values_of (g.K.FieldsText.values c.in_ok-fields.fields) in
    subst (λ type. (x : Value) × Same x (SequenceValue (universal 16) fields)
    × Answers old new (read_given type (standing old) given) (Said x)) (sym g.met.K.SequenceFields.listed)
    (subst (λ own. (x : Value) × Same x (SequenceValue own fields)
    × Answers old new (read_given (SequenceType own (g.K.FieldsText.listing.types EndOfFields)) (standing old) given)
    (Said x)) c.universal_tag.ensures (c.in_ok-fields.ensures.reads given [] fine is))
