-- What clauses see of a SubjectPublicKeyInfo, by the names of its fields (RFC 5280 section 4.1.2.7).
use Rattle.asn_elements.specs.declared.bits.Bits.{Bits}
use Rattle.asn_fields.specs.declared.sequence.Sequence.{Sequence}
use Rattle.x690.specs.Layouts.{universal}
use Rattle.x690.specs.Values.{Sequence as SequenceValue, Value, values_of}
use Rattle.pkix_values.specs.contracts.public_key.PublicKeyFieldsFieldsText.TheImpl as fields_text
use Rattle.pkix_values.specs.contracts.public_key.PublicKeyFieldsSequenceFields.TheImpl as fields
use Rattle.pkix_values.specs.declared.algorithm.AlgorithmIdentifier.{AlgorithmIdentifier}
use Rattle.pkix_values.specs.declared.public_key.PublicKeyFields.{PublicKeyFields}

abbrev pub SubjectPublicKeyInfo : Type 0
SubjectPublicKeyInfo = Sequence PublicKeyFields fields.ghosts fields_text.ghosts

abbrev pub public_key_value_of : SubjectPublicKeyInfo → Value
public_key_value_of it = SequenceValue (universal 16) (values_of (fields_text.values-value.it it.fields))

-- algorithm
abbrev pub public_key_algorithm_of : PublicKeyFields → AlgorithmIdentifier
public_key_algorithm_of it = it.0.earlier.0

-- subjectPublicKey
abbrev pub subject_public_key_of : PublicKeyFields → Bits
subject_public_key_of it = it.0.field.value
