-- What clauses see of a CertificationRequestInfo, by the names of its fields (RFC 2986 section 4.1).
use Rattle.std.specs.Prelude.{Option}
use Rattle.std.specs.Option.{option_map}
use Rattle.asn_fields.specs.declared.sequence.Sequence.{Sequence}
use Rattle.x690.specs.Layouts.{universal}
use Rattle.x690.specs.Values.{Sequence as SequenceValue, Value, values_of}
use Rattle.asn_lists.specs.declared.set_of.SetOf.{SetOf}
use Rattle.asn_elements.specs.Implicits.{value_under}
use Rattle.pkix_values.specs.PublicKeys.{SubjectPublicKeyInfo}
use Rattle.pkix_values.specs.RequestAttributes.{RequestAttribute, request_attribute_text}
use Rattle.pkix_values.specs.declared.name.Name.{Name}
use Rattle.pkcs10.specs.contracts.info.InfoFieldsFieldsText.TheImpl as fields_text
use Rattle.pkcs10.specs.contracts.info.InfoFieldsSequenceFields.TheImpl as fields
use Rattle.pkcs10.specs.declared.info.InfoFields.{InfoFields}

abbrev pub CertificationRequestInfo : Type 0
CertificationRequestInfo = Sequence InfoFields fields.ghosts fields_text.ghosts

abbrev pub info_value_of : CertificationRequestInfo → Value
info_value_of it = SequenceValue (universal 16) (values_of (fields_text.values-value.it it.fields))

-- subject
abbrev pub subject_of : InfoFields → Name
subject_of it = it.0.0.1.0

-- subjectPKInfo
abbrev pub subject_key_of : InfoFields → SubjectPublicKeyInfo
subject_key_of it = it.0.1.0.0

-- attributes, where they are there
abbrev pub request_attributes_of : InfoFields → Option (SetOf RequestAttribute request_attribute_text)
request_attributes_of it = option_map value_under it.0.1.1.0
