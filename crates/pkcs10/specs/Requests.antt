-- What clauses see of a CertificationRequest, by the names of its fields (RFC 2986 section 4.2).
use Rattle.asn_elements.specs.declared.bits.Bits.{Bits}
use Rattle.asn_fields.specs.declared.sequence.Sequence.{Sequence}
use Rattle.x690.specs.Layouts.{universal}
use Rattle.x690.specs.Values.{Sequence as SequenceValue, Value, values_of}
use Rattle.pkix_values.specs.declared.algorithm.AlgorithmIdentifier.{AlgorithmIdentifier}
use Rattle.pkcs10.specs.Infos.{CertificationRequestInfo}
use Rattle.pkcs10.specs.contracts.request.RequestFieldsFieldsText.TheImpl as fields_text
use Rattle.pkcs10.specs.contracts.request.RequestFieldsSequenceFields.TheImpl as fields
use Rattle.pkcs10.specs.declared.request.RequestFields.{RequestFields}

abbrev pub CertificationRequest : Type 0
CertificationRequest = Sequence RequestFields fields.ghosts fields_text.ghosts

abbrev pub request_value_of : CertificationRequest → Value
request_value_of it = SequenceValue (universal 16) (values_of (fields_text.values-value.it it.fields))

-- certificationRequestInfo
abbrev pub request_info_of : RequestFields → CertificationRequestInfo
request_info_of it = it.0.0.0

-- signatureAlgorithm
abbrev pub signature_algorithm_of : RequestFields → AlgorithmIdentifier
signature_algorithm_of it = it.0.1.0.0

-- signature
abbrev pub signature_of : RequestFields → Bits
signature_of it = it.0.1.1.0
