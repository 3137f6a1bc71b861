-- What clauses see of an EncryptedPrivateKeyInfo, by the names of its fields (RFC 5958 section 3).
use Rattle.asn_elements.specs.declared.octets.Octets.{Octets}
use Rattle.asn_fields.specs.declared.sequence.Sequence.{Sequence}
use Rattle.x690.specs.Layouts.{universal}
use Rattle.x690.specs.Values.{Sequence as SequenceValue, Value, values_of}
use Rattle.pkix_values.specs.declared.algorithm.AlgorithmIdentifier.{AlgorithmIdentifier}
use Rattle.pkcs8.specs.contracts.encrypted_key.EncryptedKeyFieldsFieldsText.TheImpl as fields_text
use Rattle.pkcs8.specs.contracts.encrypted_key.EncryptedKeyFieldsSequenceFields.TheImpl as fields
use Rattle.pkcs8.specs.declared.encrypted_key.EncryptedKeyFields.{EncryptedKeyFields}

abbrev pub EncryptedKey : Type 0
EncryptedKey = Sequence EncryptedKeyFields fields.ghosts fields_text.ghosts

abbrev pub encrypted_key_value_of : EncryptedKey → Value
encrypted_key_value_of it = SequenceValue (universal 16) (values_of (fields_text.values-value.it it.fields))

-- encryptionAlgorithm
abbrev pub encryption_algorithm_of : EncryptedKeyFields → AlgorithmIdentifier
encryption_algorithm_of it = it.0.0.0

-- encryptedData
abbrev pub encrypted_data_of : EncryptedKeyFields → Octets
encrypted_data_of it = it.0.1.0
