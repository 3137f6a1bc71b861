-- What clauses see of an Extension, by the names of its fields (RFC 5280 section 4.1).
use Rattle.std.specs.Prelude.{Bool, List, ℕ}
use Rattle.asn_elements.specs.declared.octets.Octets.{Octets}
use Rattle.asn_elements.specs.declared.der_text.DerText.{Ghosts}
use Rattle.asn_fields.specs.contracts.sequence.SequenceDerText.TheImpl as sequence_text
use Rattle.asn_fields.specs.declared.sequence.Sequence.{Sequence}
use Rattle.pkix_values.specs.contracts.extension.ExtensionFields as of
use Rattle.pkix_values.specs.contracts.extension.ExtensionFieldsFieldsText.TheImpl as fields_text
use Rattle.pkix_values.specs.contracts.extension.ExtensionFieldsFirstFields.TheImpl as first_fields
use Rattle.pkix_values.specs.contracts.extension.ExtensionFieldsSequenceFields.TheImpl as fields
use Rattle.pkix_values.specs.declared.extension.ExtensionFields.{ExtensionFields}

abbrev pub Extension : Type 0
Extension = Sequence ExtensionFields fields.ghosts fields_text.ghosts

abbrev pub extension_text : Ghosts Extension
extension_text =
    sequence_text.ghosts of.the_row fields.ghosts sequence_text.no_dict first_fields.ghosts sequence_text.no_dict fields_text.ghosts
    sequence_text.no_dict sequence_text.no_dict

-- extnID
abbrev pub extension_id_of : ExtensionFields → List ℕ
extension_id_of it = it.0.0.0

-- critical
abbrev pub is_critical : ExtensionFields → Bool
is_critical it = it.0.1.0.0

-- extnValue
abbrev pub extension_value_of : ExtensionFields → Octets
extension_value_of it = it.0.1.1.0
