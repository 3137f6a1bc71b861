-- What clauses see of an Attribute, by the names of its fields (RFC 2986 section 4.1).
use Rattle.std.specs.Prelude.{List, ℕ}
use Rattle.asn_elements.specs.declared.der_text.DerText.{Ghosts}
use Rattle.asn_fields.specs.contracts.sequence.SequenceDerText.TheImpl as sequence_text
use Rattle.asn_fields.specs.declared.sequence.Sequence.{Sequence}
use Rattle.asn_lists.specs.declared.set_of.SetOf.{SetOf}
use Rattle.asn_open_values.specs.contracts.any.AnyDerText.TheImpl as any_text
use Rattle.asn_open_values.specs.declared.any.Any.{Any}
use Rattle.pkix_values.specs.contracts.attribute.AttributeFields as of
use Rattle.pkix_values.specs.contracts.attribute.AttributeFieldsFieldsText.TheImpl as fields_text
use Rattle.pkix_values.specs.contracts.attribute.AttributeFieldsFirstFields.TheImpl as first_fields
use Rattle.pkix_values.specs.contracts.attribute.AttributeFieldsSequenceFields.TheImpl as fields
use Rattle.pkix_values.specs.declared.attribute.AttributeFields.{AttributeFields}

abbrev pub Attribute : Type 0
Attribute = Sequence AttributeFields fields.ghosts fields_text.ghosts

abbrev pub attribute_text : Ghosts Attribute
attribute_text =
    sequence_text.ghosts of.the_row fields.ghosts sequence_text.no_dict first_fields.ghosts sequence_text.no_dict fields_text.ghosts
    sequence_text.no_dict sequence_text.no_dict

-- type
abbrev pub attribute_type_of : AttributeFields → List ℕ
attribute_type_of it = it.0.0.0

-- values
abbrev pub attribute_values_of : AttributeFields → SetOf Any any_text.ghosts
attribute_values_of it = it.0.1.0.items
