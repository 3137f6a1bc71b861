-- What clauses see of a Name, by the names of its parts (RFC 5280 section 4.1.2.4).
use Rattle.std.specs.Prelude.{List, ℕ}
use Rattle.asn_fields.specs.declared.sequence.Sequence.{Sequence}
use Rattle.asn_lists.specs.declared.list.List.{List as SequenceOf}
use Rattle.asn_open_values.specs.declared.any.Any.{Any}
use Rattle.asn_elements.specs.declared.der_text.DerText.{Ghosts}
use Rattle.asn_fields.specs.contracts.sequence.Sequence as sequence
use Rattle.asn_fields.specs.contracts.sequence.SequenceDerText.TheImpl as sequence_text
use Rattle.pkix_values.specs.contracts.name.NameItemFields as item
use Rattle.pkix_values.specs.contracts.name.NameItemFieldsFieldsText.TheImpl as fields_text
use Rattle.pkix_values.specs.contracts.name.NameItemFieldsFirstFields.TheImpl as first_fields
use Rattle.pkix_values.specs.contracts.name.NameItemFieldsSequenceFields.TheImpl as fields
use Rattle.pkix_values.specs.contracts.set_of_some.SetOfSomeDerText.TheImpl as some_text
use Rattle.pkix_values.specs.declared.name.Name.{Name}
use Rattle.pkix_values.specs.declared.name.NameItemFields.{NameItemFields}
use Rattle.pkix_values.specs.declared.set_of_some.SetOfSome.{SetOfSome}

-- AttributeTypeAndValue
abbrev pub NameItem : Type 0
NameItem = Sequence NameItemFields fields.ghosts fields_text.ghosts

abbrev pub item_text : Ghosts NameItem
item_text =
    sequence_text.ghosts item.the_row fields.ghosts sequence_text.no_dict first_fields.ghosts sequence_text.no_dict fields_text.ghosts
    sequence_text.no_dict sequence_text.no_dict

-- its type
abbrev pub item_type_of : NameItemFields → List ℕ
item_type_of it = it.0.0.0

-- its value
abbrev pub item_value_of : NameItemFields → Any
item_value_of it = it.0.1.0

-- RelativeDistinguishedName
abbrev pub Rdn : Type 0
Rdn = SetOfSome NameItem item_text

-- RDNSequence
abbrev pub rdns_of : Name
    → SequenceOf Rdn
    (some_text.ghosts (sequence.the_row item.the_row fields.ghosts fields_text.ghosts) item_text some_text.no_dict
    some_text.no_dict)
rdns_of it = it.rdns
