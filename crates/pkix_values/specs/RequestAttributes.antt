-- What clauses see of an attribute of a request (RFC 2986 section 4.1, RFC 2985 section 5.4.2).
use Rattle.std.specs.Prelude.{List, Option, ℕ}
use Rattle.std.specs.Option.{option_map}
use Rattle.asn_lists.specs.contracts.list.ListDerText.TheImpl as list_text
use Rattle.asn_lists.specs.declared.list.List.{List as SequenceOf}
use Rattle.asn_lists.specs.declared.set_of.SetOf.{SetOf}
use Rattle.asn_elements.specs.declared.der_text.DerText.{Ghosts}
use Rattle.asn_fields.specs.declared.either.Either.{Either}
use Rattle.asn_fields.specs.contracts.sequence.Sequence as sequence
use Rattle.asn_fields.specs.contracts.sequence.SequenceDerText.TheImpl as sequence_text
use Rattle.asn_fields.specs.declared.sequence.Sequence.{Sequence}
use Rattle.asn_open_values.specs.contracts.any.AnyDerText.TheImpl as any_text
use Rattle.asn_open_values.specs.declared.any.Any.{Any}
use Rattle.pkix_values.specs.Eithers.{each_of, first_of, second_of}
use Rattle.pkix_values.specs.SetsOfSome.{some_items}
use Rattle.pkix_values.specs.Extensions.{Extension, extension_text}
use Rattle.pkix_values.specs.contracts.extension.ExtensionFields as extension
use Rattle.pkix_values.specs.contracts.extension.ExtensionFieldsFieldsText.TheImpl as extension_fields_text
use Rattle.pkix_values.specs.contracts.extension.ExtensionFieldsSequenceFields.TheImpl as extension_fields
use Rattle.pkix_values.specs.contracts.request_attribute.RequestAttributeFields as of
use Rattle.pkix_values.specs.contracts.request_attribute.RequestAttributeFieldsFieldsText.TheImpl as fields_text
use Rattle.pkix_values.specs.contracts.request_attribute.RequestAttributeFieldsFirstFields.TheImpl as first_fields
use Rattle.pkix_values.specs.contracts.request_attribute.RequestAttributeFieldsSequenceFields.TheImpl as fields
use Rattle.pkix_values.specs.declared.request_attribute.RequestAttributeFields.{RequestAttributeFields}
use Rattle.pkix_values.specs.declared.set_of_some.SetOfSome.{SetOfSome}

abbrev pub RequestAttribute : Type 0
RequestAttribute = Sequence RequestAttributeFields fields.ghosts fields_text.ghosts

abbrev pub request_attribute_text : Ghosts RequestAttribute
request_attribute_text =
    sequence_text.ghosts of.the_row fields.ghosts sequence_text.no_dict first_fields.ghosts sequence_text.no_dict fields_text.ghosts
    sequence_text.no_dict sequence_text.no_dict

-- type
abbrev pub request_attribute_type_of : RequestAttributeFields → List ℕ
request_attribute_type_of it = it.0.earlier.0

-- Extensions, and how they are written
abbrev pub Extensions : Type 0
Extensions = SequenceOf Extension extension_text

abbrev pub extensions_text : Ghosts Extensions
extensions_text =
    list_text.ghosts (sequence.the_row extension.the_row extension_fields.ghosts extension_fields_text.ghosts)
    extension_text list_text.no_dict list_text.no_dict

-- values: Extensions under extensionRequest, else of any type
abbrev pub request_attribute_values_of : RequestAttributeFields
    → Either (SetOfSome Extensions extensions_text) (SetOfSome Any any_text.ghosts)
request_attribute_values_of it = each_of (λ lists. lists.0) (λ values. values.0) it.0.field.value

-- values under extensionRequest
abbrev pub extensions_of : RequestAttributeFields → Option (SetOf Extensions extensions_text)
extensions_of it = option_map some_items (first_of (request_attribute_values_of it))

-- values under any other type
abbrev pub plain_values_of : RequestAttributeFields → Option (SetOf Any any_text.ghosts)
plain_values_of it = option_map some_items (second_of (request_attribute_values_of it))
