-- What clauses see of an RSAPrivateKey, by the names of its fields (RFC 8017 A.1.2).
use Rattle.std.specs.Prelude.{List, ℕ}
use Rattle.std.specs.Option.{option_map}
use Rattle.x690.specs.Layouts.{universal}
use Rattle.x690.specs.Values.{Sequence as SequenceValue, Value, values_of}
use Rattle.asn_elements.specs.declared.der_text.DerText.{Ghosts}
use Rattle.asn_elements.specs.declared.element.Element as elements
use Rattle.asn_fields.specs.contracts.sequence.SequenceDerText.TheImpl as sequence_text
use Rattle.asn_fields.specs.contracts.sequence.SequenceElement.TheImpl as sequence_element
use Rattle.asn_fields.specs.contracts.ruled_sequence.RuleOfFieldsRulesSequence.TheImpl as rules
use Rattle.asn_fields.specs.declared.ruled.Ruled.{Ruled}
use Rattle.asn_fields.specs.declared.ruled_sequence.RuleOfFields.{RuleOfFields}
use Rattle.asn_fields.specs.declared.sequence.Sequence.{Sequence}
use Rattle.asn_lists.specs.Containers.{list_items}
use Rattle.pkix_values.specs.VersionNumbers.{version_number}
use Rattle.private_keys.specs.RsaKeys.{numbers_of, other_primes}
use Rattle.private_keys.specs.OtherPrimes.{OtherPrimeInfo}
use Rattle.private_keys.specs.contracts.rsa_private_key.RsaFields as of
use Rattle.private_keys.specs.contracts.rsa_private_key.RsaFieldsFieldsText.TheImpl as fields_text
use Rattle.private_keys.specs.contracts.rsa_private_key.RsaFieldsFirstFields.TheImpl as first_fields
use Rattle.private_keys.specs.contracts.rsa_private_key.RsaFieldsRuledFields.TheImpl as ruled_fields
use Rattle.private_keys.specs.contracts.rsa_private_key.RsaFieldsSequenceFields.TheImpl as fields
use Rattle.private_keys.specs.declared.rsa_private_key.RsaFields.{RsaFields}

abbrev pub RsaSequence : Type 0
RsaSequence = Sequence RsaFields fields.ghosts fields_text.ghosts

abbrev rsa_text : Ghosts RsaSequence
rsa_text =
    sequence_text.ghosts of.the_row fields.ghosts sequence_text.no_dict first_fields.ghosts sequence_text.no_dict
    fields_text.ghosts sequence_text.no_dict sequence_text.no_dict

abbrev rsa_element : elements.Ghosts RsaSequence
rsa_element =
    sequence_element.ghosts of.the_row fields.ghosts sequence_element.no_dict first_fields.ghosts
    sequence_element.no_dict fields_text.ghosts sequence_element.no_dict sequence_element.no_dict

abbrev pub RsaPrivateKey : Type 0
RsaPrivateKey =
    Ruled RsaSequence RuleOfFields rsa_element rsa_text
    (rules.ghosts of.the_row ruled_fields.ghosts rules.no_dict fields.ghosts rules.no_dict first_fields.ghosts
    rules.no_dict fields_text.ghosts rules.no_dict rules.no_dict)

abbrev pub rsa_value_of : RsaPrivateKey → Value
rsa_value_of it = SequenceValue (universal 16) (values_of (fields_text.values-value.it it.value.fields))

-- version
abbrev pub rsa_version_of : RsaFields → ℕ
rsa_version_of it = version_number it.0.earlier.0.0

-- modulus, publicExponent, privateExponent, prime1, prime2, exponent1, exponent2, coefficient
abbrev pub rsa_numbers_of : RsaFields → List (List ℕ)
rsa_numbers_of it = numbers_of it.0.earlier.1

-- otherPrimeInfos, none where they aren't there
abbrev pub other_primes_of : RsaFields → List OtherPrimeInfo
other_primes_of it =
    other_primes (λ list. list_items list.0.items) (option_map (λ others. others.0.value) it.0.field)
