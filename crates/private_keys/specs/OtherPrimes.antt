-- What clauses see of an OtherPrimeInfo, by the names of its fields (RFC 8017 A.1.2).
use Rattle.asn_elements.specs.declared.integer.Int.{Int}
use Rattle.asn_fields.specs.declared.sequence.Sequence.{Sequence}
use Rattle.private_keys.specs.contracts.other_prime_info.OtherPrimeFieldsFieldsText.TheImpl as fields_text
use Rattle.private_keys.specs.contracts.other_prime_info.OtherPrimeFieldsSequenceFields.TheImpl as fields
use Rattle.private_keys.specs.declared.other_prime_info.OtherPrimeFields.{OtherPrimeFields}

abbrev pub OtherPrimeInfo : Type 0
OtherPrimeInfo = Sequence OtherPrimeFields fields.ghosts fields_text.ghosts

abbrev pub prime_of : OtherPrimeFields → Int
prime_of it = it.0.0.0

abbrev pub exponent_of : OtherPrimeFields → Int
exponent_of it = it.0.1.0.0

abbrev pub coefficient_of : OtherPrimeFields → Int
coefficient_of it = it.0.1.1.0
