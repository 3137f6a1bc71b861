-- What clauses see of an AsymmetricKeyPackage (RFC 5958 section 2).
use Rattle.asn_lists.specs.declared.list.List.{List}
use Rattle.pkcs8.specs.contracts.one_asymmetric_key.OneAsymmetricKeyDerText.TheImpl as key_text
use Rattle.pkcs8.specs.declared.key_package.KeyPackage.{KeyPackage}
use Rattle.pkcs8.specs.declared.one_asymmetric_key.OneAsymmetricKey.{OneAsymmetricKey}

-- its keys, in order
abbrev pub keys_of : KeyPackage → List OneAsymmetricKey key_text.ghosts
keys_of it = it.0.items
