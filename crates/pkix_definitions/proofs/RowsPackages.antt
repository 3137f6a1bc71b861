-- Encrypted keys and packages of keys, with the answers to them.
use Rattle.std.proofs.Common.{◌≡◌, codes, refl}
use Rattle.tlv_core.specs.declared.reason.Reason.TheVariants.{Missing, TooDeep, VersionRule}
use Rattle.x690.specs.Answers.{Spelled, answer}
use Rattle.pkix_definitions.specs.DocumentTypes.{AsymmetricKeyPackage, EncryptedPrivateKeyInfo}
use Rattle.pkix_definitions.proofs.Computed.{computed}
use Rattle.x690_laws.specs.Examples.{hex, IsDer, refused, usual}

a_fault_in_the_second_key_of_a_package : answer usual AsymmetricKeyPackage
    (hex (codes "3060302e020100300506032b657004220420000102030405060708090a0b0c0d0e0f101112131415161718191a1b1c1d1e1f302e020101300506032b657004220420000102030405060708090a0b0c0d0e0f101112131415161718191a1b1c1d1e1f"))
    ≡ refused 50 VersionRule
unfolding computed
a_fault_in_the_second_key_of_a_package = refl

a_package_is_a_level_deeper : answer (record { depth = 3; octets = 1048576 }) AsymmetricKeyPackage
    (hex (codes "3030302e020100300506032b657004220420000102030405060708090a0b0c0d0e0f101112131415161718191a1b1c1d1e1f"))
    ≡ refused 9 TooDeep
unfolding computed
a_package_is_a_level_deeper = refl

a_package_at_the_limit_of_depth : IsDer (record { depth = 4; octets = 1048576 }) AsymmetricKeyPackage
    (hex (codes "3030302e020100300506032b657004220420000102030405060708090a0b0c0d0e0f101112131415161718191a1b1c1d1e1f"))
unfolding computed
a_package_at_the_limit_of_depth = refl

a_package_keeps_equal_keys : IsDer usual AsymmetricKeyPackage
    (hex (codes "3060302e020100300506032b657004220420000102030405060708090a0b0c0d0e0f101112131415161718191a1b1c1d1e1f302e020100300506032b657004220420000102030405060708090a0b0c0d0e0f101112131415161718191a1b1c1d1e1f"))
unfolding computed
a_package_keeps_equal_keys = refl

an_encrypted_key_is_normalised : answer usual EncryptedPrivateKeyInfo
    (hex (codes "3080300506032a0304248004010104010200000000"))
    ≡ Spelled (hex (codes "300b300506032a030404020102")) 21
unfolding computed
an_encrypted_key_is_normalised = refl

an_encrypted_key : IsDer usual EncryptedPrivateKeyInfo (hex (codes "300b300506032a030404020102"))
unfolding computed
an_encrypted_key = refl

a_package_of_one_key : IsDer usual AsymmetricKeyPackage
    (hex (codes "3030302e020100300506032b657004220420000102030405060708090a0b0c0d0e0f101112131415161718191a1b1c1d1e1f"))
unfolding computed
a_package_of_one_key = refl

an_empty_package : answer usual AsymmetricKeyPackage (hex (codes "3000")) ≡ refused 2 Missing
unfolding computed
an_empty_package = refl

a_package_of_indefinite_length : answer usual AsymmetricKeyPackage
    (hex (codes "308030840000002e020100300506032b657004220420000102030405060708090a0b0c0d0e0f101112131415161718191a1b1c1d1e1f0000"))
    ≡ Spelled
    (hex (codes "3030302e020100300506032b657004220420000102030405060708090a0b0c0d0e0f101112131415161718191a1b1c1d1e1f"))
    56
unfolding computed
a_package_of_indefinite_length = refl
