-- RSA keys in their containers, with the answers to them.
use Rattle.std.proofs.Common.{◌≡◌, codes, refl}
use Rattle.tlv_core.specs.declared.reason.Reason.TheVariants.{Extra, Missing, Truncated, Version, VersionRule}
use Rattle.x690.specs.Answers.{Spelled, answer}
use Rattle.pkix_definitions.specs.DocumentTypes.{OneAsymmetricKey}
use Rattle.pkix_definitions.proofs.Computed.{computed}
use Rattle.x690_laws.specs.Examples.{hex, IsDer, refused_inside, usual}

a_broken_rsa_key : answer usual OneAsymmetricKey (hex (codes "3016020100300d06092a864886f70d010101050004023080"))
    ≡ refused_inside 20 2 Truncated
unfolding computed
a_broken_rsa_key = refl

an_rsa_key_is_normalised : answer usual OneAsymmetricKey
    (hex (codes "3032020100300d06092a864886f70d0101010500041e30811b02010002012102010302010702010b020103020107020101020104"))
    ≡ Spelled
    (hex (codes "3031020100300d06092a864886f70d0101010500041d301b02010002012102010302010702010b020103020107020101020104"))
    52
unfolding computed
an_rsa_key_is_normalised = refl

an_rsa_key_of_three_primes : IsDer usual OneAsymmetricKey
    (hex (codes "303e020100300d06092a864886f70d0101010500042a302802010102012102010302010702010b020103020107020101020104300b3009020105020101020102"))
unfolding computed
an_rsa_key_of_three_primes = refl

other_primes_under_version_0 : answer usual OneAsymmetricKey
    (hex (codes "303e020100300d06092a864886f70d0101010500042a302802010002012102010302010702010b020103020107020101020104300b3009020105020101020102"))
    ≡ refused_inside 20 29 VersionRule
unfolding computed
other_primes_under_version_0 = refl

version_1_without_other_primes : answer usual OneAsymmetricKey
    (hex (codes "3031020100300d06092a864886f70d0101010500041d301b02010102012102010302010702010b020103020107020101020104"))
    ≡ refused_inside 20 0 VersionRule
unfolding computed
version_1_without_other_primes = refl

a_version_that_no_rsa_key_has : answer usual OneAsymmetricKey
    (hex (codes "3031020100300d06092a864886f70d0101010500041d301b02010202012102010302010702010b020103020107020101020104"))
    ≡ refused_inside 20 2 Version
unfolding computed
a_version_that_no_rsa_key_has = refl

an_empty_list_of_other_primes : answer usual OneAsymmetricKey
    (hex (codes "3033020100300d06092a864886f70d0101010500041f301d02010102012102010302010702010b0201030201070201010201043000"))
    ≡ refused_inside 20 31 Missing
unfolding computed
an_empty_list_of_other_primes = refl

missing_in_an_empty_list_of_indefinite_length : answer usual OneAsymmetricKey
    (hex (codes "3035020100300d06092a864886f70d01010105000421301f02010102012102010302010702010b02010302010702010102010430800000"))
    ≡ refused_inside 20 31 Missing
unfolding computed
missing_in_an_empty_list_of_indefinite_length = refl

other_primes_under_version_0_are_refused_by_their_tag : answer usual OneAsymmetricKey
    (hex (codes "3033020100300d06092a864886f70d0101010500041f301d02010002012102010302010702010b0201030201070201010201041000"))
    ≡ refused_inside 20 29 VersionRule
unfolding computed
other_primes_under_version_0_are_refused_by_their_tag = refl

a_second_list_of_other_primes : answer usual OneAsymmetricKey
    (hex (codes "3040020100300d06092a864886f70d0101010500042c302a02010102012102010302010702010b020103020107020101020104300b30090201050201010201023000"))
    ≡ refused_inside 20 42 Extra
unfolding computed
a_second_list_of_other_primes = refl
