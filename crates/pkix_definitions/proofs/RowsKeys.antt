-- Private keys, with the answers to them.
use Rattle.std.proofs.Common.{◌≡◌, codes, refl}
use Rattle.tlv_core.specs.declared.reason.Reason.TheVariants.{BadOid, Curve, EmptySet, KeyLength, Parameters, TooDeep, TooLong, Trailing, Truncated, VersionRule}
use Rattle.x690.specs.Answers.{Spelled, answer}
use Rattle.pkix_definitions.specs.DocumentTypes.{ECPrivateKey, OneAsymmetricKey}
use Rattle.pkix_definitions.proofs.Computed.{computed}
use Rattle.x690_laws.specs.Examples.{hex, IsDer, refused, refused_inside, usual}

the_smallest_key : IsDer usual OneAsymmetricKey
    (hex (codes "302e020100300506032b657004220420000102030405060708090a0b0c0d0e0f101112131415161718191a1b1c1d1e1f"))
unfolding computed
the_smallest_key = refl

indefinite_lengths_and_segments_across_a_header : answer usual OneAsymmetricKey
    (hex (codes "3080020100308006032b657000002480040104042120000102030405060708090a0b0c0d0e0f101112131415161718191a1b1c1d1e1f00000000"))
    ≡ Spelled
    (hex (codes "302e020100300506032b657004220420000102030405060708090a0b0c0d0e0f101112131415161718191a1b1c1d1e1f")) 58
unfolding computed
indefinite_lengths_and_segments_across_a_header = refl

a_long_form_with_leading_zeros : answer usual OneAsymmetricKey
    (hex (codes "30840000002e020100300506032b657004220420000102030405060708090a0b0c0d0e0f101112131415161718191a1b1c1d1e1f"))
    ≡ Spelled
    (hex (codes "302e020100300506032b657004220420000102030405060708090a0b0c0d0e0f101112131415161718191a1b1c1d1e1f")) 52
unfolding computed
a_long_form_with_leading_zeros = refl

a_constructed_bit_string_with_an_implicit_tag : answer usual OneAsymmetricKey
    (hex (codes "3053020101300506032b657004220420000102030405060708090a0b0c0d0e0f101112131415161718191a1b1c1d1e1fa123032100aaaaaaaaaaaaaaaaaaaaaaaaaaaaaaaaaaaaaaaaaaaaaaaaaaaaaaaaaaaaaaaa"))
    ≡ Spelled
    (hex (codes "3051020101300506032b657004220420000102030405060708090a0b0c0d0e0f101112131415161718191a1b1c1d1e1f812100aaaaaaaaaaaaaaaaaaaaaaaaaaaaaaaaaaaaaaaaaaaaaaaaaaaaaaaaaaaaaaaa"))
    85
unfolding computed
a_constructed_bit_string_with_an_implicit_tag = refl

a_key_with_its_public_key : IsDer usual OneAsymmetricKey
    (hex (codes "3051020101300506032b657004220420000102030405060708090a0b0c0d0e0f101112131415161718191a1b1c1d1e1f812100aaaaaaaaaaaaaaaaaaaaaaaaaaaaaaaaaaaaaaaaaaaaaaaaaaaaaaaaaaaaaaaa"))
unfolding computed
a_key_with_its_public_key = refl

a_public_key_under_version_0 : answer usual OneAsymmetricKey
    (hex (codes "3051020100300506032b657004220420000102030405060708090a0b0c0d0e0f101112131415161718191a1b1c1d1e1f812100aaaaaaaaaaaaaaaaaaaaaaaaaaaaaaaaaaaaaaaaaaaaaaaaaaaaaaaaaaaaaaaa"))
    ≡ refused 48 VersionRule
unfolding computed
a_public_key_under_version_0 = refl

version_1_without_a_public_key : answer usual OneAsymmetricKey
    (hex (codes "302e020101300506032b657004220420000102030405060708090a0b0c0d0e0f101112131415161718191a1b1c1d1e1f"))
    ≡ refused 0 VersionRule
unfolding computed
version_1_without_a_public_key = refl

null_parameters_under_ed25519 : answer usual OneAsymmetricKey
    (hex (codes "3030020100300706032b6570050004220420000102030405060708090a0b0c0d0e0f101112131415161718191a1b1c1d1e1f"))
    ≡ refused 5 Parameters
unfolding computed
null_parameters_under_ed25519 = refl

an_ed25519_key_that_is_too_short : answer usual OneAsymmetricKey
    (hex (codes "302d020100300506032b65700421041f000102030405060708090a0b0c0d0e0f101112131415161718191a1b1c1d1e"))
    ≡ refused 12 KeyLength
unfolding computed
an_ed25519_key_that_is_too_short = refl

a_key_that_is_cut : answer usual OneAsymmetricKey (hex (codes "302e020100300506032b65700422042000010203"))
    ≡ refused 20 Truncated
unfolding computed
a_key_that_is_cut = refl

no_octets_at_all : answer usual OneAsymmetricKey (hex (codes "")) ≡ refused 0 Truncated
unfolding computed
no_octets_at_all = refl

octets_behind_the_value_stay : answer usual OneAsymmetricKey
    (hex (codes "302e020100300506032b657004220420000102030405060708090a0b0c0d0e0f101112131415161718191a1b1c1d1e1f00"))
    ≡ Spelled
    (hex (codes "302e020100300506032b657004220420000102030405060708090a0b0c0d0e0f101112131415161718191a1b1c1d1e1f")) 48
unfolding computed
octets_behind_the_value_stay = refl

a_limit_of_depth_that_is_too_low : answer (record { depth = 2; octets = 1048576 }) OneAsymmetricKey
    (hex (codes "302e020100300506032b657004220420000102030405060708090a0b0c0d0e0f101112131415161718191a1b1c1d1e1f"))
    ≡ refused 7 TooDeep
unfolding computed
a_limit_of_depth_that_is_too_low = refl

a_limit_of_depth_that_is_just_enough : IsDer (record { depth = 3; octets = 1048576 }) OneAsymmetricKey
    (hex (codes "302e020100300506032b657004220420000102030405060708090a0b0c0d0e0f101112131415161718191a1b1c1d1e1f"))
unfolding computed
a_limit_of_depth_that_is_just_enough = refl

a_set_of_attribute_values_is_sorted_and_keeps_doubles : answer usual OneAsymmetricKey
    (hex (codes "3044020100300506032b657004220420000102030405060708090a0b0c0d0e0f101112131415161718191a1b1c1d1e1fa014301206032a0304310b0500020105010101020105"))
    ≡ Spelled
    (hex (codes "3044020100300506032b657004220420000102030405060708090a0b0c0d0e0f101112131415161718191a1b1c1d1e1fa014301206032a0304310b0101ff0201050201050500"))
    70
unfolding computed
a_set_of_attribute_values_is_sorted_and_keeps_doubles = refl

an_ec_key_without_inner_parameters : IsDer usual OneAsymmetricKey
    (hex (codes "3041020100301306072a8648ce3d020106082a8648ce3d030107042730250201010420000102030405060708090a0b0c0d0e0f101112131415161718191a1b1c1d1e1f"))
unfolding computed
an_ec_key_without_inner_parameters = refl

an_ec_key_that_names_another_curve : answer usual OneAsymmetricKey
    (hex (codes "304a020100301306072a8648ce3d020106082a8648ce3d0301070430302e0201010420000102030405060708090a0b0c0d0e0f101112131415161718191a1b1c1d1e1fa00706052b8104000a"))
    ≡ refused 26 Curve
unfolding computed
an_ec_key_that_names_another_curve = refl

a_p521_key_of_its_own : IsDer usual ECPrivateKey
    (hex (codes "30500201010442111111111111111111111111111111111111111111111111111111111111111111111111111111111111111111111111111111111111111111111111111111111111a00706052b81040023"))
unfolding computed
a_p521_key_of_its_own = refl

a_p521_key_that_is_too_short : answer usual ECPrivateKey
    (hex (codes "304f02010104411111111111111111111111111111111111111111111111111111111111111111111111111111111111111111111111111111111111111111111111111111111111a00706052b81040023"))
    ≡ refused 0 KeyLength
unfolding computed
a_p521_key_that_is_too_short = refl

a_limit_of_octets_that_is_too_low : answer (record { depth = 32; octets = 47 }) OneAsymmetricKey
    (hex (codes "302e020100300506032b657004220420000102030405060708090a0b0c0d0e0f101112131415161718191a1b1c1d1e1f"))
    ≡ refused 0 TooLong
unfolding computed
a_limit_of_octets_that_is_too_low = refl

an_end_of_contents_past_the_limit : answer (record { depth = 32; octets = 57 }) OneAsymmetricKey
    (hex (codes "3080020100308006032b657000002480040104042120000102030405060708090a0b0c0d0e0f101112131415161718191a1b1c1d1e1f00000000"))
    ≡ refused 56 TooLong
unfolding computed
an_end_of_contents_past_the_limit = refl

a_limit_of_octets_that_is_just_enough : answer (record { depth = 32; octets = 58 }) OneAsymmetricKey
    (hex (codes "3080020100308006032b657000002480040104042120000102030405060708090a0b0c0d0e0f101112131415161718191a1b1c1d1e1f00000000"))
    ≡ Spelled
    (hex (codes "302e020100300506032b657004220420000102030405060708090a0b0c0d0e0f101112131415161718191a1b1c1d1e1f")) 58
unfolding computed
a_limit_of_octets_that_is_just_enough = refl

octets_behind_the_inner_key : answer usual OneAsymmetricKey
    (hex (codes "302f020100300506032b657004230420000102030405060708090a0b0c0d0e0f101112131415161718191a1b1c1d1e1f00"))
    ≡ refused_inside 12 34 Trailing
unfolding computed
octets_behind_the_inner_key = refl

an_inner_key_of_indefinite_length_is_normalised : answer usual OneAsymmetricKey
    (hex (codes "3043020100301306072a8648ce3d020106082a8648ce3d030107042930800201010420000102030405060708090a0b0c0d0e0f101112131415161718191a1b1c1d1e1f0000"))
    ≡ Spelled
    (hex (codes "3041020100301306072a8648ce3d020106082a8648ce3d030107042730250201010420000102030405060708090a0b0c0d0e0f101112131415161718191a1b1c1d1e1f"))
    69
unfolding computed
an_inner_key_of_indefinite_length_is_normalised = refl

a_pss_key_is_carried : IsDer usual OneAsymmetricKey (hex (codes "3014020100300b06092a864886f70d01010a04023080"))
unfolding computed
a_pss_key_is_carried = refl

a_length_of_nearly_2_to_the_31 : answer (record { depth = 32; octets = 2147483647 }) ECPrivateKey
    (hex (codes "30847ffffff002010104847fffff00"))
    ≡ refused 15 Truncated
unfolding computed
a_length_of_nearly_2_to_the_31 = refl

a_long_form_inside : answer usual OneAsymmetricKey
    (hex (codes "302f020100300506032b65700423048120000102030405060708090a0b0c0d0e0f101112131415161718191a1b1c1d1e1f"))
    ≡ Spelled
    (hex (codes "302e020100300506032b657004220420000102030405060708090a0b0c0d0e0f101112131415161718191a1b1c1d1e1f")) 49
unfolding computed
a_long_form_inside = refl

an_x448_key : IsDer usual OneAsymmetricKey
    (hex (codes "3046020100300506032b656f043a04382222222222222222222222222222222222222222222222222222222222222222222222222222222222222222222222222222222222222222"))
unfolding computed
an_x448_key = refl

an_inner_ec_key_that_is_too_short : answer usual OneAsymmetricKey
    (hex (codes "3040020100301306072a8648ce3d020106082a8648ce3d03010704263024020101041f11111111111111111111111111111111111111111111111111111111111111"))
    ≡ refused 26 KeyLength
unfolding computed
an_inner_ec_key_that_is_too_short = refl

an_inner_ec_key_too_short_for_the_curve_that_it_names : answer usual OneAsymmetricKey
    (hex (codes "3049020100301306072a8648ce3d020106082a8648ce3d030107042f302d020101041f11111111111111111111111111111111111111111111111111111111111111a00706052b8104000a"))
    ≡ refused_inside 26 0 KeyLength
unfolding computed
an_inner_ec_key_too_short_for_the_curve_that_it_names = refl

a_public_key_that_is_too_short : answer usual OneAsymmetricKey
    (hex (codes "3050020101300506032b657004220420000102030405060708090a0b0c0d0e0f101112131415161718191a1b1c1d1e1f812000aaaaaaaaaaaaaaaaaaaaaaaaaaaaaaaaaaaaaaaaaaaaaaaaaaaaaaaaaaaaaa"))
    ≡ refused 48 KeyLength
unfolding computed
a_public_key_that_is_too_short = refl

a_public_key_with_unused_bits : answer usual OneAsymmetricKey
    (hex (codes "3051020101300506032b657004220420000102030405060708090a0b0c0d0e0f101112131415161718191a1b1c1d1e1f812101aaaaaaaaaaaaaaaaaaaaaaaaaaaaaaaaaaaaaaaaaaaaaaaaaaaaaaaaaaaaaaaa"))
    ≡ refused 48 KeyLength
unfolding computed
a_public_key_with_unused_bits = refl

an_empty_object_identifier : answer usual ECPrivateKey (hex (codes "300a020101040107a0020600")) ≡ refused 10 BadOid
unfolding computed
an_empty_object_identifier = refl

an_ec_key_without_any_curve : IsDer usual ECPrivateKey (hex (codes "3006020101040107"))
unfolding computed
an_ec_key_without_any_curve = refl

a_key_with_no_attributes_in_their_set : IsDer usual OneAsymmetricKey
    (hex (codes "3030020100300506032b6570042204201111111111111111111111111111111111111111111111111111111111111111a000"))
unfolding computed
a_key_with_no_attributes_in_their_set = refl

an_attribute_of_a_key_without_values : answer usual OneAsymmetricKey
    (hex (codes "3039020100300506032b6570042204201111111111111111111111111111111111111111111111111111111111111111a009300706032a03043100"))
    ≡ refused 57 EmptySet
unfolding computed
an_attribute_of_a_key_without_values = refl
