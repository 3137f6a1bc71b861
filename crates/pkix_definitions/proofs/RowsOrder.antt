-- Cases that readers often get wrong: which fault comes first, and what is accepted.
use Rattle.std.proofs.Common.{◌≡◌, codes, refl}
use Rattle.tlv_core.specs.declared.reason.Reason.TheVariants.{BadEnd, BadInteger, BadLength, BadTag, BadText, Extra, KeyLength, LeftOut, Missing, Parameters, PastEnd, TextTooLong, TooLong, Truncated, Version, VersionRule, WrongTag}
use Rattle.x690.specs.Answers.{Spelled, answer}
use Rattle.pkix_definitions.specs.DocumentTypes.{CertificationRequest, ECPrivateKey, Extension, OneAsymmetricKey, SubjectPublicKeyInfo}
use Rattle.x690.specs.TypeTerms.{OpenType}
use Rattle.pkix_definitions.proofs.Computed.{computed}
use Rattle.x690_laws.specs.Examples.{hex, IsDer, refused, refused_inside, usual}

past_the_container_comes_before_past_the_limit : answer (record { depth = 32; octets = 10 }) OneAsymmetricKey
    (hex (codes "3008027f"))
    ≡ refused 2 PastEnd
unfolding computed
past_the_container_comes_before_past_the_limit = refl

past_the_limit_where_no_container_is : answer (record { depth = 32; octets = 10 }) OneAsymmetricKey (hex (codes "307f"))
    ≡ refused 0 TooLong
unfolding computed
past_the_limit_where_no_container_is = refl

a_bad_tag_comes_before_the_depth : answer (record { depth = 1; octets = 1048576 }) OneAsymmetricKey
    (hex (codes "30022000"))
    ≡ refused 2 BadTag
unfolding computed
a_bad_tag_comes_before_the_depth = refl

a_bad_high_form_comes_before_the_depth : answer (record { depth = 1; octets = 1048576 }) OneAsymmetricKey
    (hex (codes "30801f80"))
    ≡ refused 2 BadTag
unfolding computed
a_bad_high_form_comes_before_the_depth = refl

a_leading_zero_of_a_tag_number_is_bad_at_once : answer usual OneAsymmetricKey (hex (codes "30801f80"))
    ≡ refused 2 BadTag
unfolding computed
a_leading_zero_of_a_tag_number_is_bad_at_once = refl

an_inner_length_past_the_limit : answer (record { depth = 32; octets = 67 }) OneAsymmetricKey
    (hex (codes "3041020100301306072a8648ce3d020106082a8648ce3d0301070427307f0201010420000102030405060708090a0b0c0d0e0f101112131415161718191a1b1c1d1e1f"))
    ≡ refused_inside 26 0 TooLong
unfolding computed
an_inner_length_past_the_limit = refl

an_inner_length_past_the_inner_octets : answer usual OneAsymmetricKey
    (hex (codes "3041020100301306072a8648ce3d020106082a8648ce3d0301070427307f0201010420000102030405060708090a0b0c0d0e0f101112131415161718191a1b1c1d1e1f"))
    ≡ refused_inside 26 39 Truncated
unfolding computed
an_inner_length_past_the_inner_octets = refl

inner_octets_begin_at_depth_1 : IsDer (record { depth = 3; octets = 1048576 }) OneAsymmetricKey
    (hex (codes "304d020100301306072a8648ce3d020106082a8648ce3d030107043330310201010420000102030405060708090a0b0c0d0e0f101112131415161718191a1b1c1d1e1fa00a06082a8648ce3d030107"))
unfolding computed
inner_octets_begin_at_depth_1 = refl

a_tag_1_under_version_0_is_refused_by_its_tag : answer usual OneAsymmetricKey
    (hex (codes "3080020100300506032b657004220420000102030405060708090a0b0c0d0e0f101112131415161718191a1b1c1d1e1fa1"))
    ≡ refused 48 VersionRule
unfolding computed
a_tag_1_under_version_0_is_refused_by_its_tag = refl

the_version_is_judged_before_what_follows : answer usual OneAsymmetricKey (hex (codes "3080020105")) ≡ refused 2 Version
unfolding computed
the_version_is_judged_before_what_follows = refl

a_fault_inside_the_parameters_comes_first : answer usual OneAsymmetricKey
    (hex (codes "3080020100308006032b65700202007f"))
    ≡ refused 12 BadInteger
unfolding computed
a_fault_inside_the_parameters_comes_first = refl

an_element_behind_the_parameters_comes_first : answer usual OneAsymmetricKey
    (hex (codes "3080020100308006032b657005000500"))
    ≡ refused 14 Extra
unfolding computed
an_element_behind_the_parameters_comes_first = refl

the_end_of_the_algorithm_comes_first : answer usual OneAsymmetricKey (hex (codes "3080020100308006032b657005000001"))
    ≡ refused 14 BadEnd
unfolding computed
the_end_of_the_algorithm_comes_first = refl

the_parameters_are_judged_at_the_end_of_the_algorithm : answer usual OneAsymmetricKey
    (hex (codes "3080020100308006032b657005000000"))
    ≡ refused 5 Parameters
unfolding computed
the_parameters_are_judged_at_the_end_of_the_algorithm = refl

the_parameters_of_an_ec_key_name_its_curve : answer usual OneAsymmetricKey
    (hex (codes "3080020100300b06072a8648ce3d02010500"))
    ≡ refused 5 Parameters
unfolding computed
the_parameters_of_an_ec_key_name_its_curve = refl

an_ec_key_has_parameters : answer usual OneAsymmetricKey (hex (codes "3080020100300906072a8648ce3d0201"))
    ≡ refused 5 Parameters
unfolding computed
an_ec_key_has_parameters = refl

a_public_key_info_may_have_other_parameters : IsDer usual SubjectPublicKeyInfo
    (hex (codes "300f300906072a8648ce3d020103020004"))
unfolding computed
a_public_key_info_may_have_other_parameters = refl

an_element_behind_the_parameters_is_extra_whatever_its_tag : answer usual SubjectPublicKeyInfo
    (hex (codes "300c300a06032a03040500090140"))
    ≡ refused 11 Extra
unfolding computed
an_element_behind_the_parameters_is_extra_whatever_its_tag = refl

extension_request_is_no_rule_of_keys : IsDer usual OneAsymmetricKey
    (hex (codes "3041020100300506032b657004220420000102030405060708090a0b0c0d0e0f101112131415161718191a1b1c1d1e1fa011300f06092a864886f70d01090e31020500"))
unfolding computed
extension_request_is_no_rule_of_keys = refl

segments_of_a_character_string_are_octet_strings : answer usual OpenType (hex (codes "2c040c026162"))
    ≡ refused 2 WrongTag
unfolding computed
segments_of_a_character_string_are_octet_strings = refl

a_later_segment_is_read_before_it_is_judged : answer usual OpenType (hex (codes "2380030203f8037f00"))
    ≡ refused 9 Truncated
unfolding computed
a_later_segment_is_read_before_it_is_judged = refl

the_length_of_a_later_segment_comes_first : answer usual OpenType (hex (codes "2380030203f803ff")) ≡ refused 6 BadLength
unfolding computed
the_length_of_a_later_segment_comes_first = refl

a_surrogate_is_not_utf8 : answer usual OpenType (hex (codes "0c03eda080")) ≡ refused 0 BadText
unfolding computed
a_surrogate_is_not_utf8 = refl

an_overlong_form_is_not_utf8 : answer usual OpenType (hex (codes "0c02c080")) ≡ refused 0 BadText
unfolding computed
an_overlong_form_is_not_utf8 = refl

a_number_past_10ffff_is_not_utf8 : answer usual OpenType (hex (codes "0c04f4908080")) ≡ refused 0 BadText
unfolding computed
a_number_past_10ffff_is_not_utf8 = refl

utf8_is_judged_on_the_joined_octets : answer usual OpenType (hex (codes "2c800401c30401280000")) ≡ refused 0 BadText
unfolding computed
utf8_is_judged_on_the_joined_octets = refl

left_out_by_the_tag_before_form_and_length : answer usual OpenType (hex (codes "28ff")) ≡ refused 0 LeftOut
unfolding computed
left_out_by_the_tag_before_form_and_length = refl

left_out_external : answer usual OpenType (hex (codes "0800")) ≡ refused 0 LeftOut
unfolding computed
left_out_external = refl

left_out_real : answer usual OpenType (hex (codes "0900")) ≡ refused 0 LeftOut
unfolding computed
left_out_real = refl

left_out_embedded_pdv : answer usual OpenType (hex (codes "0b00")) ≡ refused 0 LeftOut
unfolding computed
left_out_embedded_pdv = refl

left_out_relative_oid : answer usual OpenType (hex (codes "0d00")) ≡ refused 0 LeftOut
unfolding computed
left_out_relative_oid = refl

left_out_time : answer usual OpenType (hex (codes "0e00")) ≡ refused 0 LeftOut
unfolding computed
left_out_time = refl

left_out_universal_15 : answer usual OpenType (hex (codes "0f00")) ≡ refused 0 LeftOut
unfolding computed
left_out_universal_15 = refl

left_out_character_string : answer usual OpenType (hex (codes "1d00")) ≡ refused 0 LeftOut
unfolding computed
left_out_character_string = refl

an_object_descriptor_carries_octets : IsDer usual OpenType (hex (codes "070100"))
unfolding computed
an_object_descriptor_carries_octets = refl

a_numeric_string_carries_octets : IsDer usual OpenType (hex (codes "120100"))
unfolding computed
a_numeric_string_carries_octets = refl

a_utc_time_carries_octets : IsDer usual OpenType (hex (codes "170100"))
unfolding computed
a_utc_time_carries_octets = refl

a_generalized_time_carries_octets : IsDer usual OpenType (hex (codes "180100"))
unfolding computed
a_generalized_time_carries_octets = refl

a_universal_string_carries_octets : IsDer usual OpenType (hex (codes "1c0100"))
unfolding computed
a_universal_string_carries_octets = refl

an_enumerated_is_judged_as_an_integer : answer usual OpenType (hex (codes "0a02007f")) ≡ refused 0 BadInteger
unfolding computed
an_enumerated_is_judged_as_an_integer = refl

nine_bits_of_an_integer : IsDer usual OpenType (hex (codes "02020080"))
unfolding computed
nine_bits_of_an_integer = refl

nine_bits_of_a_negative_integer : IsDer usual OpenType (hex (codes "0202ff7f"))
unfolding computed
nine_bits_of_a_negative_integer = refl

elements_of_other_classes_keep_their_order : IsDer usual OpenType (hex (codes "b106020102020101"))
unfolding computed
elements_of_other_classes_keep_their_order = refl

a_length_of_126_octets : answer usual OpenType
    (hex (codes "04fe000000000000000000000000000000000000000000000000000000000000000000000000000000000000000000000000000000000000000000000000000000000000000000000000000000000000000000000000000000000000000000000000000000000000000000000000000000000000000000000000000000000001aa"))
    ≡ Spelled (hex (codes "0401aa")) 129
unfolding computed
a_length_of_126_octets = refl

a_length_of_2_to_the_64 : answer usual OpenType (hex (codes "0489010000000000000000")) ≡ refused 0 TooLong
unfolding computed
a_length_of_2_to_the_64 = refl

a_length_of_2_to_the_64_in_a_container : answer usual OpenType (hex (codes "300b0489010000000000000000"))
    ≡ refused 2 PastEnd
unfolding computed
a_length_of_2_to_the_64_in_a_container = refl

missing_stands_where_the_zeros_stand : answer usual Extension (hex (codes "308006012a0000")) ≡ refused 5 Missing
unfolding computed
missing_stands_where_the_zeros_stand = refl

a_curve_without_a_length : IsDer usual ECPrivateKey (hex (codes "300d020101040107a00506032b6570"))
unfolding computed
a_curve_without_a_length = refl

a_text_that_is_too_long : answer (record { depth = 32; octets = 11 }) SubjectPublicKeyInfo
    (hex (codes "3009300506032a03042300"))
    ≡ refused 0 TextTooLong
unfolding computed
a_text_that_is_too_long = refl

a_text_that_is_too_long_needs_no_further_octet : answer (record { depth = 32; octets = 11 }) SubjectPublicKeyInfo
    (hex (codes "3009300506032a0304230055"))
    ≡ refused 0 TextTooLong
unfolding computed
a_text_that_is_too_long_needs_no_further_octet = refl

a_text_that_is_just_short_enough : answer (record { depth = 32; octets = 12 }) SubjectPublicKeyInfo
    (hex (codes "3009300506032a03042300"))
    ≡ Spelled (hex (codes "300a300506032a0304030100")) 11
unfolding computed
a_text_that_is_just_short_enough = refl

a_p224_key : IsDer usual ECPrivateKey
    (hex (codes "302a020101041c11111111111111111111111111111111111111111111111111111111a00706052b81040021"))
unfolding computed
a_p224_key = refl

a_p224_key_that_is_too_long : answer usual ECPrivateKey
    (hex (codes "302b020101041d1111111111111111111111111111111111111111111111111111111111a00706052b81040021"))
    ≡ refused 0 KeyLength
unfolding computed
a_p224_key_that_is_too_long = refl

a_p384_key : IsDer usual ECPrivateKey
    (hex (codes "303e0201010430111111111111111111111111111111111111111111111111111111111111111111111111111111111111111111111111a00706052b81040022"))
unfolding computed
a_p384_key = refl

a_p384_key_that_is_too_long : answer usual ECPrivateKey
    (hex (codes "303f020101043111111111111111111111111111111111111111111111111111111111111111111111111111111111111111111111111111a00706052b81040022"))
    ≡ refused 0 KeyLength
unfolding computed
a_p384_key_that_is_too_long = refl

a_secp256k1_key_that_is_too_long : answer usual ECPrivateKey
    (hex (codes "302f0201010421111111111111111111111111111111111111111111111111111111111111111111a00706052b8104000a"))
    ≡ refused 0 KeyLength
unfolding computed
a_secp256k1_key_that_is_too_long = refl

an_x25519_public_key : IsDer usual SubjectPublicKeyInfo
    (hex (codes "302a300506032b656e032100aaaaaaaaaaaaaaaaaaaaaaaaaaaaaaaaaaaaaaaaaaaaaaaaaaaaaaaaaaaaaaaa"))
unfolding computed
an_x25519_public_key = refl

an_x448_public_key : IsDer usual SubjectPublicKeyInfo
    (hex (codes "3042300506032b656f033900aaaaaaaaaaaaaaaaaaaaaaaaaaaaaaaaaaaaaaaaaaaaaaaaaaaaaaaaaaaaaaaaaaaaaaaaaaaaaaaaaaaaaaaaaaaaaaaaaaaaaaaaaaaaaaaa"))
unfolding computed
an_x448_public_key = refl

an_ed448_public_key : IsDer usual SubjectPublicKeyInfo
    (hex (codes "3043300506032b6571033a00aaaaaaaaaaaaaaaaaaaaaaaaaaaaaaaaaaaaaaaaaaaaaaaaaaaaaaaaaaaaaaaaaaaaaaaaaaaaaaaaaaaaaaaaaaaaaaaaaaaaaaaaaaaaaaaaaa"))
unfolding computed
an_ed448_public_key = refl

an_ed448_key : IsDer usual OneAsymmetricKey
    (hex (codes "3047020100300506032b6571043b0439222222222222222222222222222222222222222222222222222222222222222222222222222222222222222222222222222222222222222222"))
unfolding computed
an_ed448_key = refl

an_ed448_key_that_is_too_short : answer usual OneAsymmetricKey
    (hex (codes "3046020100300506032b6571043a04382222222222222222222222222222222222222222222222222222222222222222222222222222222222222222222222222222222222222222"))
    ≡ refused 12 KeyLength
unfolding computed
an_ed448_key_that_is_too_short = refl

segments_within_segments : answer usual OpenType (hex (codes "24802480040107000024000401080000"))
    ≡ Spelled (hex (codes "04020708")) 16
unfolding computed
segments_within_segments = refl

a_constructed_segment_with_nothing_in_it_may_follow : answer usual OpenType (hex (codes "2380030204ff23000000"))
    ≡ Spelled (hex (codes "030204f0")) 10
unfolding computed
a_constructed_segment_with_nothing_in_it_may_follow = refl

members_of_a_set_are_compared_octet_by_octet : answer usual OpenType (hex (codes "310704020100040101"))
    ≡ Spelled (hex (codes "310704010104020100")) 9
unfolding computed
members_of_a_set_are_compared_octet_by_octet = refl

open_values_of_64_levels : answer (record { depth = 64; octets = 1048576 }) OpenType
    (hex (codes "30803080308030803080308030803080308030803080308030803080308030803080308030803080308030803080308030803080308030803080308030803080308030803080308030803080308030803080308030803080308030803080308030803080308030803080308030803080308030803080308030803080308030800000000000000000000000000000000000000000000000000000000000000000000000000000000000000000000000000000000000000000000000000000000000000000000000000000000000000000000000000000000000000000000000000000000000000000000000000000000000000000000000000000000000000000"))
    ≡ Spelled
    (hex (codes "307e307c307a30783076307430723070306e306c306a30683066306430623060305e305c305a30583056305430523050304e304c304a30483046304430423040303e303c303a30383036303430323030302e302c302a30283026302430223020301e301c301a30183016301430123010300e300c300a30083006300430023000"))
    256
unfolding computed
open_values_of_64_levels = refl

an_x25519_key : IsDer usual OneAsymmetricKey
    (hex (codes "302e020100300506032b656e042204202222222222222222222222222222222222222222222222222222222222222222"))
unfolding computed
an_x25519_key = refl

an_x25519_public_key_that_is_too_short : answer usual SubjectPublicKeyInfo
    (hex (codes "3029300506032b656e032000aaaaaaaaaaaaaaaaaaaaaaaaaaaaaaaaaaaaaaaaaaaaaaaaaaaaaaaaaaaaaa"))
    ≡ refused 9 KeyLength
unfolding computed
an_x25519_public_key_that_is_too_short = refl

an_x448_public_key_that_is_too_short : answer usual SubjectPublicKeyInfo
    (hex (codes "3041300506032b656f033800aaaaaaaaaaaaaaaaaaaaaaaaaaaaaaaaaaaaaaaaaaaaaaaaaaaaaaaaaaaaaaaaaaaaaaaaaaaaaaaaaaaaaaaaaaaaaaaaaaaaaaaaaaaaaa"))
    ≡ refused 9 KeyLength
unfolding computed
an_x448_public_key_that_is_too_short = refl

null_parameters_under_x448 : answer usual OneAsymmetricKey (hex (codes "3080020100300706032b656f0500"))
    ≡ refused 5 Parameters
unfolding computed
null_parameters_under_x448 = refl

an_ec_key_of_version_0 : answer usual ECPrivateKey (hex (codes "3006020100040107")) ≡ refused 2 Version
unfolding computed
an_ec_key_of_version_0 = refl

a_request_of_version_1 : answer usual CertificationRequest (hex (codes "307f3033020101")) ≡ refused 4 Version
unfolding computed
a_request_of_version_1 = refl
