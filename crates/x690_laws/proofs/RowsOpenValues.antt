-- Open values, with the answers to them.
use Rattle.std.proofs.Common.{◌≡◌, codes, refl}
use Rattle.tlv_core.specs.declared.reason.Reason.TheVariants.{BadBits, BadBoolean, BadInteger, BadLength, BadNull, BadOid, BadTag, LeftOut, TooDeep, WrongForm}
use Rattle.x690.specs.Answers.{Spelled, answer}
use Rattle.x690.specs.UniversalTypes.{explicit, object_identifier}
use Rattle.x690.specs.TypeTerms.{OpenType}
use Rattle.x690_laws.proofs.AnswersComputed.{computed}
use Rattle.x690_laws.specs.Examples.{hex, IsDer, refused, usual}

a_constructed_utf8_string : answer usual OpenType (hex (codes "2c070401c30402a921"))
    ≡ Spelled (hex (codes "0c03c3a921")) 9
unfolding computed
a_constructed_utf8_string = refl

sets_inside_sets_are_sorted : answer usual OpenType (hex (codes "3180310602010202010131060201010201020000"))
    ≡ Spelled (hex (codes "311031060201010201023106020101020102")) 20
unfolding computed
sets_inside_sets_are_sorted = refl

unused_bits_are_cleared : answer usual OpenType (hex (codes "030204af")) ≡ Spelled (hex (codes "030204a0")) 4
unfolding computed
unused_bits_are_cleared = refl

bit_string_segments_are_joined : answer usual OpenType (hex (codes "2380030200aa030203ff0000"))
    ≡ Spelled (hex (codes "030303aaf8")) 12
unfolding computed
bit_string_segments_are_joined = refl

unused_bits_before_the_last_segment : answer usual OpenType (hex (codes "2308030203f8030200aa")) ≡ refused 6 BadBits
unfolding computed
unused_bits_before_the_last_segment = refl

a_bit_string_of_no_segments : answer usual OpenType (hex (codes "2300")) ≡ Spelled (hex (codes "030100")) 2
unfolding computed
a_bit_string_of_no_segments = refl

an_octet_string_of_no_segments : answer usual OpenType (hex (codes "2400")) ≡ Spelled (hex (codes "0400")) 2
unfolding computed
an_octet_string_of_no_segments = refl

a_high_tag_number : IsDer usual OpenType (hex (codes "9f1f0161"))
unfolding computed
a_high_tag_number = refl

a_high_tag_number_of_two_octets : IsDer usual OpenType (hex (codes "bf8100020500"))
unfolding computed
a_high_tag_number_of_two_octets = refl

a_teletex_string : IsDer usual OpenType (hex (codes "1401e9"))
unfolding computed
a_teletex_string = refl

a_bmp_string : IsDer usual OpenType (hex (codes "1e020041"))
unfolding computed
a_bmp_string = refl

a_high_form_for_a_low_tag_number : answer usual OpenType (hex (codes "9f1e00")) ≡ refused 0 BadTag
unfolding computed
a_high_form_for_a_low_tag_number = refl

a_tag_number_of_five_octets : answer usual OpenType (hex (codes "1f8180808000")) ≡ refused 0 BadTag
unfolding computed
a_tag_number_of_five_octets = refl

a_real : answer usual OpenType (hex (codes "090140")) ≡ refused 0 LeftOut
unfolding computed
a_real = refl

a_universal_tag_past_30 : answer usual OpenType (hex (codes "1f1f00")) ≡ refused 0 LeftOut
unfolding computed
a_universal_tag_past_30 = refl

an_integer_with_nine_bits_alike : answer usual OpenType (hex (codes "0202007f")) ≡ refused 0 BadInteger
unfolding computed
an_integer_with_nine_bits_alike = refl

a_boolean_without_contents : answer usual OpenType (hex (codes "0100")) ≡ refused 0 BadBoolean
unfolding computed
a_boolean_without_contents = refl

a_null_with_contents : answer usual OpenType (hex (codes "050100")) ≡ refused 0 BadNull
unfolding computed
a_null_with_contents = refl

a_bit_string_without_contents : answer usual OpenType (hex (codes "0300")) ≡ refused 0 BadBits
unfolding computed
a_bit_string_without_contents = refl

unused_bits_of_nothing : answer usual OpenType (hex (codes "030101")) ≡ refused 0 BadBits
unfolding computed
unused_bits_of_nothing = refl

an_object_identifier_that_is_cut : answer usual OpenType (hex (codes "06022a80")) ≡ refused 0 BadOid
unfolding computed
an_object_identifier_that_is_cut = refl

an_indefinite_length_of_a_primitive_element : answer usual OpenType (hex (codes "04800000")) ≡ refused 0 BadLength
unfolding computed
an_indefinite_length_of_a_primitive_element = refl

a_constructed_integer_as_an_open_value : answer usual OpenType (hex (codes "2203020100")) ≡ refused 0 WrongForm
unfolding computed
a_constructed_integer_as_an_open_value = refl

an_explicit_tag_of_indefinite_length : answer usual (explicit 0 object_identifier)
    (hex (codes "a08006052b8104000a0000"))
    ≡ Spelled (hex (codes "a00706052b8104000a")) 11
unfolding computed
an_explicit_tag_of_indefinite_length = refl

open_values_nested_too_deep : answer (record { depth = 64; octets = 1048576 }) OpenType
    (hex (codes "30803080308030803080308030803080308030803080308030803080308030803080308030803080308030803080308030803080308030803080308030803080308030803080308030803080308030803080308030803080308030803080308030803080308030803080308030803080308030803080308030803080308030803080"))
    ≡ refused 128 TooDeep
unfolding computed
open_values_nested_too_deep = refl
