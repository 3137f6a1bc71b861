-- Choices: character strings and times by their tags, and choices of other types.
use Rattle.std.proofs.Common.{◌≡◌, codes, refl}
use Rattle.tlv_core.specs.declared.reason.Reason.TheVariants.{BadInteger, BadText, Missing, Truncated, WrongForm, WrongTag}
use Rattle.x690.specs.Answers.{Spelled, answer}
use Rattle.x690.specs.Contents.{Integer}
use Rattle.x690.specs.UniversalTypes.{integer, sequence, ◌⨾◌}
use Rattle.x690.specs.Layouts.{context_specific, universal}
use Rattle.x690.specs.StringTypes.{string_types}
use Rattle.x690.specs.TypeTerms.{ChoiceType, EndOfFields, LeafType, OpenType, Optional, Required, SequenceOfType, TypeTerm}
use Rattle.x690_laws.proofs.AnswersComputed.{computed}
use Rattle.x690_laws.specs.Examples.{hex, IsDer, refused, usual}

-- an INTEGER, or a list of INTEGERs
abbrev number_or_numbers : TypeTerm
number_or_numbers = ChoiceType integer (SequenceOfType (universal 16) 0 integer)

-- a string that may be missing before an INTEGER
abbrev string_and_number : TypeTerm
string_and_number = sequence (Optional string_types ⨾ Required integer ⨾ EndOfFields)

-- an INTEGER under the tag 0, or anything
abbrev number_or_any : TypeTerm
number_or_any = ChoiceType (LeafType (context_specific 0) Integer) OpenType

a_utf8_string : IsDer usual string_types (hex (codes "0c02c3a9"))
unfolding computed
a_utf8_string = refl

a_utf8_string_of_four_octets : IsDer usual string_types (hex (codes "0c04f09f9880"))
unfolding computed
a_utf8_string_of_four_octets = refl

an_empty_utf8_string : IsDer usual string_types (hex (codes "0c00"))
unfolding computed
an_empty_utf8_string = refl

a_printable_string : IsDer usual string_types (hex (codes "130141"))
unfolding computed
a_printable_string = refl

a_teletex_string_of_any_octets : IsDer usual string_types (hex (codes "1401e9"))
unfolding computed
a_teletex_string_of_any_octets = refl

a_bmp_string : IsDer usual string_types (hex (codes "1e020041"))
unfolding computed
a_bmp_string = refl

a_universal_string : IsDer usual string_types (hex (codes "1c0400000041"))
unfolding computed
a_universal_string = refl

an_object_descriptor : IsDer usual string_types (hex (codes "070141"))
unfolding computed
an_object_descriptor = refl

a_utc_time : IsDer usual string_types (hex (codes "170d3235303130313030303030305a"))
unfolding computed
a_utc_time = refl

a_generalized_time : IsDer usual string_types (hex (codes "180f32303530303130313030303030305a"))
unfolding computed
a_generalized_time = refl

a_utf8_string_in_segments_across_a_character : answer usual string_types (hex (codes "2c070401c30402a921"))
    ≡ Spelled (hex (codes "0c03c3a921")) 9
unfolding computed
a_utf8_string_in_segments_across_a_character = refl

a_utf8_string_of_indefinite_length : answer usual string_types (hex (codes "2c800401c324030401a90000"))
    ≡ Spelled (hex (codes "0c02c3a9")) 12
unfolding computed
a_utf8_string_of_indefinite_length = refl

a_bmp_string_in_segments : answer usual string_types (hex (codes "3e06040100040141"))
    ≡ Spelled (hex (codes "1e020041")) 8
unfolding computed
a_bmp_string_in_segments = refl

a_utf8_string_cut_in_a_character : answer usual string_types (hex (codes "0c01c3")) ≡ refused 0 BadText
unfolding computed
a_utf8_string_cut_in_a_character = refl

segments_cut_in_a_character : answer usual string_types (hex (codes "2c030401c3")) ≡ refused 0 BadText
unfolding computed
segments_cut_in_a_character = refl

a_surrogate_is_not_utf8 : answer usual string_types (hex (codes "0c03eda080")) ≡ refused 0 BadText
unfolding computed
a_surrogate_is_not_utf8 = refl

an_overlong_form_is_not_utf8 : answer usual string_types (hex (codes "0c02c080")) ≡ refused 0 BadText
unfolding computed
an_overlong_form_is_not_utf8 = refl

a_number_above_10ffff_is_not_utf8 : answer usual string_types (hex (codes "0c04f4908080")) ≡ refused 0 BadText
unfolding computed
a_number_above_10ffff_is_not_utf8 = refl

an_octet_string_is_no_character_string : answer usual string_types (hex (codes "040100")) ≡ refused 0 WrongTag
unfolding computed
an_octet_string_is_no_character_string = refl

an_unrestricted_character_string_is_none_of_these : answer usual string_types (hex (codes "1d00")) ≡ refused 0 WrongTag
unfolding computed
an_unrestricted_character_string_is_none_of_these = refl

the_tag_12_of_another_class : answer usual string_types (hex (codes "8c0141")) ≡ refused 0 WrongTag
unfolding computed
the_tag_12_of_another_class = refl

no_alternative_comes_before_the_length : answer usual string_types (hex (codes "0480")) ≡ refused 0 WrongTag
unfolding computed
no_alternative_comes_before_the_length = refl

a_segment_of_the_type_of_the_string : answer usual string_types (hex (codes "2c030c0141")) ≡ refused 2 WrongTag
unfolding computed
a_segment_of_the_type_of_the_string = refl

a_string_past_its_length : answer usual string_types (hex (codes "0c0241")) ≡ refused 3 Truncated
unfolding computed
a_string_past_its_length = refl

the_first_alternative : IsDer usual number_or_numbers (hex (codes "020105"))
unfolding computed
the_first_alternative = refl

the_second_alternative : IsDer usual number_or_numbers (hex (codes "3006020105020101"))
unfolding computed
the_second_alternative = refl

neither_alternative : answer usual number_or_numbers (hex (codes "0500")) ≡ refused 0 WrongTag
unfolding computed
neither_alternative = refl

a_fault_of_the_first_alternative : answer usual number_or_numbers (hex (codes "2203020105")) ≡ refused 0 WrongForm
unfolding computed
a_fault_of_the_first_alternative = refl

a_fault_inside_the_second_alternative : answer usual number_or_numbers (hex (codes "3003040105")) ≡ refused 2 WrongTag
unfolding computed
a_fault_inside_the_second_alternative = refl

the_second_alternative_is_normalised : answer usual number_or_numbers (hex (codes "30800201050000"))
    ≡ Spelled (hex (codes "3003020105")) 7
unfolding computed
the_second_alternative_is_normalised = refl

the_first_alternative_that_the_tag_fits_counts : answer usual number_or_any (hex (codes "8002007f"))
    ≡ refused 0 BadInteger
unfolding computed
the_first_alternative_that_the_tag_fits_counts = refl

the_second_alternative_takes_all_other_tags : IsDer usual number_or_any (hex (codes "8102007f"))
unfolding computed
the_second_alternative_takes_all_other_tags = refl

an_optional_choice_that_is_there : IsDer usual string_and_number (hex (codes "3006140141020105"))
unfolding computed
an_optional_choice_that_is_there = refl

an_optional_choice_that_is_not_there : IsDer usual string_and_number (hex (codes "3003020105"))
unfolding computed
an_optional_choice_that_is_not_there = refl

no_alternative_of_an_optional_choice : answer usual string_and_number (hex (codes "3003040105")) ≡ refused 2 WrongTag
unfolding computed
no_alternative_of_an_optional_choice = refl

nothing_behind_an_optional_choice : answer usual string_and_number (hex (codes "3003140141")) ≡ refused 5 Missing
unfolding computed
nothing_behind_an_optional_choice = refl
