-- Faults of layout, with their places.
use Rattle.std.proofs.Common.{◌≡◌, codes, refl}
use Rattle.tlv_core.specs.declared.reason.Reason.TheVariants.{BadEnd, BadLength, BadTag, Extra, LeftOut, Missing, Parameters, PastEnd, TooDeep, TooLong, Truncated, Version, WrongForm, WrongTag}
use Rattle.x690.specs.Answers.{answer}
use Rattle.pkix_definitions.specs.DocumentTypes.{OneAsymmetricKey, SubjectPublicKeyInfo}
use Rattle.pkix_definitions.proofs.Computed.{computed}
use Rattle.x690_laws.specs.Examples.{hex, refused, usual}

a_length_octet_ff : answer usual OneAsymmetricKey (hex (codes "30ff")) ≡ refused 0 BadLength
unfolding computed
a_length_octet_ff = refl

an_empty_key : answer usual OneAsymmetricKey (hex (codes "3000")) ≡ refused 2 Missing
unfolding computed
an_empty_key = refl

an_empty_key_of_indefinite_length : answer usual OneAsymmetricKey (hex (codes "30800000")) ≡ refused 2 Missing
unfolding computed
an_empty_key_of_indefinite_length = refl

a_set_for_a_sequence : answer usual OneAsymmetricKey (hex (codes "3100")) ≡ refused 0 WrongTag
unfolding computed
a_set_for_a_sequence = refl

a_primitive_sequence : answer usual OneAsymmetricKey (hex (codes "1000")) ≡ refused 0 WrongForm
unfolding computed
a_primitive_sequence = refl

contents_past_the_container : answer usual OneAsymmetricKey (hex (codes "3003020200")) ≡ refused 2 PastEnd
unfolding computed
contents_past_the_container = refl

end_of_contents_for_a_document : answer usual OneAsymmetricKey (hex (codes "0000")) ≡ refused 0 BadEnd
unfolding computed
end_of_contents_for_a_document = refl

universal_0_constructed : answer usual OneAsymmetricKey (hex (codes "2000")) ≡ refused 0 BadTag
unfolding computed
universal_0_constructed = refl

a_version_that_no_key_has : answer usual OneAsymmetricKey
    (hex (codes "302e020102300506032b657004220420000102030405060708090a0b0c0d0e0f101112131415161718191a1b1c1d1e1f"))
    ≡ refused 2 Version
unfolding computed
a_version_that_no_key_has = refl

an_element_too_many : answer usual OneAsymmetricKey
    (hex (codes "3030020100300506032b657004220420000102030405060708090a0b0c0d0e0f101112131415161718191a1b1c1d1e1f0500"))
    ≡ refused 48 Extra
unfolding computed
an_element_too_many = refl

end_of_contents_in_a_definite_container : answer usual OneAsymmetricKey
    (hex (codes "3030020100300506032b657004220420000102030405060708090a0b0c0d0e0f101112131415161718191a1b1c1d1e1f0000"))
    ≡ refused 48 BadEnd
unfolding computed
end_of_contents_in_a_definite_container = refl

half_of_end_of_contents : answer usual OneAsymmetricKey
    (hex (codes "3080020100300506032b657004220420000102030405060708090a0b0c0d0e0f101112131415161718191a1b1c1d1e1f0001"))
    ≡ refused 48 BadEnd
unfolding computed
half_of_end_of_contents = refl

a_length_octet_past_the_container : answer usual OneAsymmetricKey (hex (codes "300102")) ≡ refused 2 PastEnd
unfolding computed
a_length_octet_past_the_container = refl

an_identifier_octet_past_the_container : answer usual OneAsymmetricKey (hex (codes "30021f81")) ≡ refused 2 PastEnd
unfolding computed
an_identifier_octet_past_the_container = refl

end_of_contents_past_the_container : answer usual OneAsymmetricKey (hex (codes "3006020100308000")) ≡ refused 7 PastEnd
unfolding computed
end_of_contents_past_the_container = refl

no_end_of_contents_before_the_container_ends : answer usual OneAsymmetricKey (hex (codes "30050201003080"))
    ≡ refused 7 PastEnd
unfolding computed
no_end_of_contents_before_the_container_ends = refl

a_limit_of_depth_of_1 : answer (record { depth = 1; octets = 1048576 }) OneAsymmetricKey
    (hex (codes "302e020100300506032b657004220420000102030405060708090a0b0c0d0e0f101112131415161718191a1b1c1d1e1f"))
    ≡ refused 2 TooDeep
unfolding computed
a_limit_of_depth_of_1 = refl

a_limit_of_octets_of_1 : answer (record { depth = 32; octets = 1 }) OneAsymmetricKey
    (hex (codes "302e020100300506032b657004220420000102030405060708090a0b0c0d0e0f101112131415161718191a1b1c1d1e1f"))
    ≡ refused 0 TooLong
unfolding computed
a_limit_of_octets_of_1 = refl

a_constructed_integer : answer usual OneAsymmetricKey (hex (codes "3003220100")) ≡ refused 2 WrongForm
unfolding computed
a_constructed_integer = refl

a_length_that_is_cut : answer usual OneAsymmetricKey (hex (codes "3081")) ≡ refused 2 Truncated
unfolding computed
a_length_that_is_cut = refl

parameters_come_before_the_length_of_the_key : answer usual OneAsymmetricKey
    (hex (codes "302f020100300706032b657005000421041f11111111111111111111111111111111111111111111111111111111111111"))
    ≡ refused 5 Parameters
unfolding computed
parameters_come_before_the_length_of_the_key = refl

end_of_contents_that_is_cut : answer usual OneAsymmetricKey
    (hex (codes "3080020100300506032b657004220420000102030405060708090a0b0c0d0e0f101112131415161718191a1b1c1d1e1f00"))
    ≡ refused 49 Truncated
unfolding computed
end_of_contents_that_is_cut = refl

a_real_among_parameters : answer usual SubjectPublicKeyInfo (hex (codes "3008300606012a090140")) ≡ refused 7 LeftOut
unfolding computed
a_real_among_parameters = refl

the_form_comes_before_the_length : answer usual OneAsymmetricKey (hex (codes "10")) ≡ refused 0 WrongForm
unfolding computed
the_form_comes_before_the_length = refl

a_zero_octet_needs_no_second_one : answer usual OneAsymmetricKey (hex (codes "300300")) ≡ refused 2 BadEnd
unfolding computed
a_zero_octet_needs_no_second_one = refl
