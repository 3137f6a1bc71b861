-- The answer, with all that it stands on open to computation.
use Rattle.std.proofs.Common.{ℕ, List}
use Rattle.std.specs.Char.{encode_utf8}
use Rattle.std.specs.Str.{chars, is_utf8}
use Rattle.tlv_core.specs.Identifier.{base128, identifier, leading_base128}
use Rattle.tlv_core.specs.Length.{number_octets, shortest_length}
use Rattle.tlv_core.specs.Limits.{Limits}
use Rattle.x690.specs.Answers.{Answer, answer}
use Rattle.x690.specs.DerTexts.{arrange, der, der_element, insert_text, padded_less}
use Rattle.x690.specs.OpenValues.{open_form}
use Rattle.x690.specs.ReadContents.{add_member, all_members, is_subidentifiers, read_leaf, read_open, read_segment}
use Rattle.x690.specs.ReadHeaders.{each_member, fit_contents, header_octet, in_container, next_octets, next_tag, primitive_contents, read_big_endian, read_definite_length, read_high_number, read_length, read_number, read_tag_number}
use Rattle.x690.specs.ReadTypes.{apply_rule, due_element, from_inside, read_document, read_type}
use Rattle.x690.specs.Reading.{choose, require, run, ◌>>=◌}
use Rattle.x690.specs.StringTypes.{string_types}
use Rattle.x690.specs.TypeTerms.{TypeTerm, fits_tag}
use Rattle.x690.specs.Values.{leaf_at}

unfoldable pub computed : Limits → TypeTerm → List ℕ → Answer
unfolding chars encode_utf8 is_utf8 base128 identifier leading_base128 number_octets shortest_length answer arrange der
    der_element insert_text padded_less string_types open_form add_member all_members is_subidentifiers read_leaf
    read_open read_segment each_member fit_contents header_octet in_container next_octets next_tag primitive_contents
    read_big_endian read_definite_length read_high_number read_length read_number read_tag_number apply_rule due_element
    from_inside read_document read_type choose require run ◌>>=◌ fits_tag leaf_at
computed limits type octets = answer limits type octets
