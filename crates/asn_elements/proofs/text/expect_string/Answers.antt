use Rattle.std.proofs.Common.{rules}
use Rattle.x690.specs.StringTypes.{string_types}
use Rattle.x690.specs.TypeTerms.{fits_tag}
use Rattle.asn_elements.proofs.ReaderAnswers.{wrong_tag}
use Rattle.asn_elements.proofs.text.expect_string.Goals as goal

pub returns-then-not-is_string_tag-clause-stops : goal.returns-then-not-is_string_tag-clause-stops
returns-then-not-is_string_tag-clause-stops g c = λ given fine is p.
    let first = c.refuse.ensures.first (search rules) in
    wrong_tag (fits_tag string_types given.tag)
    _ c.args.pull.now c.next_tag.new.self c.refuse.new.self given c.at-at.result c.refuse.result
    (search rules) is c.at-at.ensures.value
    (c.next_tag.ensures.given given fine is).1 first.0 first.1 c.refuse.ensures.same
