use Rattle.std.proofs.Common.{rules}
use Rattle.x690.specs.Layouts.{same_tag}
use Rattle.asn_elements.proofs.ReaderAnswers.{wrong_tag}
use Rattle.pkix_shapes.specs.Terms.{tag_of}
use Rattle.asn_names.proofs.shaped.expect_own.Goals as goal

pub returns-then-not-is-clause-stops : goal.returns-then-not-is-clause-stops
returns-then-not-is-clause-stops g c = λ given fine is p.
    let first = c.refuse.ensures.first (search rules) in
    wrong_tag (same_tag (tag_of c.args.own) given.tag)
    _ c.args.pull.now c.next_tag.new.self c.refuse.new.self given c.at-at.result c.refuse.result
    (search rules) is c.at-at.ensures.value
    (c.next_tag.ensures.given given fine is).1 first.0 first.1 c.refuse.ensures.same
