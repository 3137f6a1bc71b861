use Rattle.std.proofs.Common.{rules, ◌≡◌, ap, true}
use Rattle.x690.specs.Layouts.{same_tag}
use Rattle.ber_pull.proofs.Hearing.{hears_at, hears_done, hears_on}
use Rattle.asn_elements.proofs.ReaderAnswers.{wrong_tag}
use Rattle.asn_elements.proofs.leaf_reading.expect_tag.Goals as goal

pub returns-then-not-is_same_tag-clause-stops : goal.returns-then-not-is_same_tag-clause-stops
returns-then-not-is_same_tag-clause-stops g c = λ given fine is p.
    let first = c.refuse.ensures.first (search rules) in
    wrong_tag (same_tag c.args.own given.tag)
    _ c.args.pull.now c.next_tag.new.self c.refuse.new.self given c.at-at.result c.refuse.result
    (search rules) is c.at-at.ensures.value
    (c.next_tag.ensures.given given fine is).1 first.0 first.1 c.refuse.ensures.same

pub returns-then-not-is_same_tag-clause-reads : goal.returns-then-not-is_same_tag-clause-reads
returns-then-not-is_same_tag-clause-reads g c = λ given fine is.
    let first = c.refuse.ensures.first (search rules) in
    wrong_tag (same_tag c.args.own given.tag)
    _ c.args.pull.now c.next_tag.new.self c.refuse.new.self given c.at-at.result c.refuse.result
    (search rules) is c.at-at.ensures.value
    (c.next_tag.ensures.given given fine is).1 first.0 first.1 c.refuse.ensures.same

pub returns-clause-reads : goal.returns-clause-reads
returns-clause-reads g c = λ given fine is.
    let same = (c.next_tag.ensures.given given fine is).1 in
    let on : same_tag c.args.own given.tag ≡ true = search rules in
    hears_at _ _ _ _ _ _ _ _ (ap (λ z. z.taken) same.0) (ap g.R.Source.remaining same.1)
    (hears_on _ _ _ _ _ _ _ _ on (hears_done _ _ _))
