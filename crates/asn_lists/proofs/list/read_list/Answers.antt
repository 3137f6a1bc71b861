use Rattle.std.proofs.Common.{rules, arith, ◌≡◌, ◌<◌, ◌≤◌, ap, false, length, map, nat_le, subst, sym, true}
use Rattle.std.proofs.lemmas.Bool.Decides.{nat_tests}
use Rattle.std.proofs.lemmas.List.{length-map}
use Rattle.tlv_core.specs.declared.reason.Reason.TheVariants.{Missing}
use Rattle.x690.specs.Points.{fault}
use Rattle.x690.specs.Reads.{Said}
use Rattle.ber_pull.specs.View.{Answers}
use Rattle.x690.specs.TypeTerms.{SequenceOfType}
use Rattle.x690.specs.Values.{Sequence, values_of}
use Rattle.ber_pull.proofs.Hearing.{hears_as, hears_done, hears_error, hears_off, hears_on, hears_then, hears_then_memory}
use Rattle.asn_lists.specs.Containers.{list_items}
use Rattle.asn_elements.specs.Reading.{ended, read_given, read_given_members}
use Rattle.asn_elements.proofs.ReaderAnswers.{fine_still, given_still, refused_by, unmoved_answers, value_err}
use Rattle.x690_laws.proofs.ReadingComplete.{each_length}
use Rattle.asn_elements.proofs.SameMembers.{same_lists}
use Rattle.asn_elements.proofs.TypeReadings.{list_of, list_type_is}
use Rattle.asn_lists.proofs.list.read_list.Goals as goal

pub returns-in_err-expect_tag-clause-reads : goal.returns-in_err-expect_tag-clause-reads
returns-in_err-expect_tag-clause-reads g c = λ given fine is.
    let type = g.T.Element.type_term in
    let s = c.args.pull.now.state in
    let own = c.args.tag in
    let least = c.args.least in
    value_err c.args.pull.now c.expect_tag.new.pull (read_given (SequenceOfType own least type) s given)
    (λ list. Sequence own (values_of (map g.T.DerText.value (list_items list))))
    c.from_residual.result c.in_err-expect_tag.field-0.0
    (search rules)
    (hears_as _ _ _ _ _ _ _ (list_type_is own least type s given) (c.in_err-expect_tag.ensures.stops given fine is _))

pub returns-in_err-items-clause-reads : goal.returns-in_err-items-clause-reads
returns-in_err-items-clause-reads g c = λ given fine is.
    let type = g.T.Element.type_term in
    let s = c.args.pull.now.state in
    let own = c.args.tag in
    let least = c.args.least in
    let ok = c.in_ok-expect_tag.ensures.is given fine is in
    let still = c.in_ok-expect_tag.ensures.same in
    let fine' = fine_still c.args.pull.now c.expect_tag.new.pull still fine in
    let is' = given_still c.args.pull.now c.expect_tag.new.pull given still is in
    value_err c.args.pull.now c.read_members.new.pull (read_given (SequenceOfType own least type) s given)
    (λ list. Sequence own (values_of (map g.T.DerText.value (list_items list))))
    c.from_residual-in_err-items.result c.in_err-items.field-0.0
    (search rules)
    (hears_as _ _ _ _ _ _ _ (list_type_is own least type s given) (hears_on _ _ _ _ _ _ _ _ ok.1
    (hears_error (read_given_members type s given) (list_of own least) _ _ _ _ _
    (unmoved_answers
    (λ z. read_given_members type z given) c.args.pull.now c.expect_tag.new.pull c.read_members.new.pull _ still
    (c.in_err-items.ensures.reads given fine' is')))))

pub returns-then-len-least-clause-reads : goal.returns-then-len-least-clause-reads
returns-then-len-least-clause-reads g c = λ given fine is.
    let type = g.T.Element.type_term in
    let s = c.args.pull.now.state in
    let own = c.args.tag in
    let least = c.args.least in
    let ok = c.in_ok-expect_tag.ensures.is given fine is in
    let still = c.in_ok-expect_tag.ensures.same in
    let fine' = fine_still c.args.pull.now c.expect_tag.new.pull still fine in
    let is' = given_still c.args.pull.now c.expect_tag.new.pull given still is in
    let read = c.in_ok-items.ensures.reads given fine' is' in
    let first = c.refuse.ensures.first (search rules) in
    let n = each_length read.0 (map g.T.DerText.value c.in_ok-items.items.items) read.1 in
    let m = length-map c.in_ok-items.items.items g.T.DerText.value in
    let few : length c.in_ok-items.items.items < least = search rules in
    let less : length read.0 < least = omega arith in
    let none : nat_le least (length read.0) ≡ false = grind (arith, nat_tests) in
    refused_by _ c.args.pull.now c.read_members.new.pull c.refuse.new.self
    (fault c.in_ok-items.at Missing) c.refuse.result first.0 first.1 c.refuse.ensures.same
    (hears_as _ _ _ _ _ _ _ (list_type_is own least type s given) (hears_on _ _ _ _ _ _ _ _ ok.1
    (hears_then (read_given_members type s given) (list_of own least) (ended read.0 c.in_ok-items.at) _ _ _ _ _ _ _
    (unmoved_answers
    (λ z. read_given_members type z given) c.args.pull.now c.expect_tag.new.pull c.read_members.new.pull _ still read.2)
    (hears_off _ _ _ _ _ none))))

pub returns-in_err-row-clause-reads : goal.returns-in_err-row-clause-reads
returns-in_err-row-clause-reads g c = λ given fine is.
    let type = g.T.Element.type_term in
    let s = c.args.pull.now.state in
    let own = c.args.tag in
    let least = c.args.least in
    let ok = c.in_ok-expect_tag.ensures.is given fine is in
    let still = c.in_ok-expect_tag.ensures.same in
    let fine' = fine_still c.args.pull.now c.expect_tag.new.pull still fine in
    let is' = given_still c.args.pull.now c.expect_tag.new.pull given still is in
    let read = c.in_ok-items.ensures.reads given fine' is' in
    let stop = c.in_err-row.ensures.stops in
    value_err c.args.pull.now c.row_of.new.pull (read_given (SequenceOfType own least type) s given)
    (λ list. Sequence own (values_of (map g.T.DerText.value (list_items list))))
    c.from_residual-in_err-row.result c.in_err-row.field-0.0
    (search rules)
    (hears_as _ _ _ _ _ _ _ (list_type_is own least type s given) (hears_on _ _ _ _ _ _ _ _ ok.1
    (hears_error (read_given_members type s given) (list_of own least) c.in_err-row.field-0.0 _ _ _ _
    (hears_then_memory _ (ended read.0 c.in_ok-items.at) c.in_err-row.field-0.0 _ _ _ _ _ _ stop.0
    (ap (λ z. z.taken) stop.2) (ap g.R.Source.remaining stop.1)
    (unmoved_answers (λ z. read_given_members type z given)
    c.args.pull.now c.expect_tag.new.pull c.read_members.new.pull _ still read.2)))))

pub returns-clause-reads : goal.returns-clause-reads
returns-clause-reads g c = λ given fine is.
    let type = g.T.Element.type_term in
    let s = c.args.pull.now.state in
    let own = c.args.tag in
    let least = c.args.least in
    let ok = c.in_ok-expect_tag.ensures.is given fine is in
    let still = c.in_ok-expect_tag.ensures.same in
    let fine' = fine_still c.args.pull.now c.expect_tag.new.pull still fine in
    let is' = given_still c.args.pull.now c.expect_tag.new.pull given still is in
    let read = c.in_ok-items.ensures.reads given fine' is' in
    let n = each_length read.0 (map g.T.DerText.value c.in_ok-items.items.items) read.1 in
    let m = length-map c.in_ok-items.items.items g.T.DerText.value in
    let few : least ≤ length c.in_ok-items.items.items = search rules in
    let more : least ≤ length read.0 = omega arith in
    let enough : nat_le least (length read.0) ≡ true = grind (arith, nat_tests) in
    let made : map g.T.DerText.value c.in_ok-items.items.items ≡ map g.T.DerText.value c.in_ok-row.row.items.items =
    ap (λ z. map g.T.DerText.value z.items) (sym c.in_ok-row.ensures.made) in (
      Sequence own (values_of read.0),
      same_lists own read.0 _ (rw (← made) read.1),
      subst (λ z.
          Answers c.args.pull.now z (read_given (SequenceOfType own least type) s given)
          (Said (Sequence own (values_of read.0))))
          (sym c.in_ok-row.ensures.still)
          (hears_as _ _ _ _ _ _ _ (list_type_is own least type s given) (hears_on _ _ _ _ _ _ _ _ ok.1
          (hears_then (read_given_members type s given) (list_of own least)
          (ended read.0 c.in_ok-items.at) _ _ _ _ _ _ _
          (unmoved_answers (λ z. read_given_members type z given)
          c.args.pull.now c.expect_tag.new.pull c.read_members.new.pull _ still read.2)
          (hears_on _ _ _ _ _ _ _ _ enough (hears_done _ _ _))))),
    )
