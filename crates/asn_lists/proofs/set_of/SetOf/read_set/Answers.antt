use Rattle.std.proofs.Common.{rules, arith, ◌≡◌, ◌∙◌, ◌<◌, ◌≤◌, ap, false, length, map, nat_le, subst, sym, true}
use Rattle.std.proofs.lemmas.Bool.Decides.{nat_tests}
use Rattle.std.proofs.lemmas.List.{length-map}
use Rattle.tlv_core.specs.declared.fault.ReadError.TheVariants as errors
use Rattle.tlv_core.specs.declared.reason.Reason.TheVariants.{EmptySet}
use Rattle.x690.specs.Points.{fault}
use Rattle.x690.specs.Reads.{Said}
use Rattle.ber_pull.specs.View.{Answers, told}
use Rattle.x690.specs.TypeTerms.{SetOfType}
use Rattle.x690.specs.Values.{Same, SetOf, values_of}
use Rattle.ber_pull.proofs.Hearing.{hears_as, hears_done, hears_error, hears_off, hears_on, hears_then, hears_then_memory}
use Rattle.asn_lists.specs.Containers.{set_items}
use Rattle.asn_elements.specs.Reading.{ended, read_given, read_given_members}
use Rattle.asn_elements.proofs.ReaderAnswers.{fine_still, given_still, refused_by, unmoved_answers, value_err}
use Rattle.asn_elements.proofs.PairedMembers.{same_sets}
use Rattle.x690_laws.proofs.ReadingComplete.{each_length}
use Rattle.asn_elements.proofs.ContainerTexts.{texts_permuted}
use Rattle.std.proofs.lemmas.List.Sorted.{IsPermutation-map, length_permutation}
use Rattle.asn_elements.proofs.TypeReadings.{set_of, set_type_is}
use Rattle.asn_lists.proofs.set_of.SetOf.read_set.Goals as goal

pub returns-in_err-at-clause-reads : goal.returns-in_err-at-clause-reads
returns-in_err-at-clause-reads g c = λ given fine is.
    let type = g.T.Element.type_term in
    let s = c.args.pull.now.state in
    let own = c.args.tag in
    let least = c.args.least in
    value_err c.args.pull.now c.expect_tag.new.pull (read_given (SetOfType own least type) s given)
    (λ set'. SetOf own (values_of (map g.T.DerText.value (set_items set'))))
    c.from_residual.result c.in_err-at.field-0.0
    (search rules)
    (hears_as _ _ _ _ _ _ _ (set_type_is own least type s given) (c.in_err-at.ensures.stops given fine is _))

pub returns-in_err-items-clause-reads : goal.returns-in_err-items-clause-reads
returns-in_err-items-clause-reads g c = λ given fine is.
    let type = g.T.Element.type_term in
    let s = c.args.pull.now.state in
    let own = c.args.tag in
    let least = c.args.least in
    let ok = c.in_ok-at.ensures.is given fine is in
    let still = c.in_ok-at.ensures.same in
    let fine' = fine_still c.args.pull.now c.expect_tag.new.pull still fine in
    let is' = given_still c.args.pull.now c.expect_tag.new.pull given still is in
    value_err c.args.pull.now c.read_members.new.pull (read_given (SetOfType own least type) s given)
    (λ set'. SetOf own (values_of (map g.T.DerText.value (set_items set'))))
    c.from_residual-in_err-items.result c.in_err-items.field-0.0
    (search rules)
    (hears_as _ _ _ _ _ _ _ (set_type_is own least type s given) (hears_on _ _ _ _ _ _ _ _ ok.1
    (hears_error (read_given_members type s given) (set_of own least given.at) _ _ _ _ _
    (unmoved_answers
    (λ z. read_given_members type z given) c.args.pull.now c.expect_tag.new.pull c.read_members.new.pull _ still
    (c.in_err-items.ensures.reads given fine' is')))))

pub returns-then-len-least-clause-reads : goal.returns-then-len-least-clause-reads
returns-then-len-least-clause-reads g c = λ given fine is.
    let type = g.T.Element.type_term in
    let s = c.args.pull.now.state in
    let own = c.args.tag in
    let least = c.args.least in
    let ok = c.in_ok-at.ensures.is given fine is in
    let still = c.in_ok-at.ensures.same in
    let fine' = fine_still c.args.pull.now c.expect_tag.new.pull still fine in
    let is' = given_still c.args.pull.now c.expect_tag.new.pull given still is in
    let read = c.in_ok-items.ensures.reads given fine' is' in
    let first = c.refuse.ensures.first (search rules) in
    let n = each_length read.0 (map g.T.DerText.value c.in_ok-items.items.items) read.1 in
    let m = length-map c.in_ok-items.items.items g.T.DerText.value in
    let few : length c.in_ok-items.items.items < least = search rules in
    let less : length read.0 < least = omega arith in
    let none : nat_le least (length read.0) ≡ false = grind (arith, nat_tests) in
    refused_by _ c.args.pull.now c.read_members.new.pull c.refuse.new.self (fault given.at EmptySet) c.refuse.result
    (first.0 ∙ ap (λ p. errors.Fault (fault p EmptySet)) ok.0) first.1 c.refuse.ensures.same
    (hears_as _ _ _ _ _ _ _ (set_type_is own least type s given) (hears_on _ _ _ _ _ _ _ _ ok.1
    (hears_then (read_given_members type s given) (set_of own least given.at)
    (ended read.0 c.in_ok-items._end) _ _ _ _ _ _ _
    (unmoved_answers
    (λ z. read_given_members type z given) c.args.pull.now c.expect_tag.new.pull c.read_members.new.pull _ still read.2)
    (hears_off _ _ _ _ _ none))))

pub row_of-requires-clause-short : goal.row_of-requires-clause-short
row_of-requires-clause-short g c =
    let p = texts_permuted (map g.T.DerText.value c.in_ok-items.items.items)
    (map g.T.DerText.value c.in_ok-sorted.sorted.items)
    (IsPermutation-map g.T.DerText.value c.in_ok-items.items.items c.in_ok-sorted.sorted.items
    c.in_ok-sorted.ensures.same) in
    omega (arith, c.in_ok-items.ensures.short)

pub returns-in_err-sorted-clause-reads : goal.returns-in_err-sorted-clause-reads
returns-in_err-sorted-clause-reads g c = λ given fine is.
    let type = g.T.Element.type_term in
    let s = c.args.pull.now.state in
    let own = c.args.tag in
    let least = c.args.least in
    let ok = c.in_ok-at.ensures.is given fine is in
    let still = c.in_ok-at.ensures.same in
    let fine' = fine_still c.args.pull.now c.expect_tag.new.pull still fine in
    let is' = given_still c.args.pull.now c.expect_tag.new.pull given still is in
    let read = c.in_ok-items.ensures.reads given fine' is' in
    let stop = c.in_err-sorted.ensures.stops in
    value_err c.args.pull.now c.put_in_order.new.pull (read_given (SetOfType own least type) s given)
    (λ set'. SetOf own (values_of (map g.T.DerText.value (set_items set'))))
    c.from_residual-in_err-sorted.result c.in_err-sorted.field-0.0
    (search rules)
    (hears_as _ _ _ _ _ _ _ (set_type_is own least type s given) (hears_on _ _ _ _ _ _ _ _ ok.1
    (hears_error (read_given_members type s given) (set_of own least given.at) c.in_err-sorted.field-0.0 _ _ _ _
    (hears_then_memory _ (ended read.0 c.in_ok-items._end) c.in_err-sorted.field-0.0 _ _ _ _ _ _ stop.0
    (ap (λ z. z.taken) stop.2) (ap g.R.Source.remaining stop.1)
    (unmoved_answers (λ z. read_given_members type z given)
    c.args.pull.now c.expect_tag.new.pull c.read_members.new.pull _ still read.2)))))

pub returns-in_err-row-clause-reads : goal.returns-in_err-row-clause-reads
returns-in_err-row-clause-reads g c = λ given fine is.
    let type = g.T.Element.type_term in
    let s = c.args.pull.now.state in
    let own = c.args.tag in
    let least = c.args.least in
    let ok = c.in_ok-at.ensures.is given fine is in
    let still = c.in_ok-at.ensures.same in
    let fine' = fine_still c.args.pull.now c.expect_tag.new.pull still fine in
    let is' = given_still c.args.pull.now c.expect_tag.new.pull given still is in
    let read = c.in_ok-items.ensures.reads given fine' is' in
    let stop = c.in_err-row.ensures.stops in
    value_err c.args.pull.now c.row_of.new.pull (read_given (SetOfType own least type) s given)
    (λ set'. SetOf own (values_of (map g.T.DerText.value (set_items set'))))
    c.from_residual-in_err-row.result c.in_err-row.field-0.0
    (search rules)
    (hears_as _ _ _ _ _ _ _ (set_type_is own least type s given) (hears_on _ _ _ _ _ _ _ _ ok.1
    (hears_error (read_given_members type s given) (set_of own least given.at) c.in_err-row.field-0.0 _ _ _ _
    (hears_then_memory _ (ended read.0 c.in_ok-items._end) c.in_err-row.field-0.0 _ _ _ _ _ _ stop.0
    (ap (λ z. z.taken) stop.2 ∙ ap (λ z. z.state.taken) c.in_ok-sorted.ensures.still)
    (ap g.R.Source.remaining stop.1 ∙ ap told c.in_ok-sorted.ensures.still)
    (unmoved_answers (λ z. read_given_members type z given)
    c.args.pull.now c.expect_tag.new.pull c.read_members.new.pull _ still read.2)))))

pub returns-clause-reads : goal.returns-clause-reads
returns-clause-reads g c = λ given fine is.
    let type = g.T.Element.type_term in
    let s = c.args.pull.now.state in
    let own = c.args.tag in
    let least = c.args.least in
    let ok = c.in_ok-at.ensures.is given fine is in
    let still = c.in_ok-at.ensures.same in
    let fine' = fine_still c.args.pull.now c.expect_tag.new.pull still fine in
    let is' = given_still c.args.pull.now c.expect_tag.new.pull given still is in
    let read = c.in_ok-items.ensures.reads given fine' is' in
    let n = each_length read.0 (map g.T.DerText.value c.in_ok-items.items.items) read.1 in
    let m = length-map c.in_ok-items.items.items g.T.DerText.value in
    let few : least ≤ length c.in_ok-items.items.items = search rules in
    let more : least ≤ length read.0 = omega arith in
    let enough : nat_le least (length read.0) ≡ true = grind (arith, nat_tests) in
    let sorted = IsPermutation-map g.T.DerText.value c.in_ok-items.items.items c.in_ok-sorted.sorted.items
    c.in_ok-sorted.ensures.same in
    let made : map g.T.DerText.value c.in_ok-sorted.sorted.items ≡ map g.T.DerText.value c.in_ok-row.row.items.items =
    ap (λ z. map g.T.DerText.value z.items) (sym c.in_ok-row.ensures.made) in (
      SetOf own (values_of read.0),
      subst (λ z. Same (SetOf own (values_of read.0)) (SetOf own (values_of z))) made
          (same_sets own read.0 _ _ read.1 sorted),
      subst (λ z.
          Answers c.args.pull.now z (read_given (SetOfType own least type) s given)
          (Said (SetOf own (values_of read.0))))
          (sym (c.in_ok-row.ensures.still ∙ c.in_ok-sorted.ensures.still))
          (hears_as _ _ _ _ _ _ _ (set_type_is own least type s given) (hears_on _ _ _ _ _ _ _ _ ok.1
          (hears_then (read_given_members type s given) (set_of own least given.at)
          (ended read.0 c.in_ok-items._end) _ _ _ _ _ _ _
          (unmoved_answers (λ z. read_given_members type z given)
          c.args.pull.now c.expect_tag.new.pull c.read_members.new.pull _ still read.2)
          (hears_on _ _ _ _ _ _ _ _ enough (hears_done _ _ _))))),
    )

pub returns-clause-least : goal.returns-clause-least
returns-clause-least g c =
    let enough : c.args.least ≤ length c.in_ok-items.items.items = search rules in
    let sorted = length_permutation _ _ c.in_ok-sorted.ensures.same in
    let row = ap (λ v. length v.items) c.in_ok-row.ensures.made in
    subst (λ n. c.args.least ≤ n) (sym (row ∙ sorted)) enough
