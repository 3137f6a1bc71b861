use Rattle.std.proofs.Common.{rules, arith, ◌≡◌, ◌∙◌, ◌+◌, ◌++◌, ◌-◌, ◌<◌, ap, length, length-set, subst, true}
use Rattle.x690.specs.DerTexts.{texts_of}
use Rattle.x690.specs.ReadContents.{is_integer_contents}
use Rattle.ber_pull.specs.View.{standing, told}
use Rattle.asn_fields.specs.BegunSequence.{BegunSequence}
use Rattle.asn_fields.specs.Fields.{next_of}
use Rattle.asn_fields.proofs.FieldAnswers.{with_error}
use Rattle.private_keys.specs.RsaNumbers.{integer_value, integers_due, values_in}
use Rattle.private_keys.proofs.RsaNumbers.{begun_more, begun_next, each_more, inside_more, short_more, text_more, values_more}
use Rattle.private_keys.proofs.rsa_numbers.NumbersIndependentFields.read.Goals as goal

pub append_integer-requires-clause-fine : goal.append_integer-requires-clause-fine
append_integer-requires-clause-fine g c = c.loop-i.invariant.1

pub append_integer-requires-clause-inside : goal.append_integer-requires-clause-inside
append_integer-requires-clause-inside g c =
    let here = c.requires.inside in (here.0, here.1, c.loop-i.invariant.5 here.0 here.1 here.2)

pub returns-in_err-begins-clause-reads : goal.returns-in_err-begins-clause-reads
returns-in_err-begins-clause-reads g c = λ k s whole finish rest ws a.
    let i = c.loop-i.i in
    let values = values_in c.loop-i.text.items c.loop-i.begins c.loop-i.ends i in
    with_error _ _ c.from_residual.result c.in_err-begins.field-0.0 (search rules)
    (c.in_err-begins.ensures.reads k s whole finish (integers_due (8 - (i + 1)) rest) (ws ++ values)
    (begun_next i rest (ws ++ values) c.loop-i-test.true (c.loop-i.invariant.10 k s whole finish rest ws a)))

pub loop-i-preserved : goal.loop-i-preserved
loop-i-preserved g c =
    let kept = c.loop-i.invariant in
    let read = c.in_ok-begins.ensures in
    let i = c.loop-i.i in
    let text = c.loop-i.text.items in
    let begins = c.loop-i.begins in
    let ends = c.loop-i.ends in
    let contents = c.append_integer.new.room.items in
    let begin = c.in_ok-begins.field-0 in
    let end = c.len.result in
    let text' = c.append_integer.new.text.items in
    let room : i < length begins = omega (arith, c.loop-i-test.true, kept.11) in
    let room' : i < length ends = omega (arith, c.loop-i-test.true, kept.12) in
    let last : end ≡ length text' = search rules in
    let values = values_in text begins ends i in
    let more = values_more text contents begins ends i begin end text' room room' kept.8 read.put read.within
    read.begins last in (
      search rules,
      search rules,
      search rules,
      search rules,
      search rules,
      λ outer inside a. read.stands outer inside (kept.5 outer inside a),
      text_more text contents begins ends i begin end text' room room' kept.8 read.put read.within read.begins
          last kept.6,
      short_more text contents begins ends i begin end text' room room' kept.8 read.put read.within read.begins
          last kept.6 kept.7 read.short,
      inside_more text contents begins ends i begin end text' room room' kept.8 read.put read.within read.begins
          last,
      each_more text contents begins ends i begin end text' room room' kept.8 read.put read.within read.begins
          last (λ octets. is_integer_contents octets ≡ true) kept.9 read.is,
      λ k s whole finish rest ws a.
          begun_more (integers_due (8 - (i + 1)) rest) ws values _ (integer_value contents) more
          (read.reads k s whole finish (integers_due (8 - (i + 1)) rest) (ws ++ values)
          (begun_next i rest (ws ++ values) c.loop-i-test.true (kept.10 k s whole finish rest ws a))),
      length-set begins i begin ∙ kept.11,
      length-set ends i end ∙ kept.12,
    )

pub invariant_of-result : goal.invariant_of-result
invariant_of-result g c =
    let kept = c.loop-i.invariant in
    let all : c.loop-i.i ≡ 8 = omega (arith, c.loop-i-test.false, c.loop-i.auto.i-end) in record {
      stand = kept.6 ∙ ap (λ n. texts_of (values_in c.loop-i.text.items c.loop-i.begins c.loop-i.ends n)) all;
      within = λ j below. kept.8 j (omega (arith, below, all));
      integers = λ j below. kept.9 j (omega (arith, below, all));
    }

pub returns-clause-reads : goal.returns-clause-reads
returns-clause-reads g c = λ k s whole finish rest ws a.
    let all : c.loop-i.i ≡ 8 = omega (arith, c.loop-i-test.false, c.loop-i.auto.i-end) in
    subst (λ n.
    BegunSequence k s whole finish (integers_due (8 - n) rest)
    (ws ++ values_in c.loop-i.text.items c.loop-i.begins c.loop-i.ends n) (next_of c.loop-i.next)
    (standing c.loop-i.pull) (told c.loop-i.pull)) all (c.loop-i.invariant.10 k s whole finish rest ws a)
