use Rattle.std.proofs.Common.{◌≡◌, ◌==◌, ◌∙◌, ◌++◌, ◌-◌, ap, arith, false, inl, inr, length, refl, rules, subst, sym, true}
use Rattle.std.proofs.lemmas.Bool.Decides.{nat_tests}
use Rattle.std.proofs.lemmas.List.{nil_from_length}
use Rattle.std.specs.Ordering.{is_lt}
use Rattle.x690.specs.DerTexts.{der_element}
use Rattle.x690.specs.TypeTerms.{OpenType}
use Rattle.asn_elements.specs.Reading.{kind_of}
use Rattle.asn_elements.proofs.MembersInDer.{fewer}
use Rattle.asn_open_values.specs.OpenTexts.{form_of}
use Rattle.asn_open_values.proofs.OpenInDer.{OpenGoesOn, open_all, open_container, open_first, open_next_in_sequence, open_next_in_set, open_sequence_begins, open_set_begins}
use Rattle.asn_open_values.proofs.in_der.+judged.Goals as goal

pub are_open_members-slice_bounds-text-count : goal.are_open_members-slice_bounds-text-count
are_open_members-slice_bounds-text-count t c =
    let less = fewer 0 c.args.left OpenType c.loop-rest.rest.now c.in-Some.behind.now (c.in-Some.ensures 0) in
    omega arith

pub are_open_members-loop-rest-init : goal.are_open_members-loop-rest-init
are_open_members-loop-rest-init t c = λ limit. open_first c.args.is_set limit c.args.left c.args.octets.now

pub are_open_members-loop-rest-smaller : goal.are_open_members-loop-rest-smaller
are_open_members-loop-rest-smaller t c =
    fewer 0 c.args.left OpenType c.loop-rest.rest.now c.in-Some.behind.now (c.in-Some.ensures 0)

pub are_open_members-returns : goal.are_open_members-returns
are_open_members-returns t c = λ _ limit.
    let rest = c.loop-rest.rest.now in
    let test : (length rest == 0) ≡ true = sym c.is_empty.ensures ∙ c.loop-rest-test.false in
    let none : length rest ≡ 0 = grind (arith, nat_tests) in
    open_all c.args.is_set limit c.args.left c.args.octets.now c.loop-rest.before.now
    (subst (λ z. OpenGoesOn c.args.is_set limit c.args.left c.args.octets.now z c.loop-rest.before.now)
    (nil_from_length rest none) (c.loop-rest.invariant limit))

pub are_open_members-loop-rest-smaller-else-is_lt : goal.are_open_members-loop-rest-smaller-else-is_lt
are_open_members-loop-rest-smaller-else-is_lt t c =
    fewer 0 c.args.left OpenType c.loop-rest.rest.now c.in-Some.behind.now (c.in-Some.ensures 0)

pub are_open_members-loop-rest-preserved-else-is_lt : goal.are_open_members-loop-rest-preserved-else-is_lt
are_open_members-loop-rest-preserved-else-is_lt t c = λ limit.
    open_next_in_set c.args.is_set limit c.args.left c.args.octets.now c.loop-rest.rest.now
    c.in-Some.behind.now c.loop-rest.before.now _ c.if-is_set.true (c.loop-rest.invariant limit) (c.in-Some.ensures limit)
    refl (sym (c.is_lt.ensures ∙ ap is_lt c.cmp.ensures) ∙ c.if-is_lt.false)

pub are_open_members-loop-rest-preserved : goal.are_open_members-loop-rest-preserved
are_open_members-loop-rest-preserved t c = λ limit.
    open_next_in_sequence c.args.is_set limit c.args.left c.args.octets.now c.loop-rest.rest.now
    c.in-Some.behind.now c.loop-rest.before.now c.if-is_set.false (c.loop-rest.invariant limit)
    (c.in-Some.ensures limit)

pub are_contents-returns-then-left-gt0 : goal.are_contents-returns-then-left-gt0
are_contents-returns-then-left-gt0 t c = λ yes limit.
    (c.args.left - 1, omega (arith, c.if-left-gt0.true), c.are_open_members.ensures yes limit)

pub is_open_container-returns-in-Sequence : goal.is_open_container-returns-in-Sequence
is_open_container-returns-in-Sequence t c = λ yes limit octets rest tag is.
    open_sequence_begins limit c.args.left c.args.tag octets rest
    (inl (sym c.open_form.ensures ∙ ap form_of c.in-Sequence.is))
    (open_container false limit c.args.left c.args.tag octets c.args.contents.now rest tag is c.requires
    (c.are_contents.ensures yes limit))

pub is_open_container-returns-in-SetOf : goal.is_open_container-returns-in-SetOf
is_open_container-returns-in-SetOf t c = λ yes limit octets rest tag is.
    open_set_begins limit c.args.left c.args.tag octets rest (sym c.open_form.ensures ∙ ap form_of c.in-SetOf.is)
    (open_container true limit c.args.left c.args.tag octets c.args.contents.now rest tag is c.requires
    (c.are_contents-in-SetOf.ensures yes limit))

pub is_open_container-returns-in-Plain : goal.is_open_container-returns-in-Plain
is_open_container-returns-in-Plain t c = λ yes limit octets rest tag is.
    open_sequence_begins limit c.args.left c.args.tag octets rest
    (inr (sym c.open_form.ensures ∙ ap form_of c.in-Plain.is))
    (open_container false limit c.args.left c.args.tag octets c.args.contents.now rest tag is c.requires
    (c.are_contents-in-Plain.ensures yes limit))

pub judge_open-returns-then-constructed : goal.judge_open-returns-then-constructed
judge_open-returns-then-constructed t c = λ limit.
    let e = c.in-Some.ensures in
    c.is_open_container.ensures (search rules) limit c.args.octets.now _ (search (rules, e.tag))
    (search (rules, e.is))

pub judge_open-returns : goal.judge_open-returns
judge_open-returns t c = λ limit.
    let e = c.in-Some.ensures in
    c.is_open_leaf.ensures (search rules) limit c.args.left c.args.octets.now _
    (search (rules, e.tag)) (search (rules, e.is))
