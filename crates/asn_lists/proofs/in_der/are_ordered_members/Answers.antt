use Rattle.std.proofs.Common.{◌≡◌, ◌==◌, ◌∙◌, ap, arith, length, refl, subst, sym, true}
use Rattle.std.proofs.lemmas.Bool.Decides.{nat_tests}
use Rattle.std.proofs.lemmas.List.{nil_from_length}
use Rattle.std.specs.Ordering.{is_lt}
use Rattle.asn_elements.proofs.MembersInDer.{GoesOn, fewer, goes_on_all, goes_on_first, goes_on_next}
use Rattle.asn_lists.proofs.in_der.are_ordered_members.Goals as goal

pub slice_bounds-text-count : goal.slice_bounds-text-count
slice_bounds-text-count g c =
    let less = fewer c.args.limits.depth c.args.left g.T.Element.type_term c.loop-rest.rest.now c.in-Some.behind.now
    c.in-Some.ensures in
    omega arith

pub loop-rest-init : goal.loop-rest-init
loop-rest-init g c = goes_on_first c.args.limits.depth c.args.left g.T.Element.type_term c.args.octets.now

pub loop-rest-preserved : goal.loop-rest-preserved
loop-rest-preserved g c =
    goes_on_next c.args.limits.depth c.args.left g.T.Element.type_term c.args.octets.now c.loop-rest.rest.now
    c.in-Some.behind.now c.loop-rest.before.now _ c.loop-rest.invariant c.in-Some.ensures refl
    (sym (c.is_lt.ensures ∙ ap is_lt c.cmp.ensures) ∙ c.if-is_lt.false)

pub loop-rest-smaller : goal.loop-rest-smaller
loop-rest-smaller g c =
    fewer c.args.limits.depth c.args.left g.T.Element.type_term c.loop-rest.rest.now c.in-Some.behind.now
    c.in-Some.ensures

pub returns : goal.returns
returns g c = λ _.
    let rest = c.loop-rest.rest.now in
    let test : (length rest == 0) ≡ true = sym c.is_empty.ensures ∙ c.loop-rest-test.false in
    let none : length rest ≡ 0 = grind (arith, nat_tests) in
    goes_on_all c.args.limits.depth c.args.left g.T.Element.type_term c.args.octets.now c.loop-rest.before.now
    (subst (λ z. GoesOn c.args.limits.depth c.args.left g.T.Element.type_term c.args.octets.now z
    c.loop-rest.before.now) (nil_from_length rest none) c.loop-rest.invariant)
