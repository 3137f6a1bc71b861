use Rattle.std.proofs.Common.{◌≡◌, ◌==◌, ◌∙◌, [], arith, length, subst, sym, true}
use Rattle.std.proofs.lemmas.Bool.Decides.{nat_tests}
use Rattle.std.proofs.lemmas.List.{nil_from_length}
use Rattle.asn_elements.specs.MembersInDer.{AreMembers}
use Rattle.asn_elements.proofs.MembersInDer.{are_members, fewer, no_members}
use Rattle.asn_lists.proofs.in_der.are_members.Goals as goal

pub loop-rest-preserved : goal.loop-rest-preserved
loop-rest-preserved g c = λ m.
    c.loop-rest.invariant
    (are_members c.args.limits.depth c.args.left g.T.Element.type_term c.loop-rest.rest.now c.in-Some.behind.now
    c.in-Some.ensures m)

pub loop-rest-smaller : goal.loop-rest-smaller
loop-rest-smaller g c =
    fewer c.args.limits.depth c.args.left g.T.Element.type_term c.loop-rest.rest.now c.in-Some.behind.now
    c.in-Some.ensures

pub returns : goal.returns
returns g c = λ _.
    let rest = c.loop-rest.rest.now in
    let test : (length rest == 0) ≡ true = sym c.is_empty.ensures ∙ c.loop-rest-test.false in
    let none : length rest ≡ 0 = grind (arith, nat_tests) in
    c.loop-rest.invariant
    (subst (AreMembers c.args.limits.depth c.args.left g.T.Element.type_term) (sym (nil_from_length rest none))
    ([], no_members c.args.limits.depth c.args.left g.T.Element.type_term))
