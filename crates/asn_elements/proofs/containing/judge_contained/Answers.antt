use Rattle.std.proofs.Common.{◌≡◌, ◌∙◌, ◌==◌, ◌-◌, arith, length, sym, true}
use Rattle.std.proofs.lemmas.Bool.Decides.{nat_tests}
use Rattle.std.proofs.lemmas.List.{nil_from_length}
use Rattle.asn_elements.proofs.InDerTexts.{contains_in_der}
use Rattle.asn_elements.proofs.containing.judge_contained.Goals as goal

pub returns : goal.returns
returns g c =
    let behind = c.in_ok-behind.behind.now in
    let test : (length behind == 0) ≡ true = sym c.is_empty.ensures ∙ c.if-not-is_empty.false in
    let none : length behind ≡ 0 = grind (arith, nat_tests) in
    contains_in_der c.args.limits.depth (c.depth.result - 1) c.args.own g.T.Element.type_term c.args.octets.now
    c.in_ok-contents.contents.now c.in_ok-contents.rest.now behind c.in_ok-contents.ensures.tag
    c.in_ok-contents.ensures.is c.in_ok-contents.ensures.small
    (omega (arith, c.depth.ensures.bounds.some_depth, c.depth.ensures.value))
    c.in_ok-behind.ensures (nil_from_length behind none)
