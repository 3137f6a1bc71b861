use Rattle.std.proofs.Common.{[], ◌-◌, ap, arith, length, refl}
use Rattle.std.proofs.lemmas.List.{length-append}
use Rattle.x690.specs.DerTexts.{der}
use Rattle.asn_documents.proofs.AtHand.{stands_at_hand}
use Rattle.asn_documents.proofs.in_der.length_in_der.Goals as goal

pub overflow_sub-taken : goal.overflow_sub-taken
overflow_sub-taken g c =
    let b = c.in_ok-rest.ensures in
    let s = b.1 [] in
    omega (arith, ap length s.is, length-append (der b.0) c.in_ok-rest.rest.now)

pub returns : goal.returns
returns g c =
    stands_at_hand c.args.limits (c.depth.result - 1) g.T.Element.type_term c.args.octets.now c.in_ok-rest.rest.now
    (length c.args.octets.now - length c.in_ok-rest.rest.now)
    (omega (arith, c.depth.ensures.bounds.some_depth, c.depth.ensures.value)) c.in_ok-rest.ensures refl (omega arith)
