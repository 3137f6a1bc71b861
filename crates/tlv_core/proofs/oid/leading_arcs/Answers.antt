use Rattle.std.proofs.Common.{arith}
use Rattle.tlv_core.proofs.ObjectIdentifiers.{leading_are, rest_length}
use Rattle.tlv_core.proofs.oid.leading_arcs.Goals as goal

pub returns-clause-all : goal.returns-clause-all
returns-clause-all c = λ arcs h.
    leading_are arcs c.args.octets.now c.in-Some.first c.in-Some.used c.min-lead.result h c.in-Some.ensures.digits
    c.min-lead.ensures

pub returns-clause-within : goal.returns-clause-within
returns-clause-within c = omega (arith, rest_length c.args.octets.now c.in-Some.used, c.in-Some.ensures.within)
