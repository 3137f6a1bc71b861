use Rattle.std.proofs.Common.{arith, refl}
use Rattle.tlv_core.proofs.ObjectIdentifiers.{arc_given, no_arc_given, rest_length}
use Rattle.tlv_core.proofs.oid.LaterArcs.next.Goals as goal

pub returns-in_default-clause-arc : goal.returns-in_default-clause-arc
returns-in_default-clause-arc c =
    λ arcs h. no_arc_given arcs c.args.self.now.rest.now h (c.in_default.ensures.none refl)

pub returns-clause-arc : goal.returns-clause-arc
returns-clause-arc c =
    λ arcs h. arc_given arcs c.args.self.now.rest.now c.in-Some.arc c.in-Some.used h c.in-Some.ensures.digits

pub returns-clause-shorter : goal.returns-clause-shorter
returns-clause-shorter c =
    omega (arith, rest_length c.args.self.now.rest.now c.in-Some.used, c.in-Some.ensures.some, c.in-Some.ensures.within)
