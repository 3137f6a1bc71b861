use Rattle.std.proofs.Common.{arith, get_or, ◌<◌}
use Rattle.tlv_core.proofs.ObjectIdentifiers.{leading_some}
use Rattle.tlv_core.proofs.oid.leading_subidentifier.Goals as goal
use Rattle.tlv_core.proofs.oid.leading_subidentifier.Goals.{then-arcs-lt2-2, else-arcs-lt2-2}

pub returns-clause-some : goal.returns-clause-some
returns-clause-some c =
    let arcs = c.args.arcs.now in
    let small : get_or arcs 0 0 < 2 → get_or arcs 1 0 < 40 = λ h. elim c.if-arcs-lt2-2.branch [
      | then-arcs-lt2-2 w ↦ omega (arith, c.if-arcs-last.false, w.last-is)
      | else-arcs-lt2-2 w ↦ absurd (omega (arith, w.if-arcs-lt2-2.false, h))
    ] in
    leading_some arcs _ c.if-arcs-lt2.false c.if-arcs-gt2.false small
    (λ i. (c.type_inv.arcs i).fits) c.checked_add.ensures
