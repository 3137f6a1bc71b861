use Rattle.std.proofs.Common.{◌<◌, ap, arith, drop, length, subst, sym}
use Rattle.tlv_core.specs.ObjectIdentifier.{IsObjectIdentifier, ObjectIdentifierOctets}
use Rattle.tlv_core.proofs.ObjectIdentifiers.{all_counted}
use Rattle.tlv_core.proofs.oid.Oid.arc_count.Goals as goal

pub leading_arcs-requires : goal.leading_arcs-requires
leading_arcs-requires c = subst (λ s. IsObjectIdentifier s) (sym c.contents.ensures.value) c.contents.ensures.is

pub returns-clause-count : goal.returns-clause-count
returns-clause-count c = λ arcs h.
    let all =
    c.leading_arcs.ensures.all arcs (subst (λ s. ObjectIdentifierOctets arcs s) (sym c.contents.ensures.value) h) in
    let passed = c.pass_arcs-passed.ensures.arcs (drop 2 arcs) all.1 in
    let few : c.pass_arcs-passed.result.0 < 18446744073709551615 = omega (
      arith,
      c.pass_arcs-passed.ensures.within,
      c.leading_arcs.ensures.within,
      ap length c.contents.ensures.value,
      c.contents.ensures.short,
    ) in
    all_counted arcs _ _ c.pass_arcs-passed.result.0 18446744073709551615 all.0 passed.0 few
