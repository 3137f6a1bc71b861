use Rattle.std.proofs.Common.{◌∙◌, arith, drop, subst, sym}
use Rattle.tlv_core.specs.ObjectIdentifier.{IsObjectIdentifier, ObjectIdentifierOctets}
use Rattle.tlv_core.proofs.ObjectIdentifiers.{first_told, later_told, second_told}
use Rattle.tlv_core.proofs.oid.Oid.arc.Goals as goal

pub leading_arcs-first-requires : goal.leading_arcs-first-requires
leading_arcs-first-requires c = subst (λ s. IsObjectIdentifier s) (sym c.contents.ensures.value) c.contents.ensures.is

pub returns-then-i-eq0-clause-value : goal.returns-then-i-eq0-clause-value
returns-then-i-eq0-clause-value c = λ arcs h.
    let all =
    c.leading_arcs-first.ensures.all arcs
    (subst (λ s. ObjectIdentifierOctets arcs s) (sym c.contents.ensures.value) h) in
    first_told arcs c.leading_arcs-first.result.0 c.leading_arcs-first.result.1 c.args.i all.0 c.if-i-eq0.true

pub returns-then-i-eq1-clause-value : goal.returns-then-i-eq1-clause-value
returns-then-i-eq1-clause-value c = λ arcs h.
    let all =
    c.leading_arcs-first.ensures.all arcs
    (subst (λ s. ObjectIdentifierOctets arcs s) (sym c.contents.ensures.value) h) in
    second_told arcs c.leading_arcs-first.result.0 c.leading_arcs-first.result.1 c.args.i all.0 c.if-i-eq1.true

pub returns-clause-value : goal.returns-clause-value
returns-clause-value c = λ arcs h.
    let all =
    c.leading_arcs-first.ensures.all arcs
    (subst (λ s. ObjectIdentifierOctets arcs s) (sym c.contents.ensures.value) h) in
    let passed = c.pass_arcs.ensures.arcs (drop 2 arcs) all.1 in
    let k = c.pass_arcs.result.0 in
    (c.next.ensures.arc (drop k (drop 2 arcs)) passed.1).0
    ∙ later_told arcs c.leading_arcs-first.result.0 c.leading_arcs-first.result.1 c.args.i k all.0
    (omega (arith, c.if-i-eq0.false, c.if-i-eq1.false)) passed.0
