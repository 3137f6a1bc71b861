use Rattle.std.proofs.Common.{arith, refl}
use Rattle.tlv_core.proofs.ObjectIdentifiers.{all_passed, one_passed, rest_length}
use Rattle.tlv_core.proofs.oid.pass_arcs.Goals as goal

pub loop-passed-init : goal.loop-passed-init
loop-passed-init c = (omega arith, omega arith, λ arcs h. (omega arith, h))

pub returns-in_default-clause-arcs : goal.returns-in_default-clause-arcs
returns-in_default-clause-arcs c = λ arcs h.
    let before = c.loop-passed.invariant.2 arcs h in
    let all = all_passed arcs c.loop-passed.passed _ before.1 (c.in_default.ensures.none refl) in
    (omega (arith, before.0, all, c.loop-passed-test.true), before.1)

pub returns-in_default-clause-within : goal.returns-in_default-clause-within
returns-in_default-clause-within c = omega (arith, c.loop-passed.invariant.1)

pub loop-passed-preserved : goal.loop-passed-preserved
loop-passed-preserved c =
    let found = c.in-Some in
    let rest = c.loop-passed.rest.now in
    let less = rest_length rest found.used in (
      omega (arith, c.loop-passed-test.true),
      omega (arith, less, found.ensures.some, found.ensures.within, c.loop-passed.invariant.1),
      λ arcs h.
          let before = c.loop-passed.invariant.2 arcs h in
          one_passed arcs c.loop-passed.passed rest found.field-0-0 found.used before.0 before.1 found.ensures.digits,
    )

pub returns-clause-arcs : goal.returns-clause-arcs
returns-clause-arcs c = λ arcs h.
    let before = c.loop-passed.invariant.2 arcs h in
    (omega (arith, before.0, c.loop-passed.invariant.0, c.loop-passed-test.false), before.1)

pub returns-clause-within : goal.returns-clause-within
returns-clause-within c = omega (arith, c.loop-passed.invariant.1)
