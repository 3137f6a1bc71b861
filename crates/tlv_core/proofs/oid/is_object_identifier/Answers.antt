use Rattle.std.proofs.Common.{arith}
use Rattle.std.proofs.lemmas.Bool.Decides.{nat_tests}
use Rattle.tlv_core.proofs.ObjectIdentifiers.{first_read, next_read, none_read}
use Rattle.tlv_core.proofs.oid.is_object_identifier.Goals as goal

pub loop-rest-init : goal.loop-rest-init
loop-rest-init c =
    let first = c.subidentifier_size-first.ensures.some (grind (arith, nat_tests)) in
    (_, first_read _ first.0 _ first.1 first.2)

pub returns-then-next-eq0 : goal.returns-then-next-eq0
returns-then-next-eq0 c =
    let before = c.loop-rest.invariant in (
      λ t. cc,
      λ is.
          absurd (none_read before.0 _ _ before.1 c.loop-rest-test.ensures
          (c.subidentifier_size-next.ensures.none c.if-next-eq0.true) is),
    )

pub loop-rest-preserved : goal.loop-rest-preserved
loop-rest-preserved c =
    let before = c.loop-rest.invariant in
    let next = c.subidentifier_size-next.ensures.some (grind (arith, nat_tests)) in
    (_, next_read before.0 _ _ next.0 _ before.1 next.1 next.2)
