use Rattle.std.proofs.Common.{arith}
use Rattle.tlv_core.proofs.Headers.{leading_pushed, leading_empty}
use Rattle.tlv_core.proofs.subidentifier.+push_leading_base128.Goals as goal

pub returns-in_ok-push : goal.returns-in_ok-push
returns-in_ok-push t c =
    leading_pushed _ _ _ c.args.number c.if-number-gt0.true c.in_ok-push_leading_base128.ensures
    c.in_ok-push.ensures.items

pub returns-else-number-gt0 : goal.returns-else-number-gt0
returns-else-number-gt0 t c = leading_empty _ c.args.number (omega arith)
