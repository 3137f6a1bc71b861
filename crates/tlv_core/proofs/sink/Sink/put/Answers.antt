use Rattle.std.proofs.Common.{rules, arith}
use Rattle.tlv_core.proofs.Puts.{Appends-next}
use Rattle.tlv_core.proofs.sink.Sink.put.Goals as goal

pub loop-at-preserved : goal.loop-at-preserved
loop-at-preserved g c = (
  c.loop-at.invariant.0,
  search rules,
  search rules,
  omega (arith, c.loop-at.invariant.3),
  Appends-next _ _ _ _ _ _ c.loop-at.invariant.4 c.in-Ok.ensures.octets,
)
