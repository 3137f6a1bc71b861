use Rattle.std.proofs.Common.{arith}
use Rattle.explain.proofs.Pieces.{skip_next, skip_none}
use Rattle.explain.proofs.document.places.pieces_from.Goals as goal

pub loop-rest-init : goal.loop-rest-init
loop-rest-init c = record { within = omega arith; skips = skip_none c.args.pieces.now }

pub loop-rest-preserved : goal.loop-rest-preserved
loop-rest-preserved c = record {
  within = omega arith;
  skips = skip_next c.args.pieces.now c.loop-rest.before c.loop-rest.rest.now c.in-len1-up.len_at_least
      c.loop-rest.invariant.skips;
}
