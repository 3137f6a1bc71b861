use Rattle.std.proofs.Common.{arith, length, ◌-◌}
use Rattle.explain.proofs.Ordered.{all_ordered, none_ordered, one_more_ordered}
use Rattle.explain.proofs.listing.causes.causes_of.Goals as goal

pub loop-back-init : goal.loop-back-init
loop-back-init c =
    none_ordered c.args.octets.now c.args.elements.now (length c.args.elements.now - 0) _ (omega arith)
    c.in_ok-causes.ensures

pub loop-back-preserved : goal.loop-back-preserved
loop-back-preserved c =
    one_more_ordered c.args.octets.now c.args.elements.now (length c.args.elements.now - c.loop-back.back) _ _ _ _
    (omega arith) (omega arith) c.loop-back.invariant c.set_order.ensures

pub returns : goal.returns
returns c =
    all_ordered c.args.octets.now c.args.elements.now (length c.args.elements.now - c.loop-back.back) _ (omega arith)
    c.loop-back.invariant
