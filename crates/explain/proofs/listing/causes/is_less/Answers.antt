use Rattle.std.proofs.Common.{arith, ◌∙◌}
use Rattle.explain.proofs.Ordered.{less_after, less_at_end, less_here}
use Rattle.explain.proofs.listing.causes.is_less.Goals as goal

pub returns-then-one-other : goal.returns-then-one-other
returns-then-one-other c =
    less_here c.args.first.now c.args.second.now c.loop-i.i c.octet_at-one.result (omega arith) c.octet_at-one.ensures
    c.if-one-other.true
    ∙ c.loop-i.invariant

pub loop-i-preserved : goal.loop-i-preserved
loop-i-preserved c =
    less_after c.args.first.now c.args.second.now c.loop-i.i c.octet_at-one.result (omega arith) c.octet_at-one.ensures
    c.if-one-other.false
    ∙ c.loop-i.invariant

pub returns : goal.returns
returns c = less_at_end c.args.first.now c.args.second.now c.loop-i.i (omega arith) ∙ c.loop-i.invariant
