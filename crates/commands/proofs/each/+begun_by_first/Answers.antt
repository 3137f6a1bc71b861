use Rattle.commands.proofs.EachSteps.{begun_by_both}
use Rattle.commands.proofs.each.+begun_by_first.Goals as goal

pub returns : goal.returns
returns t c =
    begun_by_both c.args.limits c.args.octets.now c.args.kinds.now _ c.in_ok-begun.begun c.in_ok-later.later
    c.begun_so.result c.in-len1-up.len_at_least c.in_default-begun.not-Document c.in_ok-begun.ensures
    c.in_ok-later.ensures (c.begun_so.ensures c.args.limits c.args.octets.now)
