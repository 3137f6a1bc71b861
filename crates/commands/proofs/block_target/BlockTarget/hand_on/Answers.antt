use Rattle.commands.proofs.BlockTargets.{kept_after}
use Rattle.commands.proofs.block_target.BlockTarget.hand_on.Goals as goal

pub returns-in-Err-clause-kept : goal.returns-in-Err-clause-kept
returns-in-Err-clause-kept g c =
    let old = c.args.self.now in
    kept_after (g.W.Target.contents old.target.now) (g.W.Target.contents c.write_octets.new.dst) old.block.items _
    old.begin old.end c.in-Err.error.written c.deref.ensures.value old.ordered c.in-Err.ensures.0 c.in-Err.ensures.1
