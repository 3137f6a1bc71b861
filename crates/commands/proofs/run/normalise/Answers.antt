use Rattle.pk_documents.specs.Kinds.{type_of}
use Rattle.commands.proofs.Replies.{no_block}
use Rattle.commands.proofs.run.normalise.Goals as goal

pub returns-in-Err-clause-replied : goal.returns-in-Err-clause-replied
returns-in-Err-clause-replied g c =
    no_block c.args.task.now.limits (type_of c.args.task.now.kind) (g.R.Source.remaining c.args.src.now)
    (g.W.Target.contents c.args.dst.now) (g.W.Target.contents c.args.dst.now)
