use Rattle.std.specs.Option.{option_map}
use Rattle.pk_documents.proofs.DocumentValues.{valued}
use Rattle.commands.proofs.AnyReplies.{said_one}
use Rattle.commands.proofs.any.said_as.Goals as goal

pub returns-clause-said : goal.returns-clause-said
returns-clause-said c =
    let task = c.args.task.now in
    let replied = c.run_in_memory-outcome.ensures.replied in
    said_one valued task.action (option_map (λ r. r.now) c.args.file) task.limits c.args.octets.now task.kind
    c.kept.result c.run_in_memory-outcome.result.1.items c.run_in_memory-outcome.result.0 replied.0 c.kept.ensures replied.1
