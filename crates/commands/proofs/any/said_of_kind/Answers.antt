use Rattle.std.specs.Option.{option_map}
use Rattle.pk_documents.proofs.DocumentValues.{valued}
use Rattle.commands.specs.Replies.{said_of_kind}
use Rattle.commands.proofs.AnyReplies.{said_more}
use Rattle.commands.proofs.any.said_of_kind.Goals as goal

pub returns-in-Ok-clause-said : goal.returns-in-Ok-clause-said
returns-in-Ok-clause-said c =
    let task = c.args.task.now in
    said_more valued task.action (option_map (λ r. r.now) c.args.file) task.limits c.args.octets.now task.kind
    c.said_as-end.result.0 c.in-Ok.text.items (said_of_kind task.action task.kind) c.said_as-end.result.1.items
    c.in-Ok.ensures c.said_as-end.ensures.said
