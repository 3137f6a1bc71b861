use Rattle.std.proofs.Common.{ap, rules, subst, sym, true, ◌∙◌, ◌≡◌}
use Rattle.std.specs.Option.{option_map}
use Rattle.pk_documents.proofs.DocumentValues.{valued}
use Rattle.commands.specs.Replies.{SaidOfLikely, after_none}
use Rattle.commands.proofs.AnyReplies.{said_more}
use Rattle.commands.proofs.any.said_of_likely.Goals as goal

pub returns-in-Ok-clause-said : goal.returns-in-Ok-clause-said
returns-in-Ok-clause-said c =
    let task = c.args.task.now in
    let file = option_map (λ r. r.now) c.args.file in
    let is : c.has_lines.result ≡ true = first_of (search rules, cc) in
    subst
    (λ is. SaidOfLikely valued task.action file task.limits c.args.octets.now (task.kind, c.args.fault) is
    c.said_as-end.result.0 c.in-Ok.text.items)
    (sym is ∙ c.has_lines.ensures)
    (said_more valued task.action file task.limits c.args.octets.now task.kind c.said_as-end.result.0 c.in-Ok.text.items
    after_none c.said_as-end.result.1.items (c.in-Ok.ensures ∙ ap after_none c.as_slice.ensures.value)
    c.said_as-end.ensures.said)
