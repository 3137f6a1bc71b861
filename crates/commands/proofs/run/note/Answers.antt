use Rattle.std.proofs.Common.{◌+◌, subst, sym}
use Rattle.std.specs.Option.{option_map}
use Rattle.commands.specs.Inputs.{StopsTaking}
use Rattle.commands.specs.Replies.{DueOfOctets, RepliedNoting, StopsShowing}
use Rattle.commands.specs.Reported.{DueOfNoted, DueOfNotedLines}
use Rattle.commands.proofs.Replies.{reply_replies}
use Rattle.commands.proofs.run.note.Goals as goal

pub returns-then-noting-clause-replied : goal.returns-then-noting-clause-replied
returns-then-noting-clause-replied g c =
    let l = c.args.task.now.limits in
    let kind = c.args.task.now.kind in
    let file = option_map (λ r. r.now) c.args.file in
    let before = g.R.Source.remaining c.args.src.now in
    let after = g.R.Source.remaining c.note_report.new.src in
    let old = c.args.dst.now in
    let new = c.write_reply.new.dst in
    let contents = g.W.Target.contents in
    subst
    (λ json. RepliedNoting json c.args.noting file l kind c.write_reply.result before after (contents old) (contents new))
    (sym c.if-noting.true)
    (reply_replies old new contents (g.W.Target.has_failed new) c.write_reply.result
    (λ error. StopsTaking (l.octets + 1) error before after)
    (DueOfOctets l (DueOfNoted c.args.noting file l kind) before after) c.note_report.result
    c.note_report.ensures.replied c.write_reply.ensures.wrote)

pub returns-clause-replied : goal.returns-clause-replied
returns-clause-replied g c =
    let l = c.args.task.now.limits in
    let kind = c.args.task.now.kind in
    let file = option_map (λ r. r.now) c.args.file in
    let before = g.R.Source.remaining c.args.src.now in
    let after = g.R.Source.remaining c.note_lines.new.src in
    let old = c.args.dst.now in
    let new = c.write_reply-2.new.dst in
    let contents = g.W.Target.contents in
    subst
    (λ json. RepliedNoting json c.args.noting file l kind c.write_reply-2.result before after (contents old)
    (contents new))
    (sym c.if-noting.false)
    (reply_replies old new contents (g.W.Target.has_failed new) c.write_reply-2.result
    (λ error. StopsShowing l kind error before after)
    (DueOfOctets l (DueOfNotedLines c.args.noting l kind) before after) c.note_lines.result
    c.note_lines.ensures.replied c.write_reply-2.ensures.wrote)
