use Rattle.std.proofs.Common.{◌≡◌, ◌+◌, false, subst, sym, true}
use Rattle.std.specs.Option.{option_map}
use Rattle.pk_documents.specs.Kinds.{type_of}
use Rattle.pk_documents.proofs.DocumentValues.{valued}
use Rattle.explain.specs.Written.{written_text}
use Rattle.explain.specs.declared.profile.Profile.TheVariants.{General}
use Rattle.commands.specs.Inputs.{StopsTaking}
use Rattle.commands.specs.Replies.{DueOfCheck, DueOfOctets, DueOfShow, RepliedBy, StopsShowing, Unreadable}
use Rattle.commands.specs.Reported.{DueOfReport, DueOfShownReport, check_text}
use Rattle.commands.specs.declared.task.Action.TheVariants as actions
use Rattle.commands.proofs.Replies.{reply_replies}
use Rattle.commands.proofs.run.run_on_kind.Goals as goal

pub returns-in-Show-true-clause-replied : goal.returns-in-Show-true-clause-replied
returns-in-Show-true-clause-replied g c =
    let arm = c.in-Show-true in
    let l = c.args.task.now.limits in
    let kind = c.args.task.now.kind in
    let file = option_map (λ r. r.now) c.args.file in
    let before = g.R.Source.remaining c.args.src.now in
    let after = g.R.Source.remaining c.show_report.new.src in
    let old = c.args.dst.now in
    let new = c.write_reply.new.dst in
    let contents = g.W.Target.contents in
    let is : actions.Show true ≡ c.args.task.now.action = cc (arm.is, arm.json-is) in
    subst
    (λ action. RepliedBy valued action file kind l c.write_reply.result before after (contents old) (contents new)) is
    (reply_replies old new contents (g.W.Target.has_failed new) c.write_reply.result
    (λ error. StopsShowing l kind error before after)
    (DueOfOctets l (DueOfShownReport file l kind) before after) c.show_report.result
    c.show_report.ensures.replied c.write_reply.ensures.wrote)

pub returns-in-Show-false-clause-replied : goal.returns-in-Show-false-clause-replied
returns-in-Show-false-clause-replied g c =
    let arm = c.in-Show-false in
    let l = c.args.task.now.limits in
    let kind = c.args.task.now.kind in
    let file = option_map (λ r. r.now) c.args.file in
    let before = g.R.Source.remaining c.args.src.now in
    let after = g.R.Source.remaining c.show_lines.new.src in
    let old = c.args.dst.now in
    let new = c.write_reply-in-Show-false.new.dst in
    let contents = g.W.Target.contents in
    let is : actions.Show false ≡ c.args.task.now.action = cc (arm.is, arm.json-is) in
    subst (λ action.
    RepliedBy valued action file kind l c.write_reply-in-Show-false.result before after (contents old) (contents new))
    is
    (reply_replies old new contents (g.W.Target.has_failed new) c.write_reply-in-Show-false.result
    (λ error. Unreadable l (type_of kind) error before after) (DueOfShow valued l kind before after) c.show_lines.result
    c.show_lines.ensures.replied c.write_reply-in-Show-false.ensures.wrote)

pub returns-in-Check-true-default-default-clause-replied : goal.returns-in-Check-true-default-default-clause-replied
returns-in-Check-true-default-default-clause-replied g c =
    let arm = c.in-Check-true-default-default in
    let l = c.args.task.now.limits in
    let kind = c.args.task.now.kind in
    let file = option_map (λ r. r.now) c.args.file in
    let before = g.R.Source.remaining c.args.src.now in
    let after = g.R.Source.remaining c.check_report-reply.new.src in
    let old = c.args.dst.now in
    let new = c.write_reply-in-Check-true-default-default.new.dst in
    let contents = g.W.Target.contents in
    let is : actions.Check true arm.quiet arm.places ≡ c.args.task.now.action = cc (arm.is, arm.json-is) in
    subst (λ action.
    RepliedBy valued action file kind l c.write_reply-in-Check-true-default-default.result before after (contents old)
    (contents new)) is
    (reply_replies old new contents (g.W.Target.has_failed new) c.write_reply-in-Check-true-default-default.result
    (λ error. StopsTaking (l.octets + 1) error before after)
    (DueOfOctets l (DueOfReport (check_text arm.quiet arm.places file) General l kind) before after)
    c.check_report-reply.result
    c.check_report-reply.ensures.replied c.write_reply-in-Check-true-default-default.ensures.wrote)

pub returns-in-Check-false-default-default-clause-replied : goal.returns-in-Check-false-default-default-clause-replied
returns-in-Check-false-default-default-clause-replied g c =
    let arm = c.in-Check-false-default-default in
    let l = c.args.task.now.limits in
    let kind = c.args.task.now.kind in
    let file = option_map (λ r. r.now) c.args.file in
    let before = g.R.Source.remaining c.args.src.now in
    let after = g.R.Source.remaining c.check_line.new.src in
    let old = c.args.dst.now in
    let new = c.write_reply-in-Check-false-default-default.new.dst in
    let contents = g.W.Target.contents in
    let is : actions.Check false arm.quiet arm.places ≡ c.args.task.now.action = cc (arm.is, arm.json-is) in
    subst (λ action.
    RepliedBy valued action file kind l c.write_reply-in-Check-false-default-default.result before after (contents old)
    (contents new)) is
    (reply_replies old new contents (g.W.Target.has_failed new) c.write_reply-in-Check-false-default-default.result
    (λ error. Unreadable l (type_of kind) error before after)
    (DueOfCheck arm.quiet l (type_of kind) before after) c.check_line.result
    c.check_line.ensures.replied c.write_reply-in-Check-false-default-default.ensures.wrote)

pub returns-in-Explain-clause-replied : goal.returns-in-Explain-clause-replied
returns-in-Explain-clause-replied g c =
    let arm = c.in-Explain in
    let l = c.args.task.now.limits in
    let kind = c.args.task.now.kind in
    let file = option_map (λ r. r.now) c.args.file in
    let before = g.R.Source.remaining c.args.src.now in
    let after = g.R.Source.remaining c.explain_report.new.src in
    let old = c.args.dst.now in
    let new = c.write_reply-in-Explain.new.dst in
    let contents = g.W.Target.contents in
    let is : actions.Explain arm.form ≡ c.args.task.now.action = sym arm.is in
    subst (λ action.
    RepliedBy valued action file kind l c.write_reply-in-Explain.result before after (contents old) (contents new)) is
    (reply_replies old new contents (g.W.Target.has_failed new) c.write_reply-in-Explain.result
    (λ error. StopsTaking (l.octets + 1) error before after)
    (DueOfOctets l (DueOfReport (written_text arm.form file) arm.form.profile l kind) before after)
    c.explain_report.result
    c.explain_report.ensures.replied c.write_reply-in-Explain.ensures.wrote)
