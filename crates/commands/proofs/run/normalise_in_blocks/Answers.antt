use Rattle.std.proofs.Common.{◌≡◌, [], ap, le_of_eq, refl, subst, sym, take}
use Rattle.std.specs.Io.KnownBytes.{Appends, append_known}
use Rattle.x690.specs.DerTexts.{der}
use Rattle.asn_documents.specs.Normalised.{FailedAs, IsRead}
use Rattle.asn_documents.specs.WholeInputs.{RefusedWhole}
use Rattle.asn_documents.specs.declared.normalise.NormaliseError.TheVariants.{Write}
use Rattle.pk_documents.specs.Kinds.{type_of}
use Rattle.commands.specs.BlockTargets.{has_failed_under, held, target_of}
use Rattle.commands.specs.Replies.{FailedBy, RepliedTo}
use Rattle.commands.specs.declared.outcome.Outcome.TheVariants as outcomes
use Rattle.commands.specs.KnownOctets.{known_length}
use Rattle.commands.proofs.BlockTargets.{at_last, none_waits}
use Rattle.commands.proofs.Replies.{cut_replies, normalised_replies, unread_fails, unread_in_blocks, written_fails, written_speaks}
use Rattle.commands.proofs.run.normalise_in_blocks.Goals as goal

pub invariant_of-blocks-clause-no_shorter : goal.invariant_of-blocks-clause-no_shorter
invariant_of-blocks-clause-no_shorter g c = le_of_eq (ap known_length (sym c.requires.before))

pub returns-in-Ok-clause-replied : goal.returns-in-Ok-clause-replied
returns-in-Ok-clause-replied g c =
    let l = c.args.task.now.limits in
    let T = type_of c.args.task.now.kind in
    let before = g.R.Source.remaining c.args.src.now in
    let after = g.R.Source.remaining c.normalise_whole_document.new.src in
    let came = held c.normalise_whole_document.new.dst in
    let out = g.W.Target.contents (target_of c.close-count.new.self) in
    let n = c.in-Ok.ensures.normalised in
    let begun : Appends g.K.Start.before came (der n.0) =
    subst (λ o. Appends o came (der n.0)) (none_waits (g.W.Target.contents c.args.dst.now) g.K.Start.before
    c.requires.before) n.1.writes in
    at_last (λ w. RepliedTo l T c.written.result before after (g.W.Target.contents c.args.dst.now)
    (g.W.Target.contents w)) (target_of c.close-count.new.self) _ c.into_target.ensures.now
    (subst (λ o. RepliedTo l T c.written.result before after o out) (sym c.requires.before)
    (normalised_replies l T n.0 before after (append_known (g.W.Target.contents c.args.dst.now) []) came
    g.K.Start.before out
    (has_failed_under c.close-count.new.self)
    c.close-count.result c.written.result c.written.ensures c.in-Ok.ensures.ends
    (c.close-count.ensures.out (der n.0) (n.1.written_are, begun, c.in-Ok.ensures.failed.1))
    c.in-Ok._taken c.in-Ok.count
    n.1))

pub returns-in-Ok-clause-unwritten : goal.returns-in-Ok-clause-unwritten
returns-in-Ok-clause-unwritten g c = λ silent.
    absurd (written_speaks c.close-count.result c.written.result outcomes.Done c.written.ensures tt silent)

pub returns-in-Ok-clause-failed : goal.returns-in-Ok-clause-failed
returns-in-Ok-clause-failed g c =
    let came = held c.normalise_whole_document.new.dst in
    let out = g.W.Target.contents (target_of c.close-count.new.self) in
    let n = c.in-Ok.ensures.normalised in
    let begun : Appends g.K.Start.before came (der n.0) =
    subst (λ o. Appends o came (der n.0)) (none_waits (g.W.Target.contents c.args.dst.now) g.K.Start.before
    c.requires.before) n.1.writes in
    at_last (λ w. FailedBy c.written.result (g.R.Source.has_failed c.normalise_whole_document.new.src)
    (g.W.Target.has_failed w)) (target_of c.close-count.new.self) _ c.into_target.ensures.now
    (written_fails (der n.0) g.K.Start.before out c.close-count.result c.written.result outcomes.Done
    (g.R.Source.has_failed c.normalise_whole_document.new.src)
    (has_failed_under c.close-count.new.self) c.written.ensures
    tt
    (c.close-count.ensures.out (der n.0) (n.1.written_are, begun, c.in-Ok.ensures.failed.1)) c.in-Ok.ensures.failed.0)

pub returns-in-Err-Write-clause-replied : goal.returns-in-Err-Write-clause-replied
returns-in-Err-Write-clause-replied g c =
    let l = c.args.task.now.limits in
    let T = type_of c.args.task.now.kind in
    let before = g.R.Source.remaining c.args.src.now in
    let after = g.R.Source.remaining c.normalise_whole_document.new.src in
    let first = append_known (g.W.Target.contents c.args.dst.now) [] in
    let came = held c.normalise_whole_document.new.dst in
    let out = g.W.Target.contents (target_of c.close-count-in-Err-Write.new.self) in
    let error = c.in-Err-Write.error in
    let refused : RefusedWhole l T (Write error) before after first came =
    subst (λ e. RefusedWhole l T e before after first came) c.in-Err-Write.field-0-is c.in-Err-Write.ensures.refused in
    let failed : FailedAs (Write error) (g.R.Source.has_failed c.normalise_whole_document.new.src)
    (has_failed_under c.normalise_whole_document.new.dst) = subst (λ e. FailedAs e
    (g.R.Source.has_failed c.normalise_whole_document.new.src) (has_failed_under c.normalise_whole_document.new.dst))
    c.in-Err-Write.field-0-is
    c.in-Err-Write.ensures.failed in
    let part = refused.0.1 in
    let text = der refused.0.0 in
    let begun = subst (λ o. Appends o came (take error.written (der refused.0.0))) (none_waits
    (g.W.Target.contents c.args.dst.now) g.K.Start.before c.requires.before) part.writes in
    at_last (λ w. RepliedTo l T c.written-in-Err-Write.result before after (g.W.Target.contents c.args.dst.now)
    (g.W.Target.contents w)) (target_of c.close-count-in-Err-Write.new.self) _ c.into_target-in-Err-Write.ensures.now
    (subst (λ o. RepliedTo l T c.written-in-Err-Write.result before after o out) (sym c.requires.before)
    (cut_replies l T refused.0.0 before after first came g.K.Start.before out
    (has_failed_under c.close-count-in-Err-Write.new.self)
    c.close-count-in-Err-Write.result c.written-in-Err-Write.result c.written-in-Err-Write.ensures refused.1
    (c.close-count-in-Err-Write.ensures.out text (part.within, begun, failed.1)) error.written part
    (c.close-count-in-Err-Write.ensures.failed refl)))

pub returns-in-Err-Write-clause-unwritten : goal.returns-in-Err-Write-clause-unwritten
returns-in-Err-Write-clause-unwritten g c = λ silent.
    absurd (written_speaks c.close-count-in-Err-Write.result c.written-in-Err-Write.result outcomes.Done
    c.written-in-Err-Write.ensures tt silent)

pub returns-in-Err-Write-clause-failed : goal.returns-in-Err-Write-clause-failed
returns-in-Err-Write-clause-failed g c =
    let l = c.args.task.now.limits in
    let T = type_of c.args.task.now.kind in
    let before = g.R.Source.remaining c.args.src.now in
    let after = g.R.Source.remaining c.normalise_whole_document.new.src in
    let first = append_known (g.W.Target.contents c.args.dst.now) [] in
    let came = held c.normalise_whole_document.new.dst in
    let out = g.W.Target.contents (target_of c.close-count-in-Err-Write.new.self) in
    let error = c.in-Err-Write.error in
    let refused : RefusedWhole l T (Write error) before after first came =
    subst (λ e. RefusedWhole l T e before after first came) c.in-Err-Write.field-0-is c.in-Err-Write.ensures.refused in
    let failed : FailedAs (Write error) (g.R.Source.has_failed c.normalise_whole_document.new.src)
    (has_failed_under c.normalise_whole_document.new.dst) = subst (λ e. FailedAs e
    (g.R.Source.has_failed c.normalise_whole_document.new.src) (has_failed_under c.normalise_whole_document.new.dst))
    c.in-Err-Write.field-0-is
    c.in-Err-Write.ensures.failed in
    let part = refused.0.1 in
    let begun = subst (λ o. Appends o came (take error.written (der refused.0.0))) (none_waits
    (g.W.Target.contents c.args.dst.now) g.K.Start.before c.requires.before) part.writes in
    at_last (λ w. FailedBy c.written-in-Err-Write.result (g.R.Source.has_failed c.normalise_whole_document.new.src)
    (g.W.Target.has_failed w)) (target_of c.close-count-in-Err-Write.new.self) _ c.into_target-in-Err-Write.ensures.now
    (written_fails (der refused.0.0) g.K.Start.before out c.close-count-in-Err-Write.result
    c.written-in-Err-Write.result outcomes.Done _ _
    c.written-in-Err-Write.ensures tt (c.close-count-in-Err-Write.ensures.out (der refused.0.0)
    (part.within, begun, failed.1)) failed.0)

pub returns-in-Err-Read-clause-replied : goal.returns-in-Err-Read-clause-replied
returns-in-Err-Read-clause-replied g c =
    let l = c.args.task.now.limits in
    let T = type_of c.args.task.now.kind in
    let before = g.R.Source.remaining c.args.src.now in
    let after = g.R.Source.remaining c.normalise_whole_document.new.src in
    let first = append_known (g.W.Target.contents c.args.dst.now) [] in
    let came = held c.normalise_whole_document.new.dst in
    unread_in_blocks l T c.in-Err-Read.error _ before after first came _ _ c.unread.ensures
    (subst (λ e. RefusedWhole l T e before after first came) c.in-Err-Read.field-0-is c.in-Err-Read.ensures.refused)

pub returns-in-Err-Read-clause-unwritten : goal.returns-in-Err-Read-clause-unwritten
returns-in-Err-Read-clause-unwritten g c = λ silent.
    at_last (λ w. w ≡ c.args.dst.now)
    (target_of c.normalise_whole_document.new.dst) _ c.into_target-in-Err-Read.ensures.now
    (ap target_of (c.in-Err-Read.ensures.unwritten (subst IsRead (sym c.in-Err-Read.field-0-is) tt)))

pub returns-in-Err-Read-clause-failed : goal.returns-in-Err-Read-clause-failed
returns-in-Err-Read-clause-failed g c =
    at_last (λ w. FailedBy c.unread.result (g.R.Source.has_failed c.normalise_whole_document.new.src)
    (g.W.Target.has_failed w)) (target_of c.normalise_whole_document.new.dst) _ c.into_target-in-Err-Read.ensures.now
    (unread_fails c.in-Err-Read.error _ _ _ c.unread.ensures
    (subst (λ e. FailedAs e (g.R.Source.has_failed c.normalise_whole_document.new.src)
    (has_failed_under c.normalise_whole_document.new.dst)) c.in-Err-Read.field-0-is c.in-Err-Read.ensures.failed))
