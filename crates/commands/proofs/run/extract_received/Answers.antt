use Rattle.std.proofs.Common.{◌+◌, ◌≡◌, MatchResult, false, inl, subst, sym}
use Rattle.pk_documents.specs.declared.kind.Kind.TheVariants.{Request}
use Rattle.commands.specs.Inputs.{StopsTaking, TakesFirst}
use Rattle.commands.specs.Replies.{DueOfOctets, DueOfReceived, FailedBy, StopsShowing, unread_outcome}
use Rattle.commands.specs.declared.outcome.Outcome.TheVariants as outcomes
use Rattle.commands.proofs.Received.{all_whole, received_due, received_fine}
use Rattle.commands.proofs.Replies.{text_fails, text_replies, text_silent, unread_fails, unread_replies}
use Rattle.commands.proofs.run.extract_received.Goals as goal

pub returns-in-Ok-clause-replied : goal.returns-in-Ok-clause-replied
returns-in-Ok-clause-replied g c =
    let l = c.args.limits in
    let before = g.R.Source.remaining c.args.src.now in
    let after = g.R.Source.remaining c.read_all.new.src in
    let contents = g.W.Target.contents in
    let octets = c.as_slice.result.now in
    let taken : TakesFirst (l.octets + 1) before after octets =
    subst (λ o. TakesFirst (l.octets + 1) before after o) (sym c.as_slice.ensures.value)
    (subst (λ n. TakesFirst (n + 1) before after c.in-Ok.octets.items) c.octets.ensures.value c.in-Ok.ensures.takes) in
    text_replies (λ part. part.now) (λ _. outcomes.Done) unread_outcome c.args.dst.now c.write_received.new.dst contents
    g.W.Target.has_failed c.write_received.result
    (λ error. StopsShowing l Request error before after)
    (DueOfOctets l (DueOfReceived l) before after) c.received.result
    (all_whole (λ part. part.now) l octets c.received.result)
    (received_due (λ part. part.now) l octets before after (contents c.args.dst.now) (contents c.write_received.new.dst)
    c.received.result taken c.received.ensures.received c.received.ensures.refused)
    c.write_received.ensures

pub returns-in-Ok-clause-unwritten : goal.returns-in-Ok-clause-unwritten
returns-in-Ok-clause-unwritten g c =
    text_silent (λ part. part.now) (λ _. outcomes.Done) unread_outcome c.args.dst.now c.write_received.new.dst
    g.W.Target.contents g.W.Target.has_failed c.write_received.result c.received.result
    (all_whole (λ part. part.now) c.args.limits c.as_slice.result.now c.received.result) c.write_received.ensures

pub returns-in-Ok-clause-failed : goal.returns-in-Ok-clause-failed
returns-in-Ok-clause-failed g c =
    let source = g.R.Source.has_failed c.read_all.new.src in
    text_fails (λ part. part.now) (λ _. outcomes.Done) unread_outcome c.args.dst.now c.write_received.new.dst
    g.W.Target.contents g.W.Target.has_failed c.write_received.result c.received.result source
    (all_whole (λ part. part.now) c.args.limits c.as_slice.result.now c.received.result) c.requires.writable
    (subst
    (λ failed.
    MatchResult c.received.result (λ _. failed ≡ false) (λ error. FailedBy (unread_outcome error) failed false))
    (sym c.in-Ok.ensures.read)
    (received_fine (λ part. part.now) c.args.limits c.as_slice.result.now c.received.result c.received.ensures.refused))
    c.write_received.ensures

pub returns-in-Err-clause-replied : goal.returns-in-Err-clause-replied
returns-in-Err-clause-replied g c =
    let l = c.args.limits in
    let before = g.R.Source.remaining c.args.src.now in
    let after = g.R.Source.remaining c.read_all.new.src in
    let contents = g.W.Target.contents c.args.dst.now in
    unread_replies (λ error. StopsShowing l Request error before after)
    (DueOfOctets l (DueOfReceived l) before after) contents contents c.in-Err.error _ c.unread.ensures
    (inl (subst (λ n. StopsTaking (n + 1) c.in-Err.error before after) c.octets.ensures.value c.in-Err.ensures.takes))

pub returns-in-Err-clause-failed : goal.returns-in-Err-clause-failed
returns-in-Err-clause-failed g c =
    unread_fails c.in-Err.error _ _ _ c.unread.ensures (c.in-Err.ensures.read, c.requires.writable)
