use Rattle.std.proofs.Common.{MatchResult, string_bytes, subst, sym, ◌≡◌, false}
use Rattle.asn_documents.specs.WrittenValues.{WritesText}
use Rattle.asn_elements.specs.Whole.{IsFailedRead}
use Rattle.commands.specs.Replies.{WroteText, unread_outcome}
use Rattle.commands.proofs.Replies.{unread_fails, whole_says, written_fails, written_speaks}
use Rattle.commands.proofs.run.write_reply.Goals as goal

pub returns-in-Ok-clause-wrote : goal.returns-in-Ok-clause-wrote
returns-in-Ok-clause-wrote g c =
    let old = g.W.Target.contents c.args.dst.now in
    let new = g.W.Target.contents c.write_octets.new.dst in
    let failed = g.W.Target.has_failed c.write_octets.new.dst in
    let writes = subst (λ octets. WritesText octets old new failed c.write_octets.result) c.as_bytes.ensures.value
    c.write_octets.ensures in
    subst
    (λ reply. WroteText (λ it. string_bytes it.text) (λ it. it.whole) unread_outcome reply c.written.result old new
    failed (c.write_octets.new.dst ≡ c.args.dst.now))
    (sym c.in-Ok.is) (c.write_octets.result, c.written.ensures, writes)

pub returns-in-Ok-clause-unwritten : goal.returns-in-Ok-clause-unwritten
returns-in-Ok-clause-unwritten g c = λ silent.
    absurd (written_speaks c.write_octets.result c.written.result c.in-Ok.reply.whole c.written.ensures
    (whole_says c.in-Ok.reply.whole c.in-Ok.reply.says_all) silent)

pub returns-in-Ok-clause-failed : goal.returns-in-Ok-clause-failed
returns-in-Ok-clause-failed g c = λ source fine.
    let fine = subst (λ reply. MatchResult reply (λ _. source ≡ false) (IsFailedRead source)) c.in-Ok.is fine in
    written_fails c.as_bytes.result.now (g.W.Target.contents c.args.dst.now)
    (g.W.Target.contents c.write_octets.new.dst)
    c.write_octets.result c.written.result c.in-Ok.reply.whole source (g.W.Target.has_failed c.write_octets.new.dst)
    c.written.ensures (whole_says c.in-Ok.reply.whole c.in-Ok.reply.says_all) c.write_octets.ensures fine

pub returns-in-Err-clause-failed : goal.returns-in-Err-clause-failed
returns-in-Err-clause-failed g c = λ source fine.
    let why = subst (λ reply. MatchResult reply (λ _. source ≡ false) (IsFailedRead source)) c.in-Err.is fine in
    unread_fails c.in-Err.error _ source _ c.unread.ensures (why, c.requires.writable)
