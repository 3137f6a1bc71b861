use Rattle.std.proofs.Common.{◌∙◌, ◌≡◌, Err, IfOk, MatchResult, Ok, Result, ap, false, refl, rules}
use Rattle.tlv_core.specs.declared.fault.ReadError.TheVariants.{Memory as MemoryRead}
use Rattle.x690.specs.Answers.{Spelled}
use Rattle.x690.specs.DerTexts.{der}
use Rattle.asn_documents.proofs.WholeInputs.{unread_whole}
use Rattle.pk_documents.specs.Kinds.{type_of}
use Rattle.pk_documents.specs.RequestParts.{part_of}
use Rattle.pk_documents.specs.declared.kind.Kind.TheVariants.{Request}
use Rattle.pkcs10.specs.Requests.{request_value_of}
use Rattle.pk_documents.proofs.LawfulKinds.{kinds_are_lawful}
use Rattle.pk_documents.proofs.RequestParts.{part_same}
use Rattle.commands.specs.Outcomes.{IsWhole}
use Rattle.commands.specs.Replies.{DueOfValue, FailedBy, Unreadable}
use Rattle.commands.specs.declared.outcome.Outcome.TheVariants as outcomes
use Rattle.commands.proofs.Replies.{due_of_value, no_memory, text_fails, text_replies, text_silent, unread_fails, unread_replies}
use Rattle.commands.proofs.run.extract_written.Goals as goal

-- one text, whatever the block
with_or_without : {S E : Type 0} (P Q : Type 0) (block : Result S E) → P → Q → MatchResult block (λ _. P) (λ _. Q)
with_or_without P Q (Ok block) p q = p
with_or_without P Q (Err error) p q = q

is_whole : {S E : Type 0} (block : Result S E) → IfOk block (λ _. IsWhole outcomes.Done)
is_whole (Ok block) = tt
is_whole (Err error) = tt

pub returns-in-Ok-clause-replied : goal.returns-in-Ok-clause-replied
returns-in-Ok-clause-replied g c =
    let l = c.args.limits in
    let T = type_of Request in
    let part = c.args.part in
    let text = part_of part (request_value_of c.in-Ok.request) in
    let before = g.R.Source.remaining c.args.src.now in
    let after = g.R.Source.remaining c.read_whole_input.new.src in
    let reads = c.in-Ok.ensures.reads in
    let due = due_of_value l T (part_of part) (part_same part) before after _ c.in-Ok._taken (kinds_are_lawful Request)
    (search rules) reads c.in-Ok.ensures.ends in
    text_replies (λ _. text) (λ _. outcomes.Done) (λ _. outcomes.Memory) c.args.dst.now c.write_part_text.new.dst
    g.W.Target.contents g.W.Target.has_failed c.write_part_text.result
    (λ error. Unreadable l T error before after) (DueOfValue l T (part_of part) before after) c.new_block.result
    (is_whole c.new_block.result)
    (with_or_without (DueOfValue l T (part_of part) before after outcomes.Done text)
    (Unreadable l T MemoryRead before after) c.new_block.result due
    (no_memory l T before after reads.octets (der (request_value_of c.in-Ok.request)) reads.takes
    (λ more. reads.answers more ∙ ap (Spelled (der (request_value_of c.in-Ok.request))) reads.taken_are)
    reads.spells.octets_fit))
    c.write_part_text.ensures

pub returns-in-Ok-clause-unwritten : goal.returns-in-Ok-clause-unwritten
returns-in-Ok-clause-unwritten g c =
    text_silent (λ _. part_of c.args.part (request_value_of c.in-Ok.request)) (λ _. outcomes.Done)
    (λ _. outcomes.Memory) c.args.dst.now c.write_part_text.new.dst g.W.Target.contents g.W.Target.has_failed
    c.write_part_text.result c.new_block.result (is_whole c.new_block.result) c.write_part_text.ensures

pub returns-in-Ok-clause-failed : goal.returns-in-Ok-clause-failed
returns-in-Ok-clause-failed g c =
    let source = g.R.Source.has_failed c.read_whole_input.new.src in
    text_fails (λ _. part_of c.args.part (request_value_of c.in-Ok.request)) (λ _. outcomes.Done)
    (λ _. outcomes.Memory) c.args.dst.now c.write_part_text.new.dst g.W.Target.contents g.W.Target.has_failed
    c.write_part_text.result c.new_block.result source (is_whole c.new_block.result) c.requires.writable
    (with_or_without (source ≡ false) (FailedBy outcomes.Memory source false) c.new_block.result c.in-Ok.ensures.read
    (c.in-Ok.ensures.read, refl))
    c.write_part_text.ensures

pub returns-in-Err-clause-replied : goal.returns-in-Err-clause-replied
returns-in-Err-clause-replied g c =
    let l = c.args.limits in
    let T = type_of Request in
    let before = g.R.Source.remaining c.args.src.now in
    let after = g.R.Source.remaining c.read_whole_input.new.src in
    let contents = g.W.Target.contents c.args.dst.now in
    unread_replies (λ error. Unreadable l T error before after)
    (DueOfValue l T (part_of c.args.part) before after) contents contents c.in-Err.error _ c.unread.ensures
    (unread_whole l T c.in-Err.error before after (kinds_are_lawful Request) c.in-Err.ensures.inside
    c.in-Err.ensures.reads)

pub returns-in-Err-clause-failed : goal.returns-in-Err-clause-failed
returns-in-Err-clause-failed g c =
    unread_fails c.in-Err.error _ _ _ c.unread.ensures (c.in-Err.ensures.read, c.requires.writable)
