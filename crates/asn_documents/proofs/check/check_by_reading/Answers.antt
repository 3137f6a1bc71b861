use Rattle.std.proofs.Common.{rules}
use Rattle.tlv_core.specs.declared.fault.ReadError.TheVariants as errors
use Rattle.asn_documents.proofs.ReadValues.{text_within}
use Rattle.asn_documents.proofs.CheckValues.{checked_still, failed_still, fine_still, no_memory, unchecked_still}
use Rattle.asn_documents.proofs.check.check_by_reading.Goals as goal

pub returns-in-Ok-clause-checked : goal.returns-in-Ok-clause-checked
returns-in-Ok-clause-checked g c =
    checked_still g.R.Source.remaining c.args.limits g.T.Element.type_term
    (g.T.DerText.value c.in-Ok.value) c.args.src.now c.new-keeping.result.src.now
    c.read_keeping-answer.new.keeping.src.now _ c.in-Ok.taken c.read_keeping-answer.new.keeping.kept.now.items
    c.new-keeping.result.kept.now.items c.difference_from_text.result
    c.new-keeping.ensures.same (search rules) (search rules) c.requires.lawful
    (search rules) c.in-Ok.ensures.reads c.in-Ok.ensures.whole (search rules)

pub returns-in-Ok-clause-read : goal.returns-in-Ok-clause-read
returns-in-Ok-clause-read g c =
    fine_still g.R.Source.has_failed c.read_keeping-answer.new.keeping.src.now _ (search rules)
    (c.read_keeping-answer.new.keeping.live c.in-Ok.ensures.read)

pub returns-then-keeping-clause-checked : goal.returns-then-keeping-clause-checked
returns-then-keeping-clause-checked g c =
    unchecked_still g.R.Source.remaining c.args.limits g.T.Element.type_term errors.Memory c.args.src.now
    c.new-keeping.result.src.now c.read_keeping-answer.new.keeping.src.now _ c.new-keeping.ensures.same
    (search rules) c.requires.lawful tt
    (no_memory c.args.limits g.T.Element.type_term c.in-Err.error _ _ c.in-Err.ensures.reads)

pub returns-then-keeping-clause-read : goal.returns-then-keeping-clause-read
returns-then-keeping-clause-read g c =
    fine_still g.R.Source.has_failed c.read_keeping-answer.new.keeping.src.now _ (search rules)
    (c.read_keeping-answer.new.keeping.memory (search rules)).1

pub returns-clause-checked : goal.returns-clause-checked
returns-clause-checked g c =
    unchecked_still g.R.Source.remaining c.args.limits g.T.Element.type_term c.in-Err.error c.args.src.now
    c.new-keeping.result.src.now c.read_keeping-answer.new.keeping.src.now _ c.new-keeping.ensures.same
    (search rules) c.requires.lawful c.in-Err.ensures.inside c.in-Err.ensures.reads

pub returns-clause-read : goal.returns-clause-read
returns-clause-read g c =
    failed_still g.R.Source.has_failed c.read_keeping-answer.new.keeping.src.now _
    c.read_keeping-answer.new.keeping.failed c.read_keeping-answer.new.keeping.refused c.in-Err.error
    (search rules) c.read_keeping-answer.new.keeping.live c.read_keeping-answer.new.keeping.broken
    (search rules) c.in-Err.ensures.read

pub difference_from_text-requires : goal.difference_from_text-requires
difference_from_text-requires g c =
    let within = text_within c.args.limits g.T.Element.type_term (g.T.DerText.value c.in-Ok.value) _ _ c.in-Ok.taken
    c.in-Ok.ensures.reads in
    search rules
