use Rattle.std.proofs.Common.{◌∙◌, ◌≤◌, ap, arith, length, rules, subst, sym, take}
use Rattle.std.specs.Io.KnownBytes.{Appends, Consumes}
use Rattle.asn_documents.proofs.AtHand.{reads_at_hand}
use Rattle.asn_documents.proofs.ReadValues.{text_within}
use Rattle.asn_documents.proofs.Normalising.{in_part, normalised_as, unread_as}
use Rattle.asn_documents.proofs.normalise.normalise_value.Goals as goal

pub pass-requires : goal.pass-requires
pass-requires g c = omega (arith, ap length c.held-held.ensures, c.in-Some.ensures.within)

pub returns-in-Ok-clause-normalised : goal.returns-in-Ok-clause-normalised
returns-in-Ok-clause-normalised g c =
    let s = c.in-Some.ensures in
    let before = g.R.Source.remaining c.args.src.now in
    let after = g.R.Source.remaining c.pass.new.self in
    let reads = reads_at_hand c.args.limits g.T.Element.type_term c.held-held.result.now before after c.in-Some.taken
    c.requires.lawful s
    (subst (λ z. Consumes before after (take c.in-Some.taken z)) (sym c.held-held.ensures) c.pass.ensures.octets) in
    normalised_as c.args.limits g.T.Element.type_term s.value before after _ _ c.in-Some.taken c.in-Ok.written
    c.requires.lawful (search rules) reads (subst (Appends (g.W.Target.contents c.args.dst.now) (g.W.Target.contents c.write_octets-copied.new.dst)) s.text
    c.in-Ok.ensures.1)
    (c.in-Ok.ensures.0 ∙ ap length s.text)

pub returns-in-Err-clause-refused : goal.returns-in-Err-clause-refused
returns-in-Err-clause-refused g c =
    let s = c.in-Some.ensures in
    let before = g.R.Source.remaining c.args.src.now in
    let after = g.R.Source.remaining c.pass.new.self in
    let reads = reads_at_hand c.args.limits g.T.Element.type_term c.held-held.result.now before after c.in-Some.taken
    c.requires.lawful s
    (subst (λ z. Consumes before after (take c.in-Some.taken z)) (sym c.held-held.ensures) c.pass.ensures.octets) in
    in_part c.args.limits g.T.Element.type_term s.value before after _ _ c.in-Some.taken c.in-Err.error.written
    c.requires.lawful (search rules) reads (subst (λ z. c.in-Err.error.written ≤ length z) s.text c.in-Err.ensures.0)
    (subst (λ z. Appends (g.W.Target.contents c.args.dst.now) (g.W.Target.contents c.write_octets-copied.new.dst)
    (take c.in-Err.error.written z)) s.text c.in-Err.ensures.1)

pub returns-in_err-value-clause-refused : goal.returns-in_err-value-clause-refused
returns-in_err-value-clause-refused g c =
    let unread =
    unread_as c.args.limits g.T.Element.type_term c.in_err-value.field-0.0 (g.R.Source.remaining c.args.src.now)
    (g.R.Source.remaining c.read_value.new.src) c.requires.lawful c.in_err-value.ensures.inside
    c.in_err-value.ensures.reads in
    search rules

pub returns-in_err-written-clause-refused : goal.returns-in_err-written-clause-refused
returns-in_err-written-clause-refused g c =
    let part = in_part c.args.limits g.T.Element.type_term (g.T.DerText.value c.in_ok-value.value)
    (g.R.Source.remaining c.args.src.now) (g.R.Source.remaining c.read_value.new.src)
    (g.W.Target.contents c.args.dst.now)
    (g.W.Target.contents c.write_text.new.dst) c.in_ok-value.taken c.in_err-written.field-0.0.written c.requires.lawful
    (search rules) c.in_ok-value.ensures.reads
    c.in_err-written.ensures.0 c.in_err-written.ensures.1 in
    search rules

pub returns-clause-normalised : goal.returns-clause-normalised
returns-clause-normalised g c =
    normalised_as c.args.limits g.T.Element.type_term
    (g.T.DerText.value c.in_ok-value.value) _ _ _ _ c.in_ok-value.taken c.in_ok-written.written c.requires.lawful
    (search rules) c.in_ok-value.ensures.reads
    c.in_ok-written.ensures.1 c.in_ok-written.ensures.0

pub write_text-requires-clause-short : goal.write_text-requires-clause-short
write_text-requires-clause-short g c =
    let within = text_within c.args.limits g.T.Element.type_term (g.T.DerText.value c.in_ok-value.value)
    (g.R.Source.remaining c.args.src.now) _ c.in_ok-value.taken c.in_ok-value.ensures.reads in
    search rules
