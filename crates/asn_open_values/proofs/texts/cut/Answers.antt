use Rattle.std.proofs.Common.{◌∙◌, ◌<◌, ◌≤◌, arith, ap, length, map, sym}
use Rattle.std.proofs.lemmas.List.{length-map, take_all}
use Rattle.x690.specs.DerTexts.{der}
use Rattle.asn_elements.proofs.CutTexts.{cut_more}
use Rattle.asn_elements.proofs.MemberTexts.{starts_length}
use Rattle.asn_open_values.proofs.texts.cut.Goals as goal

pub loop-i-preserved : goal.loop-i-preserved
loop-i-preserved c = λ values stands.
    let n = ap length stands.1 ∙ (starts_length 0 values ∙ sym (length-map values der)) in
    let inside : c.loop-i.i < length (map der values) = omega (arith, c.loop-i-test.true) in
    ap (map (λ t. t.now)) c.in_ok-push.ensures.items
    ∙ cut_more (λ t. t.now) c.loop-i.texts.items c.text_at.result (map der values) c.loop-i.i inside
    (c.loop-i.invariant values stands) (c.text_at.ensures values stands)

pub returns : goal.returns
returns c = λ values stands.
    let n = ap length stands.1 ∙ (starts_length 0 values ∙ sym (length-map values der)) in
    let all : length (map der values) ≤ c.loop-i.i = omega (arith, c.loop-i-test.false) in
    c.loop-i.invariant values stands ∙ take_all c.loop-i.i (map der values) all
