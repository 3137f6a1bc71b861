use Rattle.std.proofs.Common.{◌∙◌, ◌++◌, ℕ, Bor, List, [], ap, get_or, sym}
use Rattle.asn_elements.proofs.CutTexts.{joined_more}
use Rattle.asn_open_values.proofs.texts.joined.Goals as goal

pub loop-text-preserved : goal.loop-text-preserved
loop-text-preserved c =
    let texts = c.args.texts.now in
    let i = c.loop-text.text-index in
    let d : Bor (List ℕ) = record { ref_ptr = (0, 0); now = [] } in
    c.in_ok-extend_from_slice.ensures.items
    ∙ (ap (λ z. z ++ (get_or texts i d).now) c.loop-text.invariant
    ∙ sym (joined_more (λ t. t.now) texts i d c.loop-text-test.true))
