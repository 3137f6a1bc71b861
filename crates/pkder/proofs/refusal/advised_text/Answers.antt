use Rattle.std.proofs.Common.{◌++◌, ◌∙◌, ap, codes}
use Rattle.commands.specs.Outcomes.{line_feed}
use Rattle.pkder.specs.CommandLines.{more, tip}
use Rattle.pkder.proofs.refusal.advised_text.Goals as goal

pub returns : goal.returns
returns c =
    let to_word = c.in_ok-push_str.ensures.bytes ∙ ap (λ t. t ++ c.args.word.now) c.in_ok-text.ensures.ok in
    let to_said = c.in_ok-push_str-2.ensures.bytes
    ∙ ap (λ t. t ++ (codes "' is not taken" ++ line_feed ++ line_feed)) to_word in
    let to_tip = c.in_ok-push_tip.ensures ∙ ap (λ t. t ++ tip c.args.advice.now) to_said in
    c.in_ok-push_str-3.ensures.bytes ∙ ap (λ t. t ++ more) to_tip
